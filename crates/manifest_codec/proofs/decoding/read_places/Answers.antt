use Rattle.std.proofs.Common.{◌≡◌, ◌+◌, ◌-◌, ◌*◌, take, drop, ap, ◌∙◌, arith, ◌∷◌, [], length-append}
use Rattle.std.proofs.lemmas.List.Elements.{All-push}
use Rattle.manifest_codec.specs.Text.{place_text, IsPlace}
use Rattle.manifest_codec.proofs.FixedLaws.{read-more}
use Rattle.manifest_codec.proofs.decoding.read_places.Goals as goal

pub loop-i-preserved : goal.loop-i-preserved
loop-i-preserved c =
    let i = c.loop-i.i in
    let text = c.args.text.now in
    let place = c.read_place.result in
    let before = c.loop-i.invariant in
    let size : 12 * i + 12 - 12 * i ≡ 12 = omega arith in
    let part : place_text place ≡ take 12 (drop (12 * i) text) = c.read_place.ensures.text ∙ ap (λ k. take k (drop (12 * i) text)) size in
    let count = length-append c.loop-i.places.items (place ∷ []) in
    rw c.in_ok-push.ensures.items (record {
      read = read-more place_text 12 c.loop-i.places.items place text i before.read part;
      count = count ∙ omega arith;
      numbers = All-push IsPlace c.loop-i.places.items place before.numbers c.read_place.ensures.numbers;
    })
