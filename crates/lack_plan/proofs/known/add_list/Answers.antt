use Rattle.std.proofs.Common.{◌≡◌, ◌+◌, ◌<◌, true, false, [], ◌∷◌, ◌++◌, length, take, get_or, None, is_some, sym, subst, arith, rules}
use Rattle.std.specs.HashMap.{get}
use Rattle.std.proofs.lemmas.List.{take_more, take_all, length-take}
use Rattle.ss_base.specs.declared.name.Piece.{Piece}
use Rattle.ss_base.specs.Ids.{same_piece}
use Rattle.lack_plan.specs.Maps.{Joined}
use Rattle.lack_plan.proofs.MapLaws.{joins-found, joins-push, joins-known, some-of, none-of}
use Rattle.lack_plan.proofs.known.add_list.Goals as goal
use Rattle.lack_plan.proofs.known.add_list.Goals.{then-not-contains_key+in_ok-insert, else-not-contains_key}

pub loop-at-preserved : goal.loop-at-preserved
loop-at-preserved c =
    let at = c.loop-at.at in
    let pieces = c.args.pieces.now in
    let nothing : Piece = record { name = record { 0 = [] }; len = 0 } in
    let p = get_or pieces at nothing in
    let lt : at < length pieces = c.loop-at-test.true in
    let before = take at pieces in
    let more : take (at + 1) pieces ≡ before ++ p ∷ [] = take_more pieces at nothing lt in
    let old = c.args.places.now in
    let m = c.loop-at.places in
    let place : at ≡ length before = (let size = length-take at pieces in omega (arith, size, lt)) in
    subst (λ ps. (q : Piece) → Joined q c.args.which ps (get same_piece old q) (get same_piece c.if-not-contains_key.places q)) (sym more)
    (elim c.if-not-contains_key.branch [
      | then-not-contains_key+in_ok-insert w ↦
          let apart : is_some (get same_piece m p) ≡ false = search rules in
          let none : get same_piece m p ≡ None = none-of (get same_piece m p) apart in
          subst (λ n. (q : Piece) → Joined q c.args.which (before ++ p ∷ []) (get same_piece old q) (get same_piece n q)) (sym w.places-is)
          (joins-push c.args.which at before old m w.insert.new.self p place none w.in_ok-insert.ensures.updates c.loop-at.invariant)
      | else-not-contains_key w ↦
          let there : is_some (get same_piece m p) ≡ true = search rules in
          let found = some-of (get same_piece m p) there in
          subst (λ n. (q : Piece) → Joined q c.args.which (before ++ p ∷ []) (get same_piece old q) (get same_piece n q)) (sym w.places-is)
          (joins-found c.args.which before old m p found.0 found.1 c.loop-at.invariant)
    ])

pub returns : goal.returns
returns c = λ lists count known.
    let all : take c.loop-at.at c.args.pieces.now ≡ c.args.pieces.now = take_all c.loop-at.at c.args.pieces.now c.loop-at-test.false in
    joins-known c.args.which lists c.args.pieces.now c.args.places.now c.loop-at.places count
    (subst (λ ps. (q : Piece) → Joined q c.args.which ps (get same_piece c.args.places.now q) (get same_piece c.loop-at.places q)) all c.loop-at.invariant) known
