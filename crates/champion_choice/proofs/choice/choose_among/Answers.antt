use Rattle.std.proofs.Common.{◌≡◌, ℕ, ◌+◌, ◌-◌, ◌++◌, [], ◌∷◌, suc, List, length, replicate, false, Option, Some, None, sym, ap, ◌∙◌, subst, arith, rules}
use Rattle.std.proofs.lemmas.List.{append-nil, append_assoc, length-map, length-replicate, with_items_is}
use Rattle.std.specs.Option.{option_map}
use Rattle.std.specs.Vec.{with_items}
use Rattle.ss_base.specs.Champions.{hooks_covered, uncovered, best, champions}
use Rattle.champion_choice.specs.declared.score.Score.{Score}
use Rattle.champion_choice.specs.Scores.{IsBestOf, hooks_at, stamp_at, id_at}
use Rattle.champion_choice.specs.Lists.{shown, remaining, marked, covered_by, ArePlaced}
use Rattle.champion_choice.proofs.ListLaws.{remaining_all, remaining_marked, length_marked, count_parts}
use Rattle.champion_choice.proofs.PlaceLaws.{placed_same}
use Rattle.champion_choice.proofs.ChoiceLaws.{IsRound, remaining_candidates, best_left, none_left, champions_over, champions_more, champions_none}
use Rattle.champion_choice.proofs.choice.choose_among.Goals as goal

rest_of : (a b whole : ℕ) → a + b ≡ whole → whole - a ≡ b
rest_of a b whole e = omega arith

less_zero : (n : ℕ) → n - 0 ≡ n
less_zero n = omega arith

pub loop-round-init : goal.loop-round-init
loop-round-init g c =
    let all = shown c.args.lists.now in
    let long = length-map c.args.lists.now (λ v. v.now) in
    let made : c.in_ok-covered.covered.items ≡ replicate (length c.args.lists.now) false = c.in_ok-covered.ensures.items_if_clones_equal (search rules) in
    let flags : c.in_ok-covered.covered.items ≡ replicate (length all) false = made ∙ ap (λ n. replicate n false) (sym long) in
    let rest : remaining c.in_ok-covered.covered.items all ≡ all = ap (λ f. remaining f all) flags ∙ remaining_all all in
    record {
      count = ap length c.new-chosen.ensures;
      fits = ap length made ∙ length-replicate (length c.args.lists.now) false;
      chosen = ap (λ ids. ids ++ champions (g.row.M - 0) (remaining c.in_ok-covered.covered.items all)) c.new-chosen.ensures ∙ ap (λ n. champions n (remaining c.in_ok-covered.covered.items all)) (less_zero g.row.M) ∙ ap (λ l. champions g.row.M l) rest;
      hooks = λ q. c.in_ok-scores.ensures.scored.hooks q ∙ ap (λ l. hooks_covered l q) (sym rest);
      stamps = c.in_ok-scores.ensures.scored.stamps;
      placed = c.in_ok-scores.ensures.placed;
    }

pub returns-in_default : goal.returns-in_default
returns-in_default g c =
    let all = shown c.args.lists.now in
    let flags = c.loop-round.covered.items in
    let rest = remaining flags all in
    let round : IsRound c.loop-round.scores.items all rest = record {
      tell = c.requires.stamps;
      hooks = c.loop-round.invariant.hooks;
      stamps = c.loop-round.invariant.stamps;
      within = remaining_candidates flags all;
    } in
    let m = c.loop-round.scores.items in
    let so =
    subst (λ (l : List Score). IsBestOf l None) c.as_slice.ensures.value
    (subst (λ (o : Option (ℕ × Score)). IsBestOf c.as_slice.result.now o) c.in_default.is c.best.ensures) in
    sym (append-nil c.loop-round.chosen.items)
    ∙ ap (λ ids. c.loop-round.chosen.items ++ ids) (sym (champions_none (g.row.M - c.loop-round._round) rest (none_left m all rest round so)))
    ∙ c.loop-round.invariant.chosen

pub loop-round-preserved : goal.loop-round-preserved
loop-round-preserved g c =
    let all = shown c.args.lists.now in
    let flags = c.loop-round.covered.items in
    let rest = remaining flags all in
    let m = c.loop-round.scores.items in
    let s = c.in-Some.champion.1 in
    let id = s.id in
    let long = length-map c.args.lists.now (λ v. v.now) in
    let fits : length flags ≡ length all = c.loop-round.invariant.fits ∙ sym long in
    let round : IsRound m all rest = record {
      tell = c.requires.stamps;
      hooks = c.loop-round.invariant.hooks;
      stamps = c.loop-round.invariant.stamps;
      within = remaining_candidates flags all;
    } in
    let so = subst (λ (l : List Score). IsBestOf l (Some (c.in-Some.champion.0, s))) c.as_slice.ensures.value c.in-Some.ensures in
    let first : best rest ≡ Some (record { id = id; stamp = s.stamp }) = best_left m all rest round c.loop-round.invariant.placed.apart c.in-Some.champion.0 s so in
    let made : c.cover.new.covered ≡ marked id all flags = c.cover.ensures.covered ∙ ap (λ f. marked id all f) c.as_mut_slice-in-loop-round.ensures.value in
    let same_len : length c.cover.new.covered ≡ c.loop-round.covered.len = ap length made ∙ length_marked id all flags ∙ sym c.loop-round.covered.ok.0 in
    let written = with_items_is c.loop-round.covered c.cover.new.covered same_len ∙ made in
    let next = ap (λ f. remaining f all) written ∙ remaining_marked id flags all fits in
    let n = c.cover.new.scores in
    let was = c.as_mut_slice.ensures.value in
    let scores_len : length n ≡ c.loop-round.scores.len = c.cover.auto.scores ∙ ap length was ∙ sym c.loop-round.scores.ok.0 in
    let scores = with_items_is c.loop-round.scores n scores_len in
    let left = g.row.M - (c.loop-round._round + 1) in
    let more : g.row.M - c.loop-round._round ≡ suc left = let below = c.loop-round-test.true in omega (arith, below) in
    let step : champions (g.row.M - c.loop-round._round) rest ≡ id ∷ champions left (uncovered id rest) =
    ap (λ n. champions n rest) more ∙ champions_more left rest (record { id = id; stamp = s.stamp }) first in
    record {
      count = c.push.ensures.len ∙ ap (λ n. n + 1) c.loop-round.invariant.count;
      fits = ap length written ∙ length_marked id all flags ∙ c.loop-round.invariant.fits;
      chosen =
          ap (λ ids. ids ++ champions left (remaining (with_items c.loop-round.covered c.cover.new.covered).items all)) c.push.ensures.items
          ∙ ap (λ l. (c.loop-round.chosen.items ++ id ∷ []) ++ champions left l) next
          ∙ append_assoc c.loop-round.chosen.items (id ∷ []) (champions left (uncovered id rest))
          ∙ ap (λ ids. c.loop-round.chosen.items ++ ids) (sym step)
          ∙ c.loop-round.invariant.chosen;
      hooks = λ q.
          ap (λ (l : List Score). hooks_at l q) scores
          ∙ c.cover.ensures.hooks q
          ∙ ap (λ (l : List Score). hooks_at l q - hooks_covered (covered_by id (remaining c.as_mut_slice-in-loop-round.result.now all)) q) was
          ∙ ap (λ n. n - hooks_covered (covered_by id (remaining c.as_mut_slice-in-loop-round.result.now all)) q) (c.loop-round.invariant.hooks q)
          ∙ ap (λ f. hooks_covered rest q - hooks_covered (covered_by id (remaining f all)) q) c.as_mut_slice-in-loop-round.ensures.value
          ∙ rest_of _ _ _ (count_parts id q rest)
          ∙ ap (λ l. hooks_covered l q) (sym next);
      stamps = λ q t is.
          c.loop-round.invariant.stamps q t
          (sym (ap (λ (l : List Score). stamp_at l q) was) ∙ sym (c.cover.ensures.stamps q) ∙ sym (ap (λ (l : List Score). stamp_at l q) scores) ∙ is);
      placed =
          subst (λ (l : List Score). ArePlaced l c.in_ok-scores.cells.items all) (sym scores)
          (placed_same m n c.in_ok-scores.cells.items all (λ p. c.cover.ensures.ids p ∙ ap (λ (l : List Score). id_at l p) was) c.loop-round.invariant.placed);
    }

pub returns : goal.returns
returns g c =
    let all = shown c.args.lists.now in
    let rest = remaining c.loop-round.covered.items all in
    let over : g.row.M - c.loop-round._round ≡ 0 = omega arith in
    sym (append-nil c.loop-round.chosen.items)
    ∙ ap (λ ids. c.loop-round.chosen.items ++ ids) (sym (ap (λ n. champions n rest) over ∙ champions_over rest))
    ∙ c.loop-round.invariant.chosen

pub cover-requires-clause-champion : goal.cover-requires-clause-champion
cover-requires-clause-champion g c =
    ap (λ (l : List Score). id_at l c.in-Some.champion.0) (c.as_mut_slice.ensures.value ∙ sym c.as_slice.ensures.value)
    ∙ ap (option_map (λ (s : Score). s.id)) c.in-Some.ensures.0
