use Rattle.std.proofs.Common.{◌<◌, take, length, List, [], sym, subst, arith}
use Rattle.std.proofs.lemmas.List.{length-map}
use Rattle.ss_base.specs.declared.ids.Standing.{Standing}
use Rattle.ss_base.specs.Champions.{candidates}
use Rattle.champion_choice.specs.declared.score.Score.{Score}
use Rattle.champion_choice.specs.Scores.{id_at, AreCells, ArePlaces, StandsOnce}
use Rattle.champion_choice.specs.Lists.{shown, HasAddedList, HasCells}
use Rattle.champion_choice.proofs.PlaceLaws.{cells_start, placed_all}
use Rattle.champion_choice.proofs.ListLaws.{scored_none, scored_more, candidates_more, count_bound, slice_at}
use Rattle.champion_choice.proofs.covered.scores_of.Goals as goal

pub loop-stood-init : goal.loop-stood-init
loop-stood-init c = record {
  places = subst (λ (m : List Score). ArePlaces c.in_ok-places.places m) (sym c.in_ok-scores.ensures.items) c.in_ok-places.ensures;
  scored = scored_none c.in_ok-scores.scores.items c.in_ok-scores.ensures.items;
  cells = cells_start (id_at c.in_ok-scores.scores.items) c.in_ok-cells.cells.items c.in_ok-cells.ensures.items;
}

pub add_list-requires-clause-once : goal.add_list-requires-clause-once
add_list-requires-clause-once c =
    let same = slice_at c.args.lists.now c.loop-stood.stood-index in
    let below : c.loop-stood.stood-index < length (shown c.args.lists.now) = omega (arith, length-map c.args.lists.now (λ v. v.now)) in
    subst StandsOnce (sym same) (c.requires c.loop-stood.stood-index [] below)

pub add_list-requires-clause-room : goal.add_list-requires-clause-room
add_list-requires-clause-room c q =
    let long = length-map c.args.lists.now (λ v. v.now) in
    let below = c.loop-stood-test.true in
    let few = count_bound (shown c.args.lists.now) c.loop-stood.stood-index q (omega (arith, long, below)) in
    let so = c.loop-stood.invariant.scored.hooks q in
    omega (arith, so, few, below)

pub loop-stood-preserved : goal.loop-stood-preserved
loop-stood-preserved c =
    let all = shown c.args.lists.now in
    let i = c.loop-stood.stood-index in
    let d : List Standing = [] in
    let m = c.loop-stood.scores.items in
    let n = c.add_list.new.scores.items in
    let same = slice_at c.args.lists.now i in
    let below : i < length all = omega (arith, length-map c.args.lists.now (λ v. v.now)) in
    record {
      places = c.in_ok-add_list.ensures.places;
      scored = scored_more all i d m n below c.loop-stood.invariant.scored (subst (λ (stood : List Standing). HasAddedList m n stood) same c.in_ok-add_list.ensures.added);
      cells =
          subst (λ (l : List Standing). AreCells (id_at n) c.add_list.new.cells.items l) (sym (candidates_more all i d below))
          (subst (λ (stood : List Standing). HasCells m c.loop-stood.cells.items n c.add_list.new.cells.items stood) same c.in_ok-add_list.ensures.cells (candidates (take i all)) c.loop-stood.invariant.cells);
    }

pub returns-clause-placed : goal.returns-clause-placed
returns-clause-placed c =
    let long = length-map c.args.lists.now (λ v. v.now) in
    placed_all (shown c.args.lists.now) c.loop-stood.stood-index c.loop-stood.places c.loop-stood.scores.items c.loop-stood.cells.items (let over = c.loop-stood-test.false in omega (arith, long, over))
    c.loop-stood.invariant.places c.loop-stood.invariant.cells
