use Rattle.std.proofs.Common.{ℕ, ◌+◌, List, ◌++◌, take, get_or, sym, subst, arith}
use Rattle.ss_base.specs.declared.ids.Standing.{Standing}
use Rattle.champion_choice.specs.Scores.{id_at, AreCells}
use Rattle.champion_choice.proofs.PlaceLaws.{cells_none, cells_more}
use Rattle.champion_choice.proofs.ScoreLaws.{added_none, added_more, uncounted}
use Rattle.champion_choice.proofs.covered.add_list.Goals as goal

pub loop-standing-init : goal.loop-standing-init
loop-standing-init c = record {
  places = c.requires.places;
  added = added_none c.args.scores.now.items;
  cells = cells_none c.args.scores.now.items c.args.cells.now.items;
}

pub add_one-requires-clause-room : goal.add_one-requires-clause-room
add_one-requires-clause-room c =
    let d : Standing = record { id = record { session = 0; seq = 0 }; stamp = 0 } in
    let same = uncounted c.args.stood.now c.loop-standing.standing-index d c.requires.once c.loop-standing-test.true c.args.scores.now.items c.loop-standing.scores.items c.loop-standing.invariant.added in
    let room = c.requires.room (get_or c.args.stood.now c.loop-standing.standing-index d).id in
    omega (arith, same, room)

pub loop-standing-preserved : goal.loop-standing-preserved
loop-standing-preserved c =
    let i = c.loop-standing.standing-index in
    let below = c.loop-standing-test.true in
    let so = c.loop-standing.invariant in
    record {
      places = c.in_ok-place.ensures.places;
      added = added_more c.args.stood.now i _ c.requires.once below c.args.scores.now.items c.loop-standing.scores.items c.add_one.new.scores.items c.in_ok-place.place so.added c.in_ok-place.ensures.added;
      cells = λ before are.
          subst (λ (cs : List ℕ). AreCells (id_at c.add_one.new.scores.items) cs (before ++ take (i + 1) c.args.stood.now)) (sym c.in_ok-push.ensures.items)
          (cells_more c.args.stood.now i _ c.args.scores.now.items c.loop-standing.scores.items c.add_one.new.scores.items c.args.cells.now.items c.loop-standing.cells.items c.in_ok-place.place below so.cells c.in_ok-place.ensures.added before are);
    }
