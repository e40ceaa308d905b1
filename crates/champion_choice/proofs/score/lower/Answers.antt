use Rattle.std.proofs.Common.{rules, get_or, refl, ◌∙◌}
use Rattle.ss_base.specs.declared.ids.Standing.{Standing}
use Rattle.champion_choice.specs.Scores.{id_at}
use Rattle.champion_choice.proofs.PlaceLaws.{cells_at, id_below, apart_same}
use Rattle.champion_choice.proofs.ScoreLaws.{lowered_none, lowered_more, one_less_at}
use Rattle.champion_choice.proofs.score.lower.Goals as goal

nobody : Standing
nobody = record { id = record { session = 0; seq = 0 }; stamp = 0 }

pub loop-i-init : goal.loop-i-init
loop-i-init c = lowered_none c.args.scores.now

pub bounds-cells-i : goal.bounds-cells-i
bounds-cells-i c = (cells_at (id_at c.args.scores.now) c.args.cells.now c.args.stood.now c.loop-i.i 0 nobody c.requires.cells c.loop-i-test.true).0

pub bounds-scores-cells : goal.bounds-scores-cells
bounds-scores-cells c =
    let at = cells_at (id_at c.args.scores.now) c.args.cells.now c.args.stood.now c.loop-i.i 0 nobody c.requires.cells c.loop-i-test.true in
    id_below c.loop-i.scores (get_or c.args.cells.now c.loop-i.i 0) (get_or c.args.stood.now c.loop-i.i nobody).id (c.loop-i.invariant.ids (get_or c.args.cells.now c.loop-i.i 0) ∙ at.1)

pub loop-i-preserved : goal.loop-i-preserved
loop-i-preserved c =
    let at = cells_at (id_at c.args.scores.now) c.args.cells.now c.args.stood.now c.loop-i.i 0 nobody c.requires.cells c.loop-i-test.true in
    let p = get_or c.args.cells.now c.loop-i.i 0 in
    lowered_more c.args.stood.now c.loop-i.i nobody c.requires.once c.loop-i-test.true
    c.args.scores.now c.loop-i.scores _ c.loop-i.invariant
    (one_less_at c.loop-i.scores p _ _ (get_or c.args.stood.now c.loop-i.i nobody).id
    (apart_same (id_at c.args.scores.now) (id_at c.loop-i.scores) c.loop-i.invariant.ids c.requires.apart)
    (c.loop-i.invariant.ids p ∙ at.1) refl refl c.saturating_sub-score.ensures)

pub offset_bounds-scores-cells : goal.offset_bounds-scores-cells
offset_bounds-scores-cells c =
    let at = cells_at (id_at c.args.scores.now) c.args.cells.now c.args.stood.now c.loop-i.i 0 nobody c.requires.cells c.loop-i-test.true in
    let below = id_below c.loop-i.scores (get_or c.args.cells.now c.loop-i.i 0) (get_or c.args.stood.now c.loop-i.i nobody).id (c.loop-i.invariant.ids (get_or c.args.cells.now c.loop-i.i 0) ∙ at.1) in
    search (rules, below)
