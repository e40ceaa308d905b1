use Rattle.std.proofs.Common.{arith, refl, sym, ◌∙◌}
use Rattle.champion_choice.proofs.BestLaws.{best_start, best_stays, best_next, no_best, best_is}
use Rattle.champion_choice.proofs.score.best.Goals as goal
use Rattle.champion_choice.proofs.score.best.Goals.{then-is_ahead, else-is_ahead}

pub loop-place-init : goal.loop-place-init
loop-place-init c = best_start c.args.scores.now 0 _ refl

pub loop-place-preserved : goal.loop-place-preserved
loop-place-preserved c =
    let m = c.args.scores.now in
    let i = c.loop-place.place in
    let below = c.loop-place-test.true in
    elim c.if-is_ahead.branch [
      | then-is_ahead w ↦
          rw (w.best-is, w.at-is) (best_next m i _ c.loop-place.at c.loop-place.best below c.loop-place.invariant (sym c.is_ahead.ensures ∙ w.if-is_ahead.true))
      | else-is_ahead w ↦
          rw (w.best-is, w.at-is) (best_stays m i _ c.loop-place.at c.loop-place.best below c.loop-place.invariant (sym c.is_ahead.ensures ∙ w.if-is_ahead.false))
    ]

pub returns-then-best-eq0 : goal.returns-then-best-eq0
returns-then-best-eq0 c =
    no_best c.args.scores.now c.loop-place.place c.loop-place.at c.loop-place.best (let over = c.loop-place-test.false in omega (arith, over)) c.loop-place.invariant c.if-best-eq0.true

pub returns : goal.returns
returns c =
    best_is c.args.scores.now c.loop-place.place c.loop-place.at c.loop-place.best (let over = c.loop-place-test.false in omega (arith, over)) c.loop-place.invariant
    (let some = c.if-best-eq0.false in omega (arith, some))
