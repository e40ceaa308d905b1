use Rattle.std.proofs.Common.{sym, subst}
use Rattle.std.proofs.lemmas.Result.{err_from_is_err_and}
use Rattle.segment_plan.specs.Planned.{segment_chunks, located}
use Rattle.store_core.specs.declared.values.Stored.{Stored}
use Rattle.depot.specs.Seen.{seen}
use Rattle.segment_store.specs.Stored.{CanBeCommitted}
use Rattle.segment_store.proofs.StoreLaws.{plan_failed, plan_committed}
use Rattle.segment_store.proofs.storing.store_segment.Goals as goal

pub returns-in_err-written-clause-answer : goal.returns-in_err-written-clause-answer
returns-in_err-written-clause-answer g c =
    let seen_by = seen g.K.Shelf in
    let p = err_from_is_err_and c.from_residual-in_err-written.result c.from_residual-in_err-written.ensures.1 in
    rw (p.1, p.2) (plan_failed c.args.id (segment_chunks c.args.segment.now) (located c.args.champions.now) c.args.end.now c.args.room c.in_ok-plan.plan (seen_by c.args.depot.now) (seen_by c.store_plan.new.depot) c.args.texts.now c.store_plan.new.texts c.in_err-written.field-0.0 c.in_ok-plan.ensures.plan c.in_err-written.ensures.answer)

pub returns-clause-committed : goal.returns-clause-committed
returns-clause-committed g c =
    subst (λ (s : Stored). CanBeCommitted (located c.args.champions.now) c.in_ok-plan.plan.end s) (sym c.stored_of.ensures)
    (plan_committed c.args.segment.now (located c.args.champions.now) c.args.end.now c.args.room c.in_ok-plan.plan c.in_ok-plan.ensures.plan c.in_ok-plan.ensures.stored c.requires.containers)
