use Rattle.legal_history.specs.Recorded.{past_of}
use Rattle.store_core.specs.View.{kept}
use Rattle.store_core.proofs.KeptLaws.{filter_map_step}
use Rattle.store_core.proofs.keeping.all_kept.Goals as goal

pub loop-id-preserved : goal.loop-id-preserved
loop-id-preserved c =
    filter_map_step (λ id. kept id (past_of c.args.history.now)) c.args.ids.now c.loop-id.id-index _ _ _ _ c.loop-id-test.true c.loop-id.invariant c.in_ok-kept.ensures c.in_ok-push_kept.ensures
