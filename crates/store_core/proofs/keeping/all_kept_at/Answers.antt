use Rattle.std.proofs.Common.{reverse}
use Rattle.store_core.specs.View.{kept_at}
use Rattle.store_core.proofs.KeptLaws.{filter_map_step}
use Rattle.store_core.proofs.keeping.all_kept_at.Goals as goal

pub loop-number-preserved : goal.loop-number-preserved
loop-number-preserved c =
    filter_map_step (kept_at (reverse c.args.entries.now)) c.args.numbers.now c.loop-number.number-index _ _ _ _ c.loop-number-test.true c.loop-number.invariant c.in_ok-kept.ensures c.in_ok-push_kept.ensures
