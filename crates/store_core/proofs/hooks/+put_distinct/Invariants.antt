use Rattle.std.proofs.Common.{length}
use Rattle.store_core.proofs.hooks.+put_distinct.Given as goal

abbrev pub decreases-put_distinct : goal.decreases-put_distinct
decreases-put_distinct l = length l.hooks.now
