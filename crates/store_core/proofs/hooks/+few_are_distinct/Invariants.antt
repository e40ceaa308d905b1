use Rattle.std.proofs.Common.{length}
use Rattle.store_core.proofs.hooks.+few_are_distinct.Given as goal

abbrev pub decreases-few_are_distinct : goal.decreases-few_are_distinct
decreases-few_are_distinct l = length l.hooks.now
