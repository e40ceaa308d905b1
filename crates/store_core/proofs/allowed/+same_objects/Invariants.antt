use Rattle.std.proofs.Common.{length}
use Rattle.store_core.proofs.allowed.+same_objects.Given as goal

abbrev pub decreases-same_objects : goal.decreases-same_objects
decreases-same_objects l = length l.a.now
