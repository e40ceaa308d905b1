use Rattle.std.proofs.Common.{length}
use Rattle.store_core.proofs.played_history_tests.+name_few.Given as goal

abbrev pub decreases-name_few : goal.decreases-name_few
decreases-name_few l = length l.entries.now
