use Rattle.std.proofs.Common.{◌≡◌, false}
use Rattle.segment_reader.proofs.tests.a_source_that_fails.Given as goal

abbrev pub invariant-loop : goal.invariant-loop
invariant-loop g l = l.work.spent ≡ false
