use Rattle.std.proofs.Common.{length}
use Rattle.job_script.specs.Step.{IsFront}
use Rattle.job_script.proofs.parsing.parse.Given as goal

abbrev pub invariant-loop-line : goal.invariant-loop-line
invariant-loop-line l = IsFront l.lanes l.script l.number l.jobs.items l.rest

abbrev pub decreases-loop-line : goal.decreases-loop-line
decreases-loop-line l = length l.rest
