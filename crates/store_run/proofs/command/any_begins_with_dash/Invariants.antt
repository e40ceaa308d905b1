use Rattle.std.proofs.Common.{◌≡◌, length}
use Rattle.store_run.specs.Command.{texts, has_dash}
use Rattle.store_run.proofs.command.any_begins_with_dash.Given as goal

abbrev pub invariant-loop-word : goal.invariant-loop-word
invariant-loop-word l = has_dash (texts l.fn.words) ≡ has_dash (texts l.rest)

abbrev pub decreases-loop-word : goal.decreases-loop-word
decreases-loop-word l = length l.rest
