use Rattle.std.proofs.Common.{◌≤◌, length}
use Rattle.outside.proofs.file_ops.fill_from.Given as goal

-- no more came than there is room for
abbrev pub invariant-loop : goal.invariant-loop
invariant-loop g l = l.filled ≤ length l.bytes
