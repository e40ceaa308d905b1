use Rattle.std.proofs.Common.{◌≡◌, length}
use Rattle.std.specs.Io.KnownBytes.{Keeps}
use Rattle.outside.proofs.read_source.read_again.Given as goal

-- reads that were interrupted took nothing
abbrev pub invariant-loop : goal.invariant-loop
invariant-loop g l = (length l.bytes ≡ length l.initial.bytes) × Keeps (g.R.Read.remaining l.initial.reader) (g.R.Read.remaining l.reader)
