use Rattle.std.proofs.Common.{◌≡◌, List, ℕ, ◌++◌, length}
use Rattle.std.specs.Io.KnownBytes.{Appends}
use Rattle.outside.proofs.sink.write_all.Given as goal

-- what was written so far stands before the rest
abbrev pub invariant-loop-rest : goal.invariant-loop-rest
invariant-loop-rest g l =
    ((front : List ℕ) × (l.bytes ≡ front ++ l.rest) × Appends (g.O.Sink.written l.fn.out) (g.O.Sink.written l.out) front)
    × (g.O.Sink.faults l.out ≡ g.O.Sink.faults l.fn.out)

abbrev pub decreases-loop-rest : goal.decreases-loop-rest
decreases-loop-rest g l = length l.rest
