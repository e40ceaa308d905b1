use Rattle.std.proofs.Common.{◌≡◌, ◌++◌, map, length}
use Rattle.tttd_chunker.specs.Cut.{cut}
use Rattle.tttd_chunker.proofs.plain.cut_plainly.Given as goal

-- the chunks so far, and those of the rest, are those of all
abbrev pub invariant-loop-rest : goal.invariant-loop-rest
invariant-loop-rest l = map (λ c. c.items) l.chunks.items ++ cut l.numbers l.rest ≡ cut l.numbers l.bytes

abbrev pub decreases-loop-rest : goal.decreases-loop-rest
decreases-loop-rest l = length l.rest
