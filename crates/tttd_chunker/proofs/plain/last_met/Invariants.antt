use Rattle.std.proofs.Common.{◌≡◌, ◌-◌}
use Rattle.ss_base.specs.Search.{greatest}
use Rattle.tttd_chunker.specs.Cut.{meets}
use Rattle.tttd_chunker.proofs.plain.last_met.Given as goal

abbrev pub invariant-loop-k : goal.invariant-loop-k
invariant-loop-k l = l.found ≡ greatest (meets l.divisor l.rest) l.low (l.k - 1)
