use Rattle.std.proofs.Common.{take}
use Rattle.std.specs.List.{IsDistinct}
use Rattle.ss_base.specs.Ids.{same_name}
use Rattle.sparse_index.proofs.tests.are_distinct.Given as goal

abbrev pub invariant-loop-i : goal.invariant-loop-i
invariant-loop-i l = IsDistinct same_name (take l.i l.names)
