use Rattle.std.proofs.Common.{◌≡◌, ◌≤◌, ◌*◌, take}
use Rattle.std.specs.List.{sum_by}
use Rattle.history_totals.specs.Parts.{bytes_at}
use Rattle.history_totals.proofs.parts.bytes_of.Given as goal

abbrev pub invariant-loop-n : goal.invariant-loop-n
invariant-loop-n l = (l.sum ≡ sum_by (bytes_at l.entries) (take l.n-index l.numbers)) × (l.sum ≤ l.n-index * 4294967295)
