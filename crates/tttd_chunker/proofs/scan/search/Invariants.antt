use Rattle.std.proofs.Common.{◌-◌, ◌≤◌}
use Rattle.tttd_chunker.specs.Scanned.{HasScanned}
use Rattle.tttd_chunker.proofs.scan.search.Given as goal

abbrev pub invariant-loop-at : goal.invariant-loop-at
invariant-loop-at l = record {
  scanned : HasScanned l.numbers l.bytes l.scan;
  range : l.scan.at ≤ l.end;
}

abbrev pub decreases-loop-at : goal.decreases-loop-at
decreases-loop-at l = l.end - l.scan.at
