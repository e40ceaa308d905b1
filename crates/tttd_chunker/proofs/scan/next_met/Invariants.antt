use Rattle.std.proofs.Common.{◌≡◌, ℕ, ◌+◌, ◌<◌, ◌≤◌, false}
use Rattle.roll_hash.specs.Fingerprint.{window_sum}
use Rattle.tttd_chunker.specs.Cut.{window, meets}
use Rattle.tttd_chunker.proofs.scan.next_met.Given as goal

abbrev pub invariant-loop-k : goal.invariant-loop-k
invariant-loop-k l = record {
  sum : l.sum ≡ window_sum (window l.bytes l.k);
  before : (j : ℕ) → l.at + 1 ≤ j → j < l.k + 1 → meets l.divisor l.bytes j ≡ false;
}
