-- An empty window.
use Rattle.std.proofs.Common.{◌≡◌, ℕ, [], length, sym, ap, ◌∙◌, arith}
use Rattle.circular_buffer.specs.Buffer.{Buffer, buffer}
use Rattle.roll_hash.specs.Fingerprint.{window_sum}
use Rattle.roll_hash.specs.Rolled.{IsRolled}
use Rattle.roll_hash.proofs.FingerprintLaws.{window_sum-nil}

-- an empty ring and the sum 0
pub IsRolled-empty : (ring : Buffer ℕ) (n : ℕ) → n ≡ 48 → ring ≡ buffer [] n → IsRolled (record { ring = ring; sum = 0 })
IsRolled-empty ring n long is =
    record {
      capacity = ap (λ b. b.capacity) is ∙ long;
      within = let e : length ring.items ≡ 0 = ap (λ b. length b.items) is in omega arith;
      sum = sym (ap (λ b. window_sum b.items) is ∙ window_sum-nil);
    }
