use Rattle.std.proofs.Common.{◌≡◌, ℕ, ◌≤◌, ◌<◌, ◌-◌, false}
use Rattle.pins_counts.specs.Counts.{object_of, is_idle}
use Rattle.pins_counts.proofs.tally.Tally.has_dead_below.Given as goal

abbrev pub invariant-loop-next : goal.invariant-loop-next
invariant-loop-next l = (l.next ≤ l.count) × ((n : ℕ) → n < l.next → is_idle l.self (object_of l.kind l.session n) ≡ false)

abbrev pub decreases-loop-next : goal.decreases-loop-next
decreases-loop-next l = l.count - l.next
