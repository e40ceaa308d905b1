use Rattle.std.proofs.Common.{◌-◌, ℕ, ◌≤◌, ◌<◌, get_or}
use Rattle.std.specs.VecDeque.{deque_len}
use Rattle.pins_counts.proofs.waiting.place_of.Given as goal

abbrev pub invariant-loop-low : goal.invariant-loop-low
invariant-loop-low l =
    (l.low ≤ l.high)
    × (l.high ≤ deque_len l.sessions)
    × ((k d : ℕ) → k < l.low → get_or l.sessions.items k d < l.number)
    × ((k d : ℕ) → l.high ≤ k → k < deque_len l.sessions → l.number ≤ get_or l.sessions.items k d)

abbrev pub decreases-loop-low : goal.decreases-loop-low
decreases-loop-low l = l.high - l.low
