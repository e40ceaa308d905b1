use Rattle.std.proofs.Common.{◌≤◌, ◌-◌, ◌++◌, take, filter}
use Rattle.ss_base.specs.KnownObjects.{numbered}
use Rattle.pins_counts.specs.Counts.{object_of, is_idle}
use Rattle.pins_counts.proofs.WalkLaws.{Finds}
use Rattle.pins_counts.proofs.tally.Tally.add_dead_of.Given as goal

abbrev pub invariant-loop-next : goal.invariant-loop-next
invariant-loop-next l =
    (l.next ≤ l.count)
    × Finds l.limit l.found.items (filter (is_idle l.self) (numbered (object_of l.kind l.session) l.next (l.count - l.next)))
    (take l.limit (l.fn.found.items ++ filter (is_idle l.self) (numbered (object_of l.kind l.session) 0 l.count)))

abbrev pub decreases-loop-next : goal.decreases-loop-next
decreases-loop-next l = l.count - l.next
