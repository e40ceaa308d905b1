use Rattle.std.proofs.Common.{◌++◌, ◌-◌, ◌^◌, ◌≤◌, take, filter}
use Rattle.ss_base.specs.KnownObjects.{objects_of}
use Rattle.pins_counts.specs.Counts.{object_of, count_of, is_idle}
use Rattle.pins_counts.proofs.AwaitingLaws.{dead_from}
use Rattle.pins_counts.proofs.WalkLaws.{Finds}
use Rattle.pins_counts.proofs.counts.Counts.add_dead.Given as goal

abbrev pub invariant-loop-self : goal.invariant-loop-self
invariant-loop-self l =
    Finds l.limit l.found.items (dead_from l.kind l.self l.next)
    (take l.limit (l.fn.found.items ++ filter (is_idle l.self) (objects_of (object_of l.kind) (count_of l.kind) 0 l.self.sessions)))
    × (l.next ≤ 2 ^ 32)

abbrev pub decreases-loop-self : goal.decreases-loop-self
decreases-loop-self l = 2 ^ 32 - l.next
