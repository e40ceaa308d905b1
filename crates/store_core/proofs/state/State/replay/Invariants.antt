use Rattle.std.proofs.Common.{◌≡◌, length}
use Rattle.store_core.proofs.ReplayLaws.{first}
use Rattle.store_core.proofs.state.State.replay.Given as goal

abbrev pub invariant-loop-entry : goal.invariant-loop-entry
invariant-loop-entry g l =
    ((goal.iterator-loop-entry g).can_next l.entry-iterator)
    × ((goal.iterator-loop-entry g).is_finite l.entry-iterator)
    × (l.state ≡ first (record { profile = l.fn.profile; limits = l.fn.limits; entries = l.fn.entries.items }) (length l.yielded))
