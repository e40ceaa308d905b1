use Rattle.std.proofs.Common.{◌≡◌, true, take, List}
use Rattle.ss_base.specs.declared.object.Object.{Object}
use Rattle.ss_base.specs.Ids.{has_object}
use Rattle.journal_entry.specs.declared.entry.Entry.{Entry}
use Rattle.pins_counts.specs.Counts.{is_ready}
use Rattle.history_counts.specs.CountsOf.{AreCountsOf}
use Rattle.history_counts.proofs.room.make_objects_ready.Given as goal

abbrev pub invariant-loop-object : goal.invariant-loop-object
invariant-loop-object l =
    ((q : Object) → has_object q (take l.object-index l.objects) ≡ true → is_ready l.counts q ≡ true)
    × ((past : List Entry) → AreCountsOf l.fn.counts past → AreCountsOf l.counts past)
