use Rattle.std.proofs.Common.{◌≡◌, take}
use Rattle.store_core.proofs.reclaiming.removals.Given as goal

abbrev pub invariant-loop-object : goal.invariant-loop-object
invariant-loop-object l = l.removals.items ≡ take l.object-index l.objects
