use Rattle.std.proofs.Common.{◌≡◌, take, reverse}
use Rattle.history.specs.StandingList.{standing}
use Rattle.history.proofs.standing_scan.standing.Given as goal

abbrev pub invariant-loop-i : goal.invariant-loop-i
invariant-loop-i l = l.stood.items ≡ standing l.bound l.hook (reverse (take l.i l.entries))
