use Rattle.std.proofs.Common.{◌≡◌, take, reverse, filter_map}
use Rattle.store_core.specs.View.{kept_at}
use Rattle.store_core.proofs.keeping.all_kept_at.Given as goal

abbrev pub invariant-loop-number : goal.invariant-loop-number
invariant-loop-number l = l.found.items ≡ filter_map (kept_at (reverse l.entries)) (take l.number-index l.numbers)
