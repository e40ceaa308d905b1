use Rattle.std.proofs.Common.{◌≡◌, map, take}
use Rattle.sparse_index.specs.Lists.{list_at}
use Rattle.champion_choice.specs.Lists.{shown}
use Rattle.store_core.proofs.choosing.lists_at.Given as goal

abbrev pub invariant-loop-hook : goal.invariant-loop-hook
invariant-loop-hook g l = shown l.lists.items ≡ map (list_at l.index) (take l.hook-index l.hooks)
