use Rattle.std.proofs.Common.{◌≡◌, take}
use Rattle.champion_choice.specs.Lists.{shown, standings}
use Rattle.champion_choice.proofs.choice.slices_of.Given as goal

abbrev pub invariant-loop-list : goal.invariant-loop-list
invariant-loop-list l = shown l.slices.items ≡ take l.list-index (standings l.lists)
