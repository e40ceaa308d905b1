use Rattle.std.proofs.Common.{take}
use Rattle.champion_choice.specs.Scores.{ArePlaces}
use Rattle.champion_choice.specs.Lists.{HasAddedList, HasCells}
use Rattle.champion_choice.proofs.covered.add_list.Given as goal

abbrev pub invariant-loop-standing : goal.invariant-loop-standing
invariant-loop-standing l = record {
  places : ArePlaces l.places l.scores.items;
  added : HasAddedList l.initial.scores.items l.scores.items (take l.standing-index l.stood);
  cells : HasCells l.initial.scores.items l.initial.cells.items l.scores.items l.cells.items (take l.standing-index l.stood);
}
