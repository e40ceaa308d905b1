use Rattle.std.proofs.Common.{take}
use Rattle.ss_base.specs.Champions.{candidates}
use Rattle.champion_choice.specs.Scores.{id_at, AreCells, ArePlaces}
use Rattle.champion_choice.specs.Lists.{shown, IsScored}
use Rattle.champion_choice.proofs.covered.scores_of.Given as goal

abbrev pub invariant-loop-stood : goal.invariant-loop-stood
invariant-loop-stood l = record {
  places : ArePlaces l.places l.scores.items;
  scored : IsScored l.scores.items (take l.stood-index (shown l.lists));
  cells : AreCells (id_at l.scores.items) l.cells.items (candidates (take l.stood-index (shown l.lists)));
}
