use Rattle.std.proofs.Common.{refl}
use Rattle.journal_entry.specs.Weight.{weight}
use Rattle.history.specs.OwnEnd.{greatest_by}
use Rattle.history.specs.TotalsOf.{totals}
use Rattle.history.specs.Legal.{unfinished_sessions, unfinished_readings}
use Rattle.history_totals.specs.TallyOf.{next_author, tally_of}
use Rattle.history_totals.proofs.tally.Tally.new.Goals as goal

pub returns-clause-none : goal.returns-clause-none
unfolding tally_of totals weight unfinished_sessions unfinished_readings next_author greatest_by
returns-clause-none c = refl
