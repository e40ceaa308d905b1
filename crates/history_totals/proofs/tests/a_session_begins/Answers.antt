use Rattle.std.proofs.Common.{refl}
use Rattle.history.specs.declared.rules.Rules.{Rules}
use Rattle.history.specs.Legal.{is_legal}
use Rattle.history.proofs.FirstEntry.{first_is_allowed, first_is_legal}
use Rattle.history_totals.specs.TallyOf.{stream_settled, commits_settled}
use Rattle.history_totals.proofs.tests.a_session_begins.Goals as goal

abbrev rules_here : Rules
rules_here = record { bits = 1; standings = 8; champions = 8; limits = record { entries = 100; weight = 100 } }

pub fits-requires-clause-legal : goal.fits-requires-clause-legal
unfolding is_legal
fits-requires-clause-legal g c = refl

pub fits-requires-clause-allowed : goal.fits-requires-clause-allowed
fits-requires-clause-allowed g c = first_is_allowed rules_here 7 c.in_ok-name.name

pub add_entry-requires-clause-legal : goal.add_entry-requires-clause-legal
add_entry-requires-clause-legal g c = first_is_legal rules_here 7 c.in_ok-name.name refl refl

pub add_entry-requires-clause-commits : goal.add_entry-requires-clause-commits
unfolding commits_settled stream_settled
add_entry-requires-clause-commits g c = refl
