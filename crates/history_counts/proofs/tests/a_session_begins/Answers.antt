use Rattle.std.proofs.Common.{refl}
use Rattle.history.proofs.FirstEntry.{first_is_legal}
use Rattle.history_laws.specs.EntryNumbers.{CommitThese}
use Rattle.history_counts.specs.Streams.{pins_of, stream_of, commits_in}
use Rattle.history_counts.proofs.tests.a_session_begins.Goals as goal

pub add_entry-requires-clause-legal : goal.add_entry-requires-clause-legal
add_entry-requires-clause-legal g c =
    first_is_legal (record { bits = 1; standings = 8; champions = 8; limits = record { entries = 100; weight = 100 } }) 0 c.in_ok-name.name refl refl

pub add_entry-requires-clause-champions : goal.add_entry-requires-clause-champions
unfolding CommitThese pins_of
add_entry-requires-clause-champions g c = refl

pub add_entry-requires-clause-stream : goal.add_entry-requires-clause-stream
unfolding commits_in stream_of
add_entry-requires-clause-stream g c = refl
