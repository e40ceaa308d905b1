-- The numbers of a history that a store keeps running (this project's own).
use Rattle.std.specs.Prelude.{ℕ, ◌+◌, List, [], Option, Some, None}
use Rattle.std.specs.Option.{option_map_or}
use Rattle.journal_entry.specs.declared.entry.Entry.{Entry}
use Rattle.journal_entry.specs.declared.entry.Point.{Point}
use Rattle.journal_entry.specs.declared.entry.Point.TheVariants.{Finish, Delete}
use Rattle.journal_entry.specs.Weight.{weight}
use Rattle.history.specs.OwnEnd.{greatest_by}
use Rattle.history.specs.Sessions.{commits}
use Rattle.history.specs.Legal.{unfinished_sessions, unfinished_readings}
use Rattle.history.specs.TotalsOf.{totals}
use Rattle.history_laws.specs.EntryNumbers.{numbers_of}
use Rattle.history_totals.specs.declared.tally.Tally.{Tally}

-- one above the greatest author, 0 where there is no entry
unfoldable pub next_author : List Entry → ℕ
next_author past = greatest_by (λ (entry : Entry). entry.author + 1) past

-- the numbers of a history
unfoldable pub tally_of : List Entry → Tally
tally_of past = record {
  totals = totals past;
  weight = weight past;
  unfinished = unfinished_sessions past + unfinished_readings past;
  next_author = next_author past;
}

-- the session whose stream an entry gives or takes
unfoldable pub stream_settled : Point → Option ℕ
stream_settled (Finish session containers) = Some session
stream_settled (Delete name session) = session
stream_settled _ = None

-- the numbers of the Commits of that session
unfoldable pub commits_settled : Point → List Entry → List ℕ
commits_settled point past = option_map_or (λ session. numbers_of (commits session) past) (stream_settled point) []
