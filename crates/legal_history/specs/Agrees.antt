-- What is kept is what the entries say (this project's own).
use Rattle.std.specs.Prelude.{ℕ, ◌≡◌, Bool, true, false, not, ◌&&◌, is_some, List, length}
use Rattle.journal_entry.specs.declared.entry.Entry.{Entry}
use Rattle.history.specs.Sessions.{has, begins, chooses, commits, finishes, closes, deletes, looks, ends, is_pending, session_count, reading_count}
use Rattle.history.specs.OwnEnd.{own_end}
use Rattle.history_laws.specs.EntryNumbers.{numbers_of, last_champions, CommitThese}
use Rattle.legal_history.specs.declared.stage.Stage.{Stage}
use Rattle.legal_history.specs.declared.stage.Stage.TheVariants.{Unfinished, Retained, Aborted, Deleted}
use Rattle.legal_history.specs.Rows.{Row, ReadingRow, last_of, row_at, reading_at}

-- whether a session of a stage was closed, finished, deleted
abbrev pub was_closed : Stage → Bool
was_closed Unfinished = false
was_closed _ = true

abbrev pub was_finished : Stage → Bool
was_finished Unfinished = false
was_finished Retained = true
was_finished Aborted = false
was_finished Deleted = true

abbrev pub was_deleted : Stage → Bool
was_deleted Deleted = true
was_deleted _ = false

-- whether the session of a row is unfinished, retained
abbrev pub is_open : Row → Bool
is_open row = is_some (last_of row.begins) && not (was_closed row.stage)

abbrev pub is_kept : Row → Bool
is_kept row = was_finished row.stage && not (was_deleted row.stage)

-- whether the reading of a row is unfinished
abbrev pub is_going_on : ReadingRow → Bool
is_going_on row = is_some (last_of row.looks) && not row.is_done

-- a row says what the entries say of its session
pub record IsSession (row : Row) (session : ℕ) (past : List Entry) : Type 0 where
  pub begun : row.begins ≡ numbers_of (begins session) past
  pub closed : was_closed row.stage ≡ has (closes session) past
  pub finished : was_finished row.stage ≡ has (finishes session) past
  pub deleted : was_deleted row.stage ≡ has (deletes session) past
  pub chosen : row.choices ≡ numbers_of (chooses session) past
  pub committed : row.commits ≡ numbers_of (commits session) past
  pub settled : row.is_pending ≡ is_pending session past
  pub known : CommitThese row.champions (last_champions session past) past
  pub used : row.own_end ≡ own_end session past

pub record AreSessions (rows : List Row) (past : List Entry) : Type 0 where
  pub each : (session : ℕ) → IsSession (row_at session rows) session past
  pub count : length rows ≡ session_count past

pub record IsReading (row : ReadingRow) (reader : ℕ) (past : List Entry) : Type 0 where
  pub begun : row.looks ≡ numbers_of (looks reader) past
  pub ended : row.is_done ≡ has (ends reader) past

pub record AreReadings (rows : List ReadingRow) (past : List Entry) : Type 0 where
  pub each : (reader : ℕ) → IsReading (reading_at reader rows) reader past
  pub count : length rows ≡ reading_count past
