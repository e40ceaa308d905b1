-- What is kept of each session and reading, by the numbers of entries (this project's own).
use Rattle.std.specs.Prelude.{ℕ, ◌-◌, length, Bool, true, false, max, List, [], ◌∷◌, ◌++◌, map, slice_get, slice_set, slice_index, Option, Some, unwrap_or}
use Rattle.ss_base.specs.declared.ids.ManifestId.{ManifestId}
use Rattle.journal_entry.specs.declared.entry.Point.{Point}
use Rattle.journal_entry.specs.declared.entry.Point.TheVariants.{Begin, Choose, Commit, Finish, Abort, Delete, Look, Done}
use Rattle.history.specs.OwnEnd.{end_among}
use Rattle.legal_history.specs.declared.stage.Stage.{Stage}
use Rattle.legal_history.specs.declared.stage.Stage.TheVariants.{Unfinished, Retained, Aborted, Deleted}

-- the last of some numbers
abbrev pub last_of : List ℕ → Option ℕ
last_of numbers = slice_get numbers (length numbers - 1)

-- of a session: the number of its Begin, its stage, the numbers of its Chooses and its Commits, whether a choice is
-- pending, the numbers of the Commits of its last champions, and the least number above the ordinals that it used
pub record Row : Type 0 where
  pub begins : List ℕ
  pub stage : Stage
  pub choices : List ℕ
  pub commits : List ℕ
  pub is_pending : Bool
  pub champions : List ℕ
  pub own_end : ℕ

-- of a session that has not begun
abbrev pub no_row : Row
no_row = record { begins = []; stage = Unfinished; choices = []; commits = []; is_pending = false; champions = []; own_end = 0 }

abbrev pub row_at : ℕ → List Row → Row
row_at session rows = unwrap_or (slice_get rows session) no_row

-- the row after a Begin, a Choose, a Commit and the others, of which the entry has the number n
abbrev pub begun : ℕ → Row
begun n = record no_row { begins = n ∷ [] }

abbrev pub chosen : ℕ → List ℕ → Row → Row
chosen n champions row = record row { choices = row.choices ++ n ∷ []; is_pending = true; champions = champions }

abbrev pub committed : ℕ → ℕ → Row → Row
committed n end row = record row { commits = row.commits ++ n ∷ []; is_pending = false; own_end = max end row.own_end }

abbrev pub finished : Row → Row
finished row = record row { stage = Retained }

abbrev pub aborted : Row → Row
aborted row = record row { stage = Aborted; is_pending = false }

abbrev pub deleted : Row → Row
deleted row = record row { stage = Deleted }

-- the row of a session is changed
abbrev pub changed : ℕ → (Row → Row) → List Row → List Row
changed session f rows = slice_set rows session (f (row_at session rows))

-- the number of the entry that commits a manifest
abbrev pub commit_number : List Row → ManifestId → ℕ
commit_number rows id = slice_index (row_at id.session rows).commits id.seq

-- the rows after the entry with a number
abbrev pub noted : ℕ → Point → List Row → List Row
noted n (Begin name (Some session)) rows = rows ++ begun n ∷ []
noted n (Choose session hooks champions) rows = changed session (chosen n (map (commit_number rows) champions)) rows
noted n (Commit manifest content text chunks bytes fresh fresh_bytes uses) rows = changed manifest.session (committed n (end_among manifest.session uses)) rows
noted n (Finish session containers) rows = changed session finished rows
noted n (Abort session containers texts) rows = changed session aborted rows
noted n (Delete name (Some session)) rows = changed session deleted rows
noted n _ rows = rows

-- of a reading: the number of its Look, and whether it is done
pub record ReadingRow : Type 0 where
  pub looks : List ℕ
  pub is_done : Bool

abbrev pub no_reading : ReadingRow
no_reading = record { looks = []; is_done = false }

abbrev pub reading_at : ℕ → List ReadingRow → ReadingRow
reading_at reader rows = unwrap_or (slice_get rows reader) no_reading

abbrev pub looked : ℕ → ReadingRow
looked n = record { looks = n ∷ []; is_done = false }

-- the reading is done
abbrev pub done : ℕ → List ReadingRow → List ReadingRow
done reader rows = slice_set rows reader (record (reading_at reader rows) { is_done = true })

-- the readings after the entry with a number
abbrev pub noted_reading : ℕ → Point → List ReadingRow → List ReadingRow
noted_reading n (Look name (Some seen)) rows = rows ++ looked n ∷ []
noted_reading n (Done reader) rows = done reader rows
noted_reading n _ rows = rows
