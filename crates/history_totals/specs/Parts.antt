-- What one entry adds to the numbers of a history (this project's own).
use Rattle.std.specs.Prelude.{ℕ, ◌≤◌, ◌*◌, ◌^◌, Bool, true, false, List, slice_get, is_some}
use Rattle.std.specs.Option.{option_map_or}
use Rattle.journal_entry.specs.declared.entry.Entry.{Entry}
use Rattle.journal_entry.specs.declared.entry.Totals.{Totals}
use Rattle.journal_entry.specs.declared.entry.Point.{Point}
use Rattle.journal_entry.specs.declared.entry.Point.TheVariants.{Begin, Commit, Finish, Abort, Delete, Look, Done}

-- whether an entry makes a stream one that can be restored
unfoldable pub gives_stream : Point → Bool
gives_stream (Finish session containers) = true
gives_stream _ = false

-- whether an entry deletes a stream
unfoldable pub takes_stream : Point → Bool
takes_stream (Delete name session) = is_some session
takes_stream _ = false

-- whether an entry begins a session or a reading
unfoldable pub starts : Point → Bool
starts (Begin name session) = is_some session
starts (Look name seen) = is_some seen
starts _ = false

-- whether an entry closes a session or ends a reading
unfoldable pub stops : Point → Bool
stops (Finish session containers) = true
stops (Abort session containers texts) = true
stops (Done reader) = true
stops _ = false

-- the length of the segment that an entry commits, 0 where it commits none
unfoldable pub bytes_committed : Point → ℕ
bytes_committed (Commit manifest content text chunks bytes fresh fresh_bytes uses) = bytes
bytes_committed _ = 0

-- the same of the entry with a number, of entries with the oldest first
unfoldable pub bytes_at : List Entry → ℕ → ℕ
bytes_at entries n = option_map_or (λ (entry : Entry). bytes_committed entry.point) (slice_get entries n) 0

-- room for the containers of one entry more: each starts fewer than 2^32, as its type keeps it (this project's own)
abbrev pub HasRoom : Totals → Type 0
HasRoom sums = sums.containers ≤ sums.entries * 2 ^ 32
