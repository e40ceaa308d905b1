-- The totals of a history (this project's own).
use Rattle.std.specs.Prelude.{ℕ, Bool, false, List, length, sum_by, count_by, if◌then◌else◌}
use Rattle.std.specs.Option.{option_map_or}
use Rattle.journal_entry.specs.declared.entry.Entry.{Entry}
use Rattle.journal_entry.specs.declared.entry.Totals.{Totals}
use Rattle.journal_entry.specs.declared.entry.Point.{Point}
use Rattle.journal_entry.specs.declared.entry.Point.TheVariants.{Commit, Finish, Abort, Reclaim}
use Rattle.history.specs.Sessions.{session_begun, is_retained}

-- whether an entry began a session whose stream is retained
unfoldable pub stream_began : List Entry → Point → Bool
stream_began past point = option_map_or (λ session. is_retained session past) (session_begun point) false

-- the bytes of a commit, where its stream is retained
unfoldable pub bytes_retained : List Entry → Point → ℕ
bytes_retained past (Commit manifest content text chunks bytes fresh fresh_bytes uses) = if is_retained manifest.session past then bytes else 0
bytes_retained past _ = 0

-- the bytes that a commit stored anew
unfoldable pub bytes_stored : Point → ℕ
bytes_stored (Commit manifest content text chunks bytes fresh fresh_bytes uses) = fresh_bytes
bytes_stored _ = 0

-- how many containers an entry closes its session with
unfoldable pub containers_closed : Point → ℕ
containers_closed (Finish session containers) = containers
containers_closed (Abort session containers texts) = containers
containers_closed _ = 0

-- how many objects an entry gives over to be removed
unfoldable pub objects_named : Point → ℕ
objects_named (Reclaim objects) = length objects
objects_named _ = 0

-- streams: those retained; bytes: over the commits of retained streams; fresh: over all commits; containers: over all
-- Finish and Abort entries; reclaimed: over all Reclaim entries
unfoldable pub totals : List Entry → Totals
totals past = record {
  streams = count_by (λ (entry : Entry). stream_began past entry.point) past;
  bytes = sum_by (λ (entry : Entry). bytes_retained past entry.point) past;
  fresh = sum_by (λ (entry : Entry). bytes_stored entry.point) past;
  containers = sum_by (λ (entry : Entry). containers_closed entry.point) past;
  reclaimed = sum_by (λ (entry : Entry). objects_named entry.point) past;
  entries = length past;
}
