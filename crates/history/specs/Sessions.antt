-- Sessions and readers of a history (this project's own). Every definition of a legal history reads the entries
-- backwards: `past` is the list of the entries up to some moment, the newest first, so that in `entry ∷ past` the
-- entries of `past` are those before `entry`, and there are `length past` of them.
use Rattle.std.specs.Prelude.{ℕ, Bool, false, ◌==◌, ◌&&◌, ◌||◌, not, List, [], find, filter_map, count_by, Option, Some, None, is_some, option_map, option_and_then, unwrap_or, if◌then◌else◌}
use Rattle.std.specs.List.{list_any}
use Rattle.std.specs.Str.{bytes_eq}
use Rattle.ss_base.specs.declared.ids.ManifestId.{ManifestId}
use Rattle.ss_base.specs.declared.name.Name.{Name}
use Rattle.journal_entry.specs.declared.entry.Entry.{Entry}
use Rattle.journal_entry.specs.declared.entry.Seen.{Seen}
use Rattle.journal_entry.specs.declared.entry.Point.{Point}
use Rattle.journal_entry.specs.declared.entry.Point.TheVariants.{Begin, Choose, Commit, Finish, Abort, Delete, Look, Done}

abbrev pub is_number : ℕ → Option ℕ → Bool
is_number n None = false
is_number n (Some m) = n == m

-- the session that an entry began
unfoldable pub session_begun : Point → Option ℕ
session_begun (Begin name session) = session
session_begun _ = None

-- the sessions that began, the newest first
unfoldable pub sessions : List Entry → List ℕ
sessions past = filter_map (λ entry. session_begun entry.point) past

unfoldable pub begins_some : Point → Bool
begins_some point = is_some (session_begun point)

-- how many sessions began; they have the numbers below this, in order
unfoldable pub session_count : List Entry → ℕ
session_count past = count_by (λ entry. begins_some entry.point) past

-- the session that an entry began under a name
unfoldable pub session_under : List ℕ → Point → Option ℕ
session_under name (Begin other session) = if bytes_eq name other then session else None
session_under name _ = None

-- the sessions that reserved a name, the newest first
unfoldable pub sessions_under : List ℕ → List Entry → List ℕ
sessions_under name past = filter_map (λ entry. session_under name entry.point) past

-- what an entry does to a session

unfoldable pub begins : ℕ → Point → Bool
begins session point = is_number session (session_begun point)

unfoldable pub chooses : ℕ → Point → Bool
chooses session (Choose other hooks champions) = session == other
chooses session _ = false

unfoldable pub commits : ℕ → Point → Bool
commits session (Commit manifest content text chunks bytes fresh fresh_bytes uses) = session == manifest.session
commits session _ = false

unfoldable pub finishes : ℕ → Point → Bool
finishes session (Finish other containers) = session == other
finishes session _ = false

unfoldable pub aborts : ℕ → Point → Bool
aborts session (Abort other containers texts) = session == other
aborts session _ = false

unfoldable pub deletes : ℕ → Point → Bool
deletes session (Delete name other) = is_number session other
deletes session _ = false

unfoldable pub closes : ℕ → Point → Bool
closes session point = finishes session point || aborts session point

-- whether some entry does it
unfoldable pub has : (Point → Bool) → List Entry → Bool
has does past = list_any (λ entry. does entry.point) past

-- the newest entry that does it
unfoldable pub newest : (Point → Bool) → List Entry → Option Entry
newest does past = find (λ entry. does entry.point) past

-- a session is unfinished from its Begin to its Finish or Abort
unfoldable pub is_unfinished : ℕ → List Entry → Bool
is_unfinished session past = has (begins session) past && not (has (closes session) past)

-- a session is closed after its Finish or Abort
unfoldable pub is_closed : ℕ → List Entry → Bool
is_closed session past = has (closes session) past

-- a stream can be restored from its session's Finish to its Delete
unfoldable pub is_retained : ℕ → List Entry → Bool
is_retained session past = has (finishes session) past && not (has (deletes session) past)

-- the session that is retained under a name
unfoldable pub retained : List ℕ → List Entry → Option ℕ
retained name past = find (λ session. is_retained session past) (sessions_under name past)

-- a name is held while a session that reserved it is unfinished or retained
unfoldable pub is_held : List ℕ → List Entry → Bool
is_held name past =
    list_any (λ session. is_unfinished session past || is_retained session past) (sessions_under name past)

-- the author of an entry that does something, of the newest such entry
unfoldable pub author_of : (Point → Bool) → List Entry → Option ℕ
author_of does past = option_map (λ (entry : Entry). entry.author) (newest does past)

-- whether the session was begun by this author
unfoldable pub is_begun_by : ℕ → ℕ → List Entry → Bool
is_begun_by author session past = is_number author (author_of (begins session) past)

-- how many segments a session has committed
unfoldable pub commits_of : ℕ → List Entry → ℕ
commits_of session past = count_by (λ entry. commits session entry.point) past

-- the hooks of a choice
unfoldable pub hooks_chosen : Point → List Name
hooks_chosen (Choose session hooks champions) = hooks
hooks_chosen _ = []

-- the champions of a choice; none of another entry
unfoldable pub champions_chosen : Point → Option (List ManifestId)
champions_chosen (Choose session hooks champions) = Some champions
champions_chosen _ = None

-- the hooks of the session's last choice
unfoldable pub last_hooks : ℕ → List Entry → List Name
last_hooks session past =
    unwrap_or (option_map (λ (entry : Entry). hooks_chosen entry.point) (newest (chooses session) past)) []

-- whether an entry makes or ends a choice of the session
unfoldable pub settles : ℕ → Point → Bool
settles session point = chooses session point || (commits session point || aborts session point)

-- The champions of the session's pending choice. A choice is pending from a Choose to the session's next Commit or
-- Abort.
unfoldable pub pending : ℕ → List Entry → Option (List ManifestId)
pending session past =
    option_and_then (λ (entry : Entry). champions_chosen entry.point) (newest (settles session) past)

unfoldable pub is_pending : ℕ → List Entry → Bool
is_pending session past = is_some (pending session past)

-- the champions of the pending choice, where there is one
unfoldable pub pending_champions : ℕ → List Entry → List ManifestId
pending_champions session past = unwrap_or (pending session past) []

-- the reading that an entry began
unfoldable pub reading_begun : Point → Option Seen
reading_begun (Look name seen) = seen
reading_begun _ = None

-- the readings that began, the newest first
unfoldable pub readings : List Entry → List Seen
readings past = filter_map (λ entry. reading_begun entry.point) past

unfoldable pub looks_some : Point → Bool
looks_some point = is_some (reading_begun point)

-- how many readings began; they have the numbers below this, in order
unfoldable pub reading_count : List Entry → ℕ
reading_count past = count_by (λ entry. looks_some entry.point) past

unfoldable pub looks : ℕ → Point → Bool
looks reader point = is_number reader (option_map (λ (seen : Seen). seen.reader) (reading_begun point))

unfoldable pub ends : ℕ → Point → Bool
ends reader (Done other) = reader == other
ends reader _ = false

-- a reading is unfinished from its Look to its Done
unfoldable pub is_reading : ℕ → List Entry → Bool
is_reading reader past = has (looks reader) past && not (has (ends reader) past)

-- whether the reading was begun by this author
unfoldable pub is_looked_by : ℕ → ℕ → List Entry → Bool
is_looked_by author reader past = is_number author (author_of (looks reader) past)
