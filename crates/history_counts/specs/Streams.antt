-- Which manifests an entry pins or gives up, beside those of its own (this project's own).
use Rattle.std.specs.Prelude.{ℕ, List, [], Option, None, Some, option_map}
use Rattle.ss_base.specs.declared.ids.ManifestId.{ManifestId}
use Rattle.journal_entry.specs.declared.entry.Entry.{Entry}
use Rattle.journal_entry.specs.declared.entry.Seen.{Seen}
use Rattle.journal_entry.specs.declared.entry.Point.{Point}
use Rattle.journal_entry.specs.declared.entry.Point.TheVariants.{Choose, Commit, Finish, Abort, Delete, Look, Done}
use Rattle.history.specs.Sessions.{commits, pending_champions}
use Rattle.history_laws.specs.EntryNumbers.{numbers_of, reading}

-- the champions that an entry pins, or that it unpins
unfoldable pub pins_of : Point → List Entry → List ManifestId
pins_of (Choose session hooks champions) past = champions
pins_of (Commit manifest content text chunks bytes fresh fresh_bytes uses) past = pending_champions manifest.session past
pins_of (Abort session containers texts) past = pending_champions session past
pins_of _ past = []

-- the session whose manifests an entry holds or gives up, or counts
unfoldable pub stream_of : Point → List Entry → Option ℕ
stream_of (Finish session containers) past = Some session
stream_of (Abort session containers texts) past = Some session
stream_of (Delete name session) past = session
stream_of (Look name seen) past = option_map (λ (at : Seen). at.session) seen
stream_of (Done reader) past = option_map (λ (at : Seen). at.session) (reading reader past)
stream_of _ past = None

-- the numbers of a session's Commits; none of no session
unfoldable pub commits_in : Option ℕ → List Entry → List ℕ
commits_in None past = []
commits_in (Some session) past = numbers_of (commits session) past
