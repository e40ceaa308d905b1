-- What has a text in the journal.
use Rattle.std.specs.Prelude.{ℕ, Bool, true, ◌&&◌, nat_le, ◌≡◌, ◌<◌, ◌≤◌, ◌^◌, List, length, take, IfSome}
use Rattle.std.specs.List.{AllByRecursion}
use Rattle.ss_base.specs.StreamName.{IsStreamName}
use Rattle.ss_base.specs.declared.ids.ContainerId.{ContainerId}
use Rattle.ss_base.specs.declared.ids.ManifestId.{ManifestId}
use Rattle.ss_base.specs.declared.limits.TheConstants.{MAX_CHAMPIONS, MAX_CHUNKS}
use Rattle.ss_base.specs.declared.name.Name.{Name}
use Rattle.ss_base.specs.declared.object.Object.{Object}
use Rattle.ss_base.specs.declared.object.Object.TheVariants.{Container, Manifest}
use Rattle.journal_entry.specs.declared.entry.Entry.{Entry}
use Rattle.journal_entry.specs.declared.entry.Seen.{Seen}
use Rattle.journal_entry.specs.declared.entry.Totals.{Totals}
use Rattle.journal_entry.specs.declared.entry.Point.{Point}
use Rattle.journal_entry.specs.declared.entry.Point.TheVariants.{Begin, Choose, Commit, Finish, Abort, Delete, Look, Done, Reclaim, Stat}
use Rattle.journal_entry.specs.EntryText.{entry_text}

-- how many hooks and champions a choice lists at most, uses a commit, and objects a reclaim
abbrev pub most_hooks : ℕ
most_hooks = 4096

abbrev pub most_champions : ℕ
most_champions = MAX_CHAMPIONS

abbrev pub most_uses : ℕ
most_uses = 4096

abbrev pub most_objects : ℕ
most_objects = 16

-- how many chunks, and how many bytes, a segment has at most
abbrev pub most_chunks : ℕ
most_chunks = MAX_CHUNKS

abbrev pub most_bytes : ℕ
most_bytes = 45875200

-- whether these are the numbers of a commit: 1 to 4,096 chunks, at least as many bytes and at most 45,875,200 (11,200 for
-- each of 4,096 chunks), and of both the fresh ones
abbrev pub are_counts : ℕ → ℕ → ℕ → ℕ → Bool
are_counts chunks bytes fresh fresh_bytes =
    nat_le 1 chunks
    && (nat_le chunks most_chunks && (nat_le chunks bytes && (nat_le bytes most_bytes && (nat_le fresh chunks && nat_le fresh_bytes bytes))))

-- lists that are short enough for their counts, and the numbers of a commit
abbrev pub PointIsWithinBounds : Point → Type 0
PointIsWithinBounds (Choose session hooks champions) = (length hooks ≤ most_hooks) × (length champions ≤ most_champions)
PointIsWithinBounds (Commit manifest content text chunks bytes fresh fresh_bytes uses) =
    (are_counts chunks bytes fresh fresh_bytes ≡ true) × (length uses ≤ most_uses)
PointIsWithinBounds (Reclaim objects) = length objects ≤ most_objects
PointIsWithinBounds _ = Unit {0}

-- the bounds of an entry, which its types don't keep
abbrev pub IsWithinBounds : Entry → Type 0
IsWithinBounds entry = PointIsWithinBounds entry.point

abbrev pub IsDigest : Name → Type 0
IsDigest name = length name.0 ≡ 32

abbrev pub FitsManifest : ManifestId → Type 0
FitsManifest id = (id.session < 2 ^ 32) × (id.seq < 2 ^ 32)

abbrev pub FitsContainer : ContainerId → Type 0
FitsContainer id = (id.session < 2 ^ 32) × (id.ordinal < 2 ^ 32)

abbrev pub FitsObject : Object → Type 0
FitsObject (Container id) = FitsContainer id
FitsObject (Manifest id) = FitsManifest id

abbrev pub FitsSeen : Seen → Type 0
FitsSeen seen = (seen.reader < 2 ^ 32) × (seen.session < 2 ^ 32)

pub record FitTotals (t : Totals) : Type 0 where
  pub streams : t.streams < 2 ^ 64
  pub bytes : t.bytes < 2 ^ 64
  pub fresh : t.fresh < 2 ^ 64
  pub containers : t.containers < 2 ^ 64
  pub reclaimed : t.reclaimed < 2 ^ 64
  pub entries : t.entries < 2 ^ 64

-- each field fits its place: numbers their widths, digests 32 bytes, and names are stream names
abbrev pub PointFits : Point → Type 0
PointFits (Begin name session) = IsStreamName name × IfSome session (λ s. s < 2 ^ 32)
PointFits (Choose session hooks champions) =
    (session < 2 ^ 32) × AllByRecursion IsDigest hooks × AllByRecursion FitsManifest champions
PointFits (Commit manifest content text chunks bytes fresh fresh_bytes uses) =
    FitsManifest manifest
    × IsDigest content
    × IsDigest text
    × (chunks < 2 ^ 32)
    × (bytes < 2 ^ 32)
    × (fresh < 2 ^ 32)
    × (fresh_bytes < 2 ^ 32)
    × AllByRecursion FitsContainer uses
PointFits (Finish session containers) = (session < 2 ^ 32) × (containers < 2 ^ 32)
PointFits (Abort session containers texts) = (session < 2 ^ 32) × (containers < 2 ^ 32) × (texts < 2 ^ 32)
PointFits (Delete name session) = IsStreamName name × IfSome session (λ s. s < 2 ^ 32)
PointFits (Look name seen) = IsStreamName name × IfSome seen FitsSeen
PointFits (Done reader) = reader < 2 ^ 32
PointFits (Reclaim objects) = AllByRecursion FitsObject objects
PointFits (Stat totals) = FitTotals totals

-- What has a text: each field fits its place, as the types of an entry keep it, and the bounds hold.
pub record IsEntry (entry : Entry) : Type 0 where
  pub author : entry.author < 2 ^ 32
  pub point : PointFits entry.point
  pub bounds : IsWithinBounds entry

-- the first n of the bytes are the entry's text
pub record Begins (entry : Entry) (n : ℕ) (bytes : List ℕ) : Type 0 where
  pub valid : IsEntry entry
  pub text : take n bytes ≡ entry_text entry
  pub len : n ≤ length bytes
