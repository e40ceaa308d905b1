-- The text of an entry in the journal (this project's own format).
use Rattle.std.specs.Prelude.{ℕ, List, [], ◌∷◌, ◌++◌, length, Option, Some, None}
use Rattle.std.specs.List.{flat_map}
use Rattle.std.specs.Int.{Width, w16, w32, w64, to_be_bytes}
use Rattle.ss_base.specs.declared.ids.ContainerId.{ContainerId}
use Rattle.ss_base.specs.declared.ids.ManifestId.{ManifestId}
use Rattle.ss_base.specs.declared.name.Name.{Name}
use Rattle.ss_base.specs.declared.object.Object.{Object}
use Rattle.ss_base.specs.declared.object.Object.TheVariants.{Container, Manifest}
use Rattle.journal_entry.specs.declared.entry.Entry.{Entry}
use Rattle.journal_entry.specs.declared.entry.Seen.{Seen}
use Rattle.journal_entry.specs.declared.entry.Totals.{Totals}
use Rattle.journal_entry.specs.declared.entry.Point.{Point}
use Rattle.journal_entry.specs.declared.entry.Point.TheVariants.{Begin, Choose, Commit, Finish, Abort, Delete, Look, Done, Reclaim, Stat}

-- a number, its highest byte first
unfoldable pub number_text : Width → ℕ → List ℕ
number_text w n = to_be_bytes w n

-- a number of one byte
abbrev pub byte_text : ℕ → List ℕ
byte_text b = b ∷ []

-- the 32 bytes of a digest
abbrev pub digest_text : Name → List ℕ
digest_text name = name.0

-- the length of a stream's name in one byte, and its bytes
abbrev pub stream_name_text : List ℕ → List ℕ
stream_name_text name = byte_text (length name) ++ name

abbrev pub manifest_text : ManifestId → List ℕ
manifest_text id = number_text w32 id.session ++ number_text w32 id.seq

abbrev pub container_text : ContainerId → List ℕ
container_text id = number_text w32 id.session ++ number_text w32 id.ordinal

-- 1 and a container, or 2 and a manifest
abbrev pub object_text : Object → List ℕ
object_text (Container id) = 1 ∷ container_text id
object_text (Manifest id) = 2 ∷ manifest_text id

-- 0, or 1 and what there is
abbrev pub reply_text : {A : Type 0} → (A → List ℕ) → Option A → List ℕ
reply_text text None = byte_text 0
reply_text text (Some x) = 1 ∷ text x

-- the number of items, and the items
abbrev pub list_text : {A : Type 0} → (ℕ → List ℕ) → (A → List ℕ) → List A → List ℕ
list_text count text xs = count (length xs) ++ flat_map text xs

abbrev pub seen_text : Seen → List ℕ
seen_text seen = number_text w32 seen.reader ++ number_text w32 seen.session

abbrev pub totals_text : Totals → List ℕ
totals_text t =
    number_text w64 t.streams
    ++ number_text w64 t.bytes
    ++ number_text w64 t.fresh
    ++ number_text w64 t.containers
    ++ number_text w64 t.reclaimed
    ++ number_text w64 t.entries

-- the byte of the kind, and the fields
abbrev pub point_text : Point → List ℕ
point_text (Begin name session) = 1 ∷ (stream_name_text name ++ reply_text (number_text w32) session)
point_text (Choose session hooks champions) =
    2 ∷ (number_text w32 session ++ list_text (number_text w16) digest_text hooks ++ list_text byte_text manifest_text champions)
point_text (Commit manifest content text chunks bytes fresh fresh_bytes uses) =
    3
    ∷ (manifest_text manifest
    ++ digest_text content
    ++ digest_text text
    ++ number_text w32 chunks
    ++ number_text w32 bytes
    ++ number_text w32 fresh
    ++ number_text w32 fresh_bytes
    ++ list_text (number_text w16) container_text uses)
point_text (Finish session containers) = 4 ∷ (number_text w32 session ++ number_text w32 containers)
point_text (Abort session containers texts) =
    5 ∷ (number_text w32 session ++ number_text w32 containers ++ number_text w32 texts)
point_text (Delete name session) = 6 ∷ (stream_name_text name ++ reply_text (number_text w32) session)
point_text (Look name seen) = 7 ∷ (stream_name_text name ++ reply_text seen_text seen)
point_text (Done reader) = 8 ∷ number_text w32 reader
point_text (Reclaim objects) = 9 ∷ list_text byte_text object_text objects
point_text (Stat totals) = 10 ∷ totals_text totals

-- the author, and the point
abbrev pub entry_text : Entry → List ℕ
entry_text entry = number_text w32 entry.author ++ point_text entry.point

-- the texts of the entries, one after another
abbrev pub entries_text : List Entry → List ℕ
entries_text entries = flat_map entry_text entries
