-- The lines that are printed of entries (this project's own).
use Rattle.std.specs.Prelude.{ℕ, List, [], ◌∷◌, ◌++◌, length, codes, Some, None}
use Rattle.std.specs.List.{join_by}
use Rattle.std.specs.Fmt.{decimal}
use Rattle.ss_base.specs.declared.ids.ContainerId.{ContainerId}
use Rattle.ss_base.specs.declared.ids.ManifestId.{ManifestId}
use Rattle.ss_base.specs.declared.object.Object.{Object}
use Rattle.ss_base.specs.declared.object.Object.TheVariants.{Container, Manifest}
use Rattle.journal_entry.specs.declared.entry.Entry.{Entry}
use Rattle.journal_entry.specs.declared.entry.Point.{Point}
use Rattle.journal_entry.specs.declared.entry.Point.TheVariants.{Begin, Choose, Commit, Finish, Abort, Delete, Look, Done, Reclaim, Stat}

-- m1.0 is the manifest of session 1 with the sequence number 0
unfoldable pub manifest_word : ManifestId → List ℕ
manifest_word m = codes "m" ++ decimal m.session ++ codes "." ++ decimal m.seq

-- c1.0 is the container of session 1 with the ordinal 0
unfoldable pub container_word : ContainerId → List ℕ
container_word c = codes "c" ++ decimal c.session ++ codes "." ++ decimal c.ordinal

-- the word of the container, or of the manifest
unfoldable pub object_word : Object → List ℕ
object_word (Container c) = container_word c
object_word (Manifest m) = manifest_word m

-- a dash where there are no items, else their words joined by commas
unfoldable pub list_word : {A : Type 0} → (A → List ℕ) → List A → List ℕ
list_word word [] = codes "-"
list_word word (x ∷ xs) = join_by word (codes ",") (x ∷ xs)

-- a space, what is counted, a space, and how many there are
unfoldable pub count_words : List ℕ → ℕ → List ℕ
count_words what n = codes " " ++ what ++ codes " " ++ decimal n

-- how many chunks are fresh, and their bytes
unfoldable pub fresh_words : ℕ → ℕ → List ℕ
fresh_words chunks bytes = codes " fresh " ++ decimal chunks ++ codes " " ++ decimal bytes

-- what is printed of a commit: its manifest, its chunks and bytes, the fresh ones, its uses
unfoldable pub commit_words : ManifestId → ℕ → ℕ → ℕ → ℕ → List ContainerId → List ℕ
commit_words manifest chunks bytes fresh fresh_bytes uses =
    codes "commit "
    ++ manifest_word manifest
    ++ count_words (codes "chunks") chunks
    ++ count_words (codes "bytes") bytes
    ++ fresh_words fresh fresh_bytes
    ++ codes " uses "
    ++ list_word container_word uses

-- the word of the kind, and what is printed of the fields
unfoldable pub point_words : Point → List ℕ
point_words (Begin name None) = codes "begin " ++ name ++ codes " taken"
point_words (Begin name (Some session)) = codes "begin " ++ name ++ codes " s" ++ decimal session
point_words (Choose session hooks champions) =
    codes "choose s"
    ++ decimal session
    ++ count_words (codes "hooks") (length hooks)
    ++ codes " champions "
    ++ list_word manifest_word champions
point_words (Commit manifest _ _ chunks bytes fresh fresh_bytes uses) = commit_words manifest chunks bytes fresh fresh_bytes uses
point_words (Finish session containers) = codes "finish s" ++ decimal session ++ count_words (codes "containers") containers
point_words (Abort session containers texts) =
    codes "abort s" ++ decimal session ++ count_words (codes "containers") containers ++ count_words (codes "texts") texts
point_words (Delete name None) = codes "delete " ++ name ++ codes " none"
point_words (Delete name (Some session)) = codes "delete " ++ name ++ codes " s" ++ decimal session
point_words (Look name None) = codes "look " ++ name ++ codes " none"
point_words (Look name (Some seen)) = codes "look " ++ name ++ codes " r" ++ decimal seen.reader ++ codes " s" ++ decimal seen.session
point_words (Done reader) = codes "done r" ++ decimal reader
point_words (Reclaim objects) = codes "reclaim " ++ list_word object_word objects
point_words (Stat totals) =
    codes "stat"
    ++ count_words (codes "streams") totals.streams
    ++ count_words (codes "bytes") totals.bytes
    ++ count_words (codes "fresh") totals.fresh
    ++ count_words (codes "containers") totals.containers
    ++ count_words (codes "reclaimed") totals.reclaimed
    ++ count_words (codes "entries") totals.entries

-- the entry's number, its author behind an a, what is printed of its point, LF
unfoldable pub entry_line : ℕ → Entry → List ℕ
entry_line number entry = decimal number ++ codes " a" ++ decimal entry.author ++ codes " " ++ point_words entry.point ++ codes "\n"
