-- How long the text of an entry is.
use Rattle.std.proofs.Common.{◌≡◌, ℕ, ◌*◌, ◌≤◌, List, [], ◌∷◌, length, Option, Some, None, refl, arith}
use Rattle.std.specs.List.{flat_map, AllByRecursion}
use Rattle.std.specs.Int.{w16, w32, w64}
use Rattle.std.proofs.lemmas.List.{length-append}
use Rattle.ss_base.specs.declared.ids.ContainerId.{ContainerId}
use Rattle.ss_base.specs.declared.ids.ManifestId.{ManifestId}
use Rattle.ss_base.specs.declared.object.Object.{Object}
use Rattle.ss_base.specs.declared.object.Object.TheVariants.{Container, Manifest}
use Rattle.journal_entry.specs.declared.entry.Entry.{Entry}
use Rattle.journal_entry.specs.declared.entry.Seen.{Seen}
use Rattle.journal_entry.specs.declared.entry.Point.{Point}
use Rattle.journal_entry.specs.declared.entry.Point.TheVariants.{Begin, Choose, Commit, Finish, Abort, Delete, Look, Done, Reclaim, Stat}
use Rattle.journal_entry.specs.EntryText.{number_text, digest_text, manifest_text, container_text, object_text, reply_text, seen_text, point_text, entry_text, entries_text}
use Rattle.journal_entry.specs.Bounds.{IsDigest, FitsManifest, FitsContainer, FitsObject, PointFits, PointIsWithinBounds, IsEntry}

length-number16 : (n : ℕ) → length (number_text w16 n) ≡ 2
unfolding number_text
length-number16 n = refl

length-number32 : (n : ℕ) → length (number_text w32 n) ≡ 4
unfolding number_text
length-number32 n = refl

length-number64 : (n : ℕ) → length (number_text w64 n) ≡ 8
unfolding number_text
length-number64 n = refl

length-manifest : (id : ManifestId) → length (manifest_text id) ≡ 8
length-manifest id = omega (arith, length-append (number_text w32 id.session) (number_text w32 id.seq), length-number32 id.session, length-number32 id.seq)

length-container : (id : ContainerId) → length (container_text id) ≡ 8
length-container id = omega (arith, length-append (number_text w32 id.session) (number_text w32 id.ordinal), length-number32 id.session, length-number32 id.ordinal)

length-object : (o : Object) → length (object_text o) ≡ 9
length-object (Container id) = omega (arith, length-container id)
length-object (Manifest id) = omega (arith, length-manifest id)

-- texts of one length
length-texts : {A : Type 0} (text : A → List ℕ) (P : A → Type 0) (n : ℕ) → ((x : A) → P x → length (text x) ≡ n) → (xs : List A) → AllByRecursion P xs → length (flat_map text xs) ≡ n * length xs
length-texts text P n each [] fits = omega arith
length-texts text P n each (x ∷ xs) fits = omega (arith, length-append (text x) (flat_map text xs), each x fits.0, length-texts text P n each xs fits.1)

length-session : (session : Option ℕ) → length (reply_text (number_text w32) session) ≤ 5
length-session None = omega arith
length-session (Some s) = omega (arith, length-number32 s)

length-seen : (seen : Option Seen) → length (reply_text seen_text seen) ≤ 9
length-seen None = omega arith
length-seen (Some s) = omega (arith, length-append (number_text w32 s.reader) (number_text w32 s.session), length-number32 s.reader, length-number32 s.session)

length-point : (point : Point) → PointFits point → PointIsWithinBounds point → (1 ≤ length (point_text point)) × (length (point_text point) ≤ 133120)
length-point (Begin name session) fits bounds =
    let name_fits = fits.0.fits in
    (omega arith, simp length-append (omega (arith, length-session session)))
length-point (Choose session hooks champions) fits bounds =
    (omega arith, simp length-append (omega (arith, length-number32 session, length-number16 (length hooks), length-texts digest_text IsDigest 32 (λ x is. is) hooks fits.1, length-texts manifest_text FitsManifest 8 (λ x is. length-manifest x) champions fits.2, bounds.0, bounds.1)))
length-point (Commit manifest content text chunks bytes fresh fresh_bytes uses) fits bounds =
    (omega arith, simp length-append (omega (arith, length-number32 manifest.session, length-number32 manifest.seq, fits.1, fits.2, length-number32 chunks, length-number32 bytes, length-number32 fresh, length-number32 fresh_bytes, length-number16 (length uses), length-texts container_text FitsContainer 8 (λ x is. length-container x) uses fits.7, bounds.1)))
length-point (Finish session containers) fits bounds =
    (omega arith, simp length-append (omega (arith, length-number32 session, length-number32 containers)))
length-point (Abort session containers texts) fits bounds =
    (omega arith, simp length-append (omega (arith, length-number32 session, length-number32 containers, length-number32 texts)))
length-point (Delete name session) fits bounds =
    let name_fits = fits.0.fits in
    (omega arith, simp length-append (omega (arith, length-session session)))
length-point (Look name seen) fits bounds =
    let name_fits = fits.0.fits in
    (omega arith, simp length-append (omega (arith, length-seen seen)))
length-point (Done reader) fits bounds = (omega arith, omega (arith, length-number32 reader))
length-point (Reclaim objects) fits bounds =
    (omega arith, simp length-append (omega (arith, length-texts object_text FitsObject 9 (λ x is. length-object x) objects fits, bounds)))
length-point (Stat t) fits bounds =
    (omega arith, simp length-append (omega (arith, length-number64 t.streams, length-number64 t.bytes, length-number64 t.fresh, length-number64 t.containers, length-number64 t.reclaimed, length-number64 t.entries)))

-- an entry has at least 5 bytes and at most 133,124, which are those of a choice with the longest lists
pub length-entry : (entry : Entry) → IsEntry entry → (5 ≤ length (entry_text entry)) × (length (entry_text entry) ≤ 133124)
length-entry entry is =
    let point = length-point entry.point is.point is.bounds in
    let parts = length-append (number_text w32 entry.author) (point_text entry.point) in
    let author = length-number32 entry.author in
    (omega (arith, parts, author, point.0), omega (arith, parts, author, point.1))

-- entries have no longer text than as many of the longest
pub length-entries : (entries : List Entry) → AllByRecursion IsEntry entries → length (entries_text entries) ≤ 133124 * length entries
length-entries [] valid = omega arith
length-entries (e ∷ es) valid = omega (arith, length-append (entry_text e) (entries_text es), (length-entry e valid.0).1, length-entries es valid.1)
