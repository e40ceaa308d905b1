-- The fields, the points and the entries: what is read has that text, and each text is read.
use Rattle.std.proofs.Common.{◌≡◌, ℕ, zero, suc, ◌+◌, ◌-◌, ◌≤◌, true, ◌&&◌, leb, List, [], ◌∷◌, ◌++◌, length, take, drop, Option, Some, None, refl, sym, ap, subst, ◌∙◌, arith}
use Rattle.std.specs.List.{AllByRecursion}
use Rattle.std.proofs.lemmas.Bool.{leb-true, le-leb, and_parts, and_from}
use Rattle.std.proofs.lemmas.Option.{same_Some, some_pair_parts}
use Rattle.std.proofs.lemmas.List.{take_at, take-append-drop, length-append}
use Rattle.ss_base.specs.StreamName.{IsStreamName}
use Rattle.ss_base.specs.declared.ids.ContainerId.{ContainerId}
use Rattle.ss_base.specs.declared.ids.ManifestId.{ManifestId}
use Rattle.ss_base.specs.declared.name.Name.{Name}
use Rattle.ss_base.specs.declared.object.Object.{Object}
use Rattle.ss_base.specs.declared.object.Object.TheVariants.{Container, Manifest}
use Rattle.journal_entry.specs.declared.entry.Entry.{Entry}
use Rattle.journal_entry.specs.declared.entry.Seen.{Seen}
use Rattle.journal_entry.specs.declared.entry.Totals.{Totals}
use Rattle.journal_entry.specs.declared.entry.Point.{Point}
use Rattle.journal_entry.specs.declared.entry.Point.TheVariants.{Begin, Choose, Commit, Finish, Abort, Delete, Look, Done, Reclaim, Stat}
use Rattle.journal_entry.specs.EntryText.{number_text, digest_text, stream_name_text, manifest_text, container_text, object_text, seen_text, totals_text, point_text, entry_text, entries_text}
use Rattle.journal_entry.specs.Bounds.{are_counts, PointIsWithinBounds, IsDigest, FitsManifest, FitsContainer, FitsObject, FitsSeen, FitTotals, PointFits, IsEntry, Begins}
use Rattle.journal_entry.specs.Reading.{Reader, made, byte_at, is_name, digest_at, stream_name_at, manifest_at, container_at, object_at, seen_at, totals_at, begin_at, choose_at, commit_at, finish_at, abort_at, delete_at, look_at, done_at, reclaim_at, stat_at, fields_at, point_at, entry_at}
use Rattle.journal_entry.proofs.Names.{is_name-true, IsStreamName-from}
use Rattle.journal_entry.proofs.Fields.{IsBytes, IsBytes-rest, Takes, Takes-byte, Reads, bind_some, reads_as, ◌⊗◌, reads_made, reads_passing, reads_sized, a_byte, number16, number32, number64, some_bytes, a_list, a_reply}

-- ---- fields

a_digest : Reads digest_at digest_text IsDigest
unfolding digest_at
a_digest =
    reads_made (λ (bytes : List ℕ). record { 0 = bytes }) (λ (name : Name). name.0) (λ _. refl) (λ _. refl)
    (reads_as (λ (bytes : List ℕ). length bytes ≡ 32) (some_bytes 32) (λ x fits. fits.0) (λ x fits. (fits, tt)))

a_stream_name : Reads stream_name_at stream_name_text IsStreamName
unfolding stream_name_at
a_stream_name =
    reads_as IsStreamName (reads_passing is_name (reads_sized length a_byte some_bytes))
    (λ x fits. IsStreamName-from x fits.1)
    (λ x name. let fits = name.fits in ((omega arith, tt), is_name-true x name))

a_manifest : Reads manifest_at manifest_text FitsManifest
unfolding manifest_at
a_manifest =
    reads_made (λ (x : ℕ × ℕ). record { session = x.0; seq = x.1 }) (λ (id : ManifestId). (id.session, id.seq)) (λ _. refl) (λ _. refl)
    (number32 ⊗ number32)

a_container : Reads container_at container_text FitsContainer
unfolding container_at
a_container =
    reads_made (λ (x : ℕ × ℕ). record { session = x.0; ordinal = x.1 }) (λ (id : ContainerId). (id.session, id.ordinal)) (λ _. refl) (λ _. refl)
    (number32 ⊗ number32)

object_takes : (bytes : List ℕ) (x : Object × List ℕ) → IsBytes bytes → object_at bytes ≡ Some x → Takes bytes (object_text x.0) x.1 × FitsObject x.0
unfolding object_at
object_takes [] x fits e = absurd cc
object_takes (zero ∷ rest) x fits e = absurd cc
object_takes (suc zero ∷ rest) x fits e =
    let p = bind_some (container_at rest) (λ v. Some (Container v.0, v.1)) x e in
    let taken = a_container.takes rest p.0 (IsBytes-rest 1 rest fits) p.1 in
    subst (λ (y : Object × List ℕ). Takes (1 ∷ rest) (object_text y.0) y.1 × FitsObject y.0) (same_Some (Container p.0.0, p.0.1) x p.2)
    (Takes-byte 1 rest (container_text p.0.0) p.0.1 taken.0, taken.1)
object_takes (suc (suc zero) ∷ rest) x fits e =
    let p = bind_some (manifest_at rest) (λ v. Some (Manifest v.0, v.1)) x e in
    let taken = a_manifest.takes rest p.0 (IsBytes-rest 2 rest fits) p.1 in
    subst (λ (y : Object × List ℕ). Takes (2 ∷ rest) (object_text y.0) y.1 × FitsObject y.0) (same_Some (Manifest p.0.0, p.0.1) x p.2)
    (Takes-byte 2 rest (manifest_text p.0.0) p.0.1 taken.0, taken.1)
object_takes (suc (suc (suc b)) ∷ rest) x fits e = absurd cc

object_again : (o : Object) (rest : List ℕ) → FitsObject o → object_at (object_text o ++ rest) ≡ Some (o, rest)
unfolding object_at
object_again (Container id) rest fits = rw (a_container.again id rest fits) refl
object_again (Manifest id) rest fits = rw (a_manifest.again id rest fits) refl

an_object : Reads object_at object_text FitsObject
an_object = record { takes = object_takes; again = object_again }

a_sight : Reads seen_at seen_text FitsSeen
unfolding seen_at
a_sight =
    reads_made (λ (x : ℕ × ℕ). record { reader = x.0; session = x.1 }) (λ (s : Seen). (s.reader, s.session)) (λ _. refl) (λ _. refl)
    (number32 ⊗ number32)

some_totals : Reads totals_at totals_text FitTotals
unfolding totals_at
some_totals =
    reads_as FitTotals
    (reads_made
    (λ (x : ((((ℕ × ℕ) × ℕ) × ℕ) × ℕ) × ℕ). record { streams = x.0.0.0.0.0; bytes = x.0.0.0.0.1; fresh = x.0.0.0.1; containers = x.0.0.1; reclaimed = x.0.1; entries = x.1 })
    (λ (t : Totals). (((((t.streams, t.bytes), t.fresh), t.containers), t.reclaimed), t.entries)) (λ _. refl) (λ _. refl)
    (number64 ⊗ number64 ⊗ number64 ⊗ number64 ⊗ number64 ⊗ number64))
    (λ t f. record { streams = f.0.0.0.0.0; bytes = f.0.0.0.0.1; fresh = f.0.0.0.1; containers = f.0.0.1; reclaimed = f.0.1; entries = f.1 })
    (λ t f. (((((f.streams, f.bytes), f.fresh), f.containers), f.reclaimed), f.entries))

-- ---- points

abbrev IsPoint : Point → Type 0
IsPoint p = PointFits p × PointIsWithinBounds p

-- what the fields of a kind give, behind the byte of the kind
kind_takes : {A : Type 0} {r : Reader A} {t : A → List ℕ} {F : A → Type 0} → Reads r t F → (f : A → Point) (k : ℕ) → ((a : A) → point_text (f a) ≡ k ∷ t a) → ((a : A) → F a → IsPoint (f a)) → (rest : List ℕ) (x : Point × List ℕ) → IsBytes (k ∷ rest) → made f r rest ≡ Some x → Takes (k ∷ rest) (point_text x.0) x.1 × IsPoint x.0
kind_takes {A} {r} {t} {F} reads f k text is rest x fits e =
    let p = bind_some (r rest) (λ v. Some (f v.0, v.1)) x e in
    let taken = reads.takes rest p.0 (IsBytes-rest k rest fits) p.1 in
    let whole : Takes (k ∷ rest) (point_text (f p.0.0)) p.0.1 = subst (λ (y : List ℕ). Takes (k ∷ rest) y p.0.1) (sym (text p.0.0)) (Takes-byte k rest (t p.0.0) p.0.1 taken.0) in
    subst (λ (y : Point × List ℕ). Takes (k ∷ rest) (point_text y.0) y.1 × IsPoint y.0) (same_Some (f p.0.0, p.0.1) x p.2) (whole, is p.0.0 taken.1)

kind_again : {A : Type 0} {r : Reader A} {t : A → List ℕ} {F : A → Type 0} → Reads r t F → (f : A → Point) (a : A) (rest : List ℕ) → F a → made f r (t a ++ rest) ≡ Some (f a, rest)
kind_again reads f a rest fits = rw (reads.again a rest fits) refl

abbrev FieldsTake : ℕ → Type 0
FieldsTake k = (rest : List ℕ) (x : Point × List ℕ) → IsBytes (k ∷ rest) → fields_at k rest ≡ Some x → Takes (k ∷ rest) (point_text x.0) x.1 × IsPoint x.0

fields_take : (k : ℕ) → FieldsTake k
unfolding fields_at begin_at choose_at commit_at finish_at abort_at delete_at look_at done_at reclaim_at stat_at
fields_take zero = λ rest x fits e. absurd cc
fields_take (suc zero) =
    kind_takes (a_stream_name ⊗ a_reply number32) (λ (a : List ℕ × Option ℕ). Begin a.0 a.1) 1 (λ _. refl) (λ a f. (f, tt))
fields_take (suc (suc zero)) =
    kind_takes (number32 ⊗ a_list number16 4096 a_digest ⊗ a_list a_byte 255 a_manifest)
    (λ (a : (ℕ × List Name) × List ManifestId). Choose a.0.0 a.0.1 a.1) 2 (λ _. refl)
    (λ a f. ((f.0.0, f.0.1.1, f.1.1), (leb-true _ _ f.0.1.0.1, leb-true _ _ f.1.0.1)))
fields_take (suc (suc (suc zero))) =
    kind_takes (reads_passing (λ x. are_counts x.0.0.0.0.1 x.0.0.0.1 x.0.0.1 x.0.1)
    (a_manifest ⊗ a_digest ⊗ a_digest ⊗ number32 ⊗ number32 ⊗ number32 ⊗ number32 ⊗ a_list number16 4096 a_container))
    (λ (a : ((((((ManifestId × Name) × Name) × ℕ) × ℕ) × ℕ) × ℕ) × List ContainerId). Commit a.0.0.0.0.0.0.0 a.0.0.0.0.0.0.1 a.0.0.0.0.0.1 a.0.0.0.0.1 a.0.0.0.1 a.0.0.1 a.0.1 a.1) 3 (λ _. refl)
    (λ a f. let g = f.0 in
    ((g.0.0.0.0.0.0.0, g.0.0.0.0.0.0.1, g.0.0.0.0.0.1, g.0.0.0.0.1, g.0.0.0.1, g.0.0.1, g.0.1, g.1.1), (f.1, leb-true _ _ g.1.0.1)))
fields_take (suc (suc (suc (suc zero)))) =
    kind_takes (number32 ⊗ number32) (λ (a : ℕ × ℕ). Finish a.0 a.1) 4 (λ _. refl) (λ a f. (f, tt))
fields_take (suc (suc (suc (suc (suc zero))))) =
    kind_takes (number32 ⊗ number32 ⊗ number32) (λ (a : (ℕ × ℕ) × ℕ). Abort a.0.0 a.0.1 a.1) 5 (λ _. refl) (λ a f. ((f.0.0, f.0.1, f.1), tt))
fields_take (suc (suc (suc (suc (suc (suc zero)))))) =
    kind_takes (a_stream_name ⊗ a_reply number32) (λ (a : List ℕ × Option ℕ). Delete a.0 a.1) 6 (λ _. refl) (λ a f. (f, tt))
fields_take (suc (suc (suc (suc (suc (suc (suc zero))))))) =
    kind_takes (a_stream_name ⊗ a_reply a_sight) (λ (a : List ℕ × Option Seen). Look a.0 a.1) 7 (λ _. refl) (λ a f. (f, tt))
fields_take (suc (suc (suc (suc (suc (suc (suc (suc zero)))))))) = kind_takes number32 Done 8 (λ _. refl) (λ a f. (f, tt))
fields_take (suc (suc (suc (suc (suc (suc (suc (suc (suc zero))))))))) =
    kind_takes (a_list a_byte 16 an_object) Reclaim 9 (λ _. refl) (λ a f. (f.1, leb-true _ _ f.0.1))
fields_take (suc (suc (suc (suc (suc (suc (suc (suc (suc (suc zero)))))))))) = kind_takes some_totals Stat 10 (λ _. refl) (λ a f. (f, tt))
fields_take (suc (suc (suc (suc (suc (suc (suc (suc (suc (suc (suc k))))))))))) = λ rest x fits e. absurd cc

point_takes : (bytes : List ℕ) (x : Point × List ℕ) → IsBytes bytes → point_at bytes ≡ Some x → Takes bytes (point_text x.0) x.1 × IsPoint x.0
unfolding point_at byte_at
point_takes [] x fits e = absurd cc
point_takes (k ∷ rest) x fits e = fields_take k rest x fits e

point_again : (p : Point) (rest : List ℕ) → IsPoint p → point_at (point_text p ++ rest) ≡ Some (p, rest)
unfolding point_at byte_at fields_at begin_at choose_at commit_at finish_at abort_at delete_at look_at done_at reclaim_at stat_at
point_again (Begin name session) rest is =
    kind_again (a_stream_name ⊗ a_reply number32) (λ (a : List ℕ × Option ℕ). Begin a.0 a.1) (name, session) rest is.0
point_again (Choose session hooks champions) rest is =
    let few = is.1.0 in
    let fewer = is.1.1 in
    kind_again (number32 ⊗ a_list number16 4096 a_digest ⊗ a_list a_byte 255 a_manifest)
    (λ (a : (ℕ × List Name) × List ManifestId). Choose a.0.0 a.0.1 a.1) ((session, hooks), champions) rest
    ((is.0.0, ((omega arith, le-leb _ _ few), is.0.1)), ((omega arith, le-leb _ _ fewer), is.0.2))
point_again (Commit manifest content text chunks bytes fresh fresh_bytes uses) rest is =
    let few = is.1.1 in
    let f = is.0 in
    kind_again (reads_passing (λ x. are_counts x.0.0.0.0.1 x.0.0.0.1 x.0.0.1 x.0.1)
    (a_manifest ⊗ a_digest ⊗ a_digest ⊗ number32 ⊗ number32 ⊗ number32 ⊗ number32 ⊗ a_list number16 4096 a_container))
    (λ (a : ((((((ManifestId × Name) × Name) × ℕ) × ℕ) × ℕ) × ℕ) × List ContainerId). Commit a.0.0.0.0.0.0.0 a.0.0.0.0.0.0.1 a.0.0.0.0.0.1 a.0.0.0.0.1 a.0.0.0.1 a.0.0.1 a.0.1 a.1)
    (((((((manifest, content), text), chunks), bytes), fresh), fresh_bytes), uses) rest
    ((((((((f.0, f.1), f.2), f.3), f.4), f.5), f.6), ((omega arith, le-leb _ _ few), f.7)), is.1.0)
point_again (Finish session containers) rest is =
    kind_again (number32 ⊗ number32) (λ (a : ℕ × ℕ). Finish a.0 a.1) (session, containers) rest is.0
point_again (Abort session containers texts) rest is =
    kind_again (number32 ⊗ number32 ⊗ number32) (λ (a : (ℕ × ℕ) × ℕ). Abort a.0.0 a.0.1 a.1) ((session, containers), texts) rest
    ((is.0.0, is.0.1), is.0.2)
point_again (Delete name session) rest is =
    kind_again (a_stream_name ⊗ a_reply number32) (λ (a : List ℕ × Option ℕ). Delete a.0 a.1) (name, session) rest is.0
point_again (Look name seen) rest is =
    kind_again (a_stream_name ⊗ a_reply a_sight) (λ (a : List ℕ × Option Seen). Look a.0 a.1) (name, seen) rest is.0
point_again (Done reader) rest is = kind_again number32 Done reader rest is.0
point_again (Reclaim objects) rest is =
    let few = is.1 in
    kind_again (a_list a_byte 16 an_object) Reclaim objects rest ((omega arith, le-leb _ _ few), is.0)
point_again (Stat totals) rest is = kind_again some_totals Stat totals rest is.0

a_point : Reads point_at point_text IsPoint
a_point = record { takes = point_takes; again = point_again }

-- ---- entries

pub an_entry : Reads entry_at entry_text IsEntry
unfolding entry_at
an_entry =
    reads_as IsEntry
    (reads_made (λ (x : ℕ × Point). record { author = x.0; point = x.1 }) (λ (e : Entry). (e.author, e.point)) (λ _. refl) (λ _. refl) (number32 ⊗ a_point))
    (λ e f. record { author = f.0; point = f.1.0; bounds = f.1.1 })
    (λ e f. (f.author, (f.point, f.bounds)))

-- what an entry was read from, and how long its text is
pub decoded : (bytes : List ℕ) (e : Entry) (rest : List ℕ) → IsBytes bytes → entry_at bytes ≡ Some (e, rest) → Begins e (length bytes - length rest) bytes × (length rest ≤ length bytes)
decoded bytes e rest fits read =
    let taken = an_entry.takes bytes (e, rest) fits read in
    let len : length bytes ≡ length (entry_text e) + length rest = ap length taken.0.parts ∙ length-append (entry_text e) rest in
    let n : length (entry_text e) ≡ length bytes - length rest = omega arith in
    (record { valid = taken.1; text = ap (take (length bytes - length rest)) taken.0.parts ∙ take_at (entry_text e) rest (length bytes - length rest) n; len = omega arith }, omega arith)

-- where nothing is read, no entry begins the bytes
pub undecoded : (bytes : List ℕ) → entry_at bytes ≡ None → (e : Entry) (n : ℕ) → Begins e n bytes → ⊥
undecoded bytes none e n begins =
    let parts : bytes ≡ entry_text e ++ drop n bytes = sym (take-append-drop n bytes) ∙ ap (λ (t : List ℕ). t ++ drop n bytes) begins.text in
    let some : entry_at bytes ≡ Some (e, drop n bytes) = ap entry_at parts ∙ an_entry.again e (drop n bytes) begins.valid in
    cc

-- no text of an entry begins that of another
pub same_entry : (a b : Entry) (x y : List ℕ) → IsEntry a → IsEntry b → entry_text a ++ x ≡ entry_text b ++ y → (a ≡ b) × (x ≡ y)
same_entry a b x y is_a is_b e =
    some_pair_parts a b x y (sym (an_entry.again a x is_a) ∙ ap entry_at e ∙ an_entry.again b y is_b)

some_text : (e : Entry) (rest : List ℕ) → [] ≡ entry_text e ++ rest → ⊥
unfolding number_text
some_text e rest h = cc

-- a text is that of one list of entries
pub same_entries : (left right : List Entry) → AllByRecursion IsEntry left → AllByRecursion IsEntry right → entries_text left ≡ entries_text right → left ≡ right
same_entries [] [] are_left are_right h = refl
same_entries [] (b ∷ right) are_left are_right h = absurd (some_text b (entries_text right) h)
same_entries (a ∷ left) [] are_left are_right h = absurd (some_text a (entries_text left) (sym h))
same_entries (a ∷ left) (b ∷ right) are_left are_right h =
    let first = same_entry a b (entries_text left) (entries_text right) are_left.0 are_right.0 h in
    let others = same_entries left right are_left.1 are_right.1 first.1 in
    cc
