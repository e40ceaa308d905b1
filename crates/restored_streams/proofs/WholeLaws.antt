-- From whole objects a restore reads the stream, or two different chunks have one SHA-256.
use Rattle.std.proofs.Common.{◌≡◌, ◌⊎◌, ℕ, ◌*◌, true, List, length, take, slice_get, map, Some, sym, ap, ◌∙◌, subst, inl, inr, arith}
use Rattle.std.specs.List.{concat}
use Rattle.std.proofs.lemmas.Bool.{and_from, or_left, or_right}
use Rattle.std.proofs.Math.Seq.{take-length}
use Rattle.ss_base.specs.declared.ids.ManifestId.{ManifestId}
use Rattle.ss_base.specs.declared.ids.Place.{Place}
use Rattle.ss_base.specs.declared.name.Piece.{Piece}
use Rattle.ss_base.specs.declared.object.Object.TheVariants.{Manifest as ManifestObject}
use Rattle.ss_base.specs.declared.profile.Numbers.{Numbers}
use Rattle.ss_base.specs.ObjectName.{object_text}
use Rattle.manifest_codec.specs.Text.{manifest_text}
use Rattle.manifest_codec.proofs.TextLaws as text
use Rattle.journal_entry.specs.declared.entry.Entry.{Entry}
use Rattle.history.specs.declared.rules.Rules.{Rules}
use Rattle.history.specs.Sessions.{has, is_unfinished, is_retained}
use Rattle.history.specs.Need.{commits_manifest, is_live, is_pinned}
use Rattle.history_laws.proofs.SessionLaws.{committed_begun}
use Rattle.store_core.specs.View.{KeptView, stream_kept}
use Rattle.outside.specs.Shelf.{Objects, bytes_of, part_of}
use Rattle.outside.specs.Views.{ShelfView}
use Rattle.stored_streams.specs.Streams.{Streams, manifest_chunks, manifest_pieces}
use Rattle.stored_streams.specs.Plans.{planned_places, plans_of, text_of as planned_text}
use Rattle.stored_streams.specs.Whole.{IsWhole}
use Rattle.stored_streams.proofs.ListLaws.{contains_from_in}
use Rattle.stored_streams.proofs.CommittedLaws.{committed_kept, committed_manifest, kept_counts}
use Rattle.restore.specs.Reads.{Listed, ManifestRead, AreManifestsRead, bytes_of_chunks, bytes_of_manifests, text_of, text_at}
use Rattle.restored_streams.specs.Restored.{IsBegunChunk, ChunksCollide}
use Rattle.restored_streams.proofs.KeptLaws.{manifest_at, IsKeptAt}
use Rattle.restored_streams.proofs.ReadLaws.{IsReadFrom, names_listed, text_is_held, chunk_is_held, front_or_differ}
use Rattle.restored_streams.proofs.StreamLaws.{IsKnown, BeginsSegment, EachBegins, text_planned, names_same, stream_or}

-- ---- one manifest

front_is_all : (bytes : List ℕ) (k : ℕ) → length bytes ≡ k → part_of bytes 0 k ≡ bytes
front_is_all bytes k many = ap (λ (j : ℕ). take j bytes) (sym many) ∙ take-length bytes

length_planned : (n : Numbers) (streams : Streams) (past : List Entry) (id : ManifestId) → length (manifest_text (manifest_pieces n streams id) (planned_places id (plans_of n streams past))) ≡ 48 * length (manifest_pieces n streams id) → length (planned_text n streams id past) ≡ 48 * length (manifest_pieces n streams id)
unfolding planned_text
length_planned n streams past id many = many

pub retained_live : (past : List Entry) (id : ManifestId) → has (commits_manifest id) past ≡ true → is_retained id.session past ≡ true → is_live id past ≡ true
unfolding is_live
retained_live past id committed retained = and_from _ _ committed (or_right (is_unfinished id.session past) _ (or_left _ (is_pinned id past) retained))

-- the start of its object is its text
pub text_at_planned : (n : Numbers) (streams : Streams) (rules : Rules) (past : List Entry) (objects : Objects) (s q : ℕ) (view : KeptView) → IsKnown n streams rules past → IsWhole n streams past objects → is_retained s past ≡ true → IsKeptAt past (manifest_at s q) view → text_at objects view ≡ planned_text n streams (manifest_at s q) past
text_at_planned n streams rules past objects s q view known whole retained at =
    let id = manifest_at s q in
    let is = committed_kept n streams rules past id known.sound known.legal known.entries known.of_streams.contents.contents known.of_streams.stored.stored at.committed in
    let there = whole.manifests id (retained_live past id at.committed retained) in
    let count = kept_counts n streams past id view known.of_streams.contents.contents at.committed at.is in
    let long = length_planned n streams past id (text.length-manifest_text (manifest_pieces n streams id) (planned_places id (plans_of n streams past)) (committed_manifest n streams past id known.sound is)) in
    let bytes : bytes_of objects (object_text (ManifestObject view.id)) ≡ planned_text n streams id past = ap (λ (i : ManifestId). bytes_of objects (object_text (ManifestObject i))) at.id_is ∙ there.text in
    ap (λ (b : List ℕ). part_of b 0 (48 * view.chunks)) bytes
    ∙ front_is_all (planned_text n streams id past) (48 * view.chunks) (omega (arith, long, count))

-- what was read of a manifest begins its segment, or two chunks collide
one_whole : (n : Numbers) (streams : Streams) (rules : Rules) (past : List Entry) (objects : Objects) (s q : ℕ) (depot : ShelfView) (m : ManifestRead) (rest : List Listed) → IsKnown n streams rules past → IsWhole n streams past objects → is_retained s past ≡ true → depot.held ≡ Some objects → IsKeptAt past (manifest_at s q) m.kept → IsReadFrom depot m rest → BeginsSegment n streams (manifest_at s q) m rest ⊎ ChunksCollide n streams past
one_whole n streams rules past objects s q depot m rest known whole retained held at from =
    let id = manifest_at s q in
    let sound = known.sound in
    let is = committed_kept n streams rules past id sound known.legal known.entries known.of_streams.contents.contents known.of_streams.stored.stored at.committed in
    let manifest = committed_manifest n streams past id sound is in
    let there = whole.manifests id (retained_live past id at.committed retained) in
    let same : text_of m ≡ planned_text n streams id past = text_is_held depot objects m rest from held ∙ text_at_planned n streams rules past objects s q m.kept known whole retained at in
    let both = text.same_manifest m.manifest.pieces.items (manifest_pieces n streams id) m.manifest.places.items (planned_places id (plans_of n streams past)) from.part.loaded.like.manifest manifest (text_planned n streams past id m same) in
    let begun = committed_begun rules id past known.legal at.committed in
    let P = λ (b : List ℕ). IsBegunChunk n streams past b in
    elim (front_or_differ P P (bytes_of_chunks m.chunks) (manifest_chunks n streams id) (names_listed rest)
    (λ b h.
    let made = chunk_is_held depot objects m rest b from held h in
    let one = there.chunks made.number made.piece made.place (subst (λ (ps : List Piece). slice_get ps made.number ≡ Some made.piece) both.0 made.piece_there) (subst (λ (ps : List Place). slice_get ps made.number ≡ Some made.place) both.1 made.place_there) in
    subst P (sym made.is) (record { id = one.id; begun = one.begun; chunk = one.chunk }))
    (λ c h. record { id = id; begun = begun; chunk = contains_from_in c (manifest_chunks n streams id) h })
    (names_same n streams past id m rest from.shelf sound is from.part same)) [
      | inl front ↦ inl front
      | inr two ↦ inr (record { one = two.one; other = two.other; differ = two.differ; same = two.same; begun = two.first; begun_too = two.second })
    ]

pub each_begins_whole : (n : Numbers) (streams : Streams) (rules : Rules) (past : List Entry) (s : ℕ) (objects : Objects) (depot : ShelfView) (ms : List ManifestRead) → IsKnown n streams rules past → IsWhole n streams past objects → is_retained s past ≡ true → depot.held ≡ Some objects → EachBegins (ChunksCollide n streams past) n streams past depot ms s
each_begins_whole n streams rules past s objects depot ms known whole retained held = λ k m rest one.
    one_whole n streams rules past objects s k depot m rest known whole retained held one.kept_is one.from

-- what was read from whole objects is the stream, or two chunks collide
pub whole_is_stream : (n : Numbers) (streams : Streams) (rules : Rules) (past : List Entry) (s : ℕ) (objects : Objects) (depot : ShelfView) (ms : List ManifestRead) → IsKnown n streams rules past → IsWhole n streams past objects → is_retained s past ≡ true → AreManifestsRead depot ms → map (λ (x : ManifestRead). x.kept) ms ≡ stream_kept s past → depot.held ≡ Some objects → (concat (bytes_of_manifests ms) ≡ streams s) ⊎ ChunksCollide n streams past
whole_is_stream n streams rules past s objects depot ms known whole retained are kepts held =
    stream_or (ChunksCollide n streams past) n streams rules past s depot ms known retained are kepts
    (each_begins_whole n streams rules past s objects depot ms known whole retained held)
