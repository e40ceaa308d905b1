-- What a restore read is the stream, or there is a collision.
use Rattle.std.proofs.Common.{◌≡◌, ◌⊎◌, ℕ, zero, suc, ◌<◌, ◌≤◌, true, List, [], ◌∷◌, ◌++◌, length, drop, slice_get, map, Some, refl, sym, ap, ◌∙◌, inl, inr, arith}
use Rattle.std.specs.List.{All, concat, count_by, slice_index_or}
use Rattle.std.proofs.lemmas.List.{length-map, length-append, append_assoc, append-nil}
use Rattle.std.proofs.Math.Seq.{drop-length}
use Rattle.ss_base.specs.declared.ids.ManifestId.{ManifestId}
use Rattle.ss_base.specs.declared.name.Name.{Name}
use Rattle.ss_base.specs.declared.name.Piece.{Piece}
use Rattle.ss_base.specs.declared.profile.Numbers.{Numbers}
use Rattle.ss_base.specs.Profile.{AreSound}
use Rattle.ss_base.proofs.MemberLaws.{In}
use Rattle.ss_base.proofs.GetLaws.{get_in, get_kept}
use Rattle.chunk_name.specs.Pieces.{piece, name_of_bytes}
use Rattle.manifest_codec.specs.Text.{manifest_text}
use Rattle.manifest_codec.proofs.TextLaws as text
use Rattle.journal_entry.specs.declared.entry.Entry.{Entry}
use Rattle.journal_entry.specs.Bounds.{IsEntry}
use Rattle.history.specs.declared.rules.Rules.{Rules}
use Rattle.history.specs.Sessions.{chooses, is_retained}
use Rattle.history.specs.Legal.{is_legal}
use Rattle.history_laws.proofs.SessionLaws.{retained_parts}
use Rattle.store_core.specs.View.{KeptView, stream_kept}
use Rattle.outside.specs.Views.{ShelfView}
use Rattle.segment_reader.specs.SegmentsOf.{segments_of}
use Rattle.stored_streams.specs.Streams.{Streams, segment_count, manifest_chunks, manifest_pieces}
use Rattle.stored_streams.specs.Plans.{planned_places, plans_of, text_of as planned_text}
use Rattle.stored_streams.specs.OfStreams.{IsOfStreams}
use Rattle.stored_streams.specs.Collision.{Collide}
use Rattle.stored_streams.proofs.ListLaws.{same_bytes, contains_from_in}
use Rattle.stored_streams.proofs.CommittedLaws.{IsKeptOf, committed_kept, committed_manifest}
use Rattle.restore.specs.Reads.{Listed, ManifestRead, AreManifestsRead, bytes_of_chunks, bytes_of_manifests, text_of}
use Rattle.restored_streams.proofs.HeldLaws.{flat, segments_whole}
use Rattle.restored_streams.proofs.CompleteLaws.{finished_complete, commits_chosen}
use Rattle.restored_streams.proofs.KeptLaws.{manifest_at, IsKeptAt, row_length, row_at}
use Rattle.restored_streams.proofs.ReadLaws.{IsPart, IsReadFrom, read_from, names_listed, names_of_pieces, IsFront, front_or_differ, front_is_whole}

-- what is known of the entries
pub record IsKnown (n : Numbers) (streams : Streams) (rules : Rules) (past : List Entry) : Type 0 where
  pub sound : AreSound n
  pub legal : is_legal rules past ≡ true
  pub entries : All IsEntry past
  pub of_streams : IsOfStreams n streams past

-- ---- one manifest

-- the bytes of a manifest's reads can have been given
pub record AreGivenFor (given : List ℕ → Type 0) (m : ManifestRead) : Type 0 where
  pub text : given (text_of m)
  pub chunks : (bytes : List ℕ) → In bytes (bytes_of_chunks m.chunks) → given bytes

pub text_planned : (n : Numbers) (streams : Streams) (past : List Entry) (id : ManifestId) (m : ManifestRead) → text_of m ≡ planned_text n streams id past → manifest_text m.manifest.pieces.items m.manifest.places.items ≡ manifest_text (manifest_pieces n streams id) (planned_places id (plans_of n streams past))
unfolding planned_text
text_planned n streams past id m same = same

piece_names : (chunks : List (List ℕ)) → map (λ (p : Piece). p.name) (map piece chunks) ≡ map name_of_bytes chunks
piece_names [] = refl
piece_names (c ∷ chunks) = ap (λ (l : List Name). name_of_bytes c ∷ l) (piece_names chunks)

names_planned : (n : Numbers) (streams : Streams) (id : ManifestId) → map (λ (p : Piece). p.name) (manifest_pieces n streams id) ≡ map name_of_bytes (manifest_chunks n streams id)
unfolding manifest_pieces
names_planned n streams id = piece_names (manifest_chunks n streams id)

-- where its text is the one that was planned, its chunks have the names of the segment's
pub names_same : (n : Numbers) (streams : Streams) (past : List Entry) (id : ManifestId) (m : ManifestRead) (rest : List Listed) (shelf : ShelfView) → AreSound n → IsKeptOf n streams past id → IsPart shelf m rest → text_of m ≡ planned_text n streams id past → map name_of_bytes (bytes_of_chunks m.chunks) ++ names_listed rest ≡ map name_of_bytes (manifest_chunks n streams id)
names_same n streams past id m rest shelf sound is part same =
    let both = text.same_manifest m.manifest.pieces.items (manifest_pieces n streams id) m.manifest.places.items (planned_places id (plans_of n streams past)) part.loaded.like.manifest (committed_manifest n streams past id sound is) (text_planned n streams past id m same) in
    names_of_pieces shelf m rest part
    ∙ ap (map (λ (p : Piece). p.name)) both.0
    ∙ names_planned n streams id

-- what was read of it begins the chunks of its segment
abbrev pub BeginsSegment : Numbers → Streams → ManifestId → ManifestRead → List Listed → Type 0
BeginsSegment n streams id m rest = IsFront (bytes_of_chunks m.chunks) (manifest_chunks n streams id) (names_listed rest)

-- so, or there is a collision
pub one_manifest : (n : Numbers) (streams : Streams) (rules : Rules) (past : List Entry) (given : List ℕ → Type 0) (s q : ℕ) (m : ManifestRead) (rest : List Listed) (shelf : ShelfView) → IsKnown n streams rules past → IsKeptAt past (manifest_at s q) m.kept → q < count_by (λ (e : Entry). chooses s e.point) past → IsPart shelf m rest → AreGivenFor given m → BeginsSegment n streams (manifest_at s q) m rest ⊎ Collide n streams past given
one_manifest n streams rules past given s q m rest shelf known at chosen part gave =
    let id = manifest_at s q in
    let is = committed_kept n streams rules past id known.sound known.legal known.entries known.of_streams.contents.contents known.of_streams.stored.stored at.committed in
    let both : Some m.kept ≡ Some is.view = sym at.is ∙ is.kept_is in
    let view : m.kept ≡ is.view = cc in
    let digest : name_of_bytes (text_of m) ≡ name_of_bytes (planned_text n streams id past) = part.loaded.digest ∙ ap (λ (v : KeptView). v.text) view ∙ is.digest in
    elim (same_bytes (text_of m) (planned_text n streams id past)) [
      | inl same ↦
          let Q = λ (bytes : List ℕ). In bytes (manifest_chunks n streams id) in
          elim (front_or_differ given Q (bytes_of_chunks m.chunks) (manifest_chunks n streams id) (names_listed rest) gave.chunks (λ c h. h) (names_same n streams past id m rest shelf known.sound is part same)) [
            | inl front ↦ inl front
            | inr two ↦ inr (record {
              one = two.one;
              other = two.other;
              differ = two.differ;
              same = two.same;
              hashed = inr (inr two.first);
              hashed_too = inl (record { id = id; chosen = chosen; chunk = contains_from_in two.other (manifest_chunks n streams id) two.second });
            })
          ]
      | inr differ ↦ inr (record {
        one = text_of m;
        other = planned_text n streams id past;
        differ = differ;
        same = digest;
        hashed = inr (inr gave.text);
        hashed_too = inr (inl (record { id = id; committed = at.committed; text = refl }));
      })
    ]

-- ---- all manifests

-- where each gave its segment's chunks or there is a collision, all gave those of the first segments, or there is one
pub all_manifests : (C : Type 0) (segments : List (List (List ℕ))) (ms : List ManifestRead) → length ms ≤ length segments → ((k : ℕ) (m : ManifestRead) → slice_get ms k ≡ Some m → (bytes_of_chunks m.chunks ≡ slice_index_or segments k []) ⊎ C) → (flat segments ≡ bytes_of_manifests ms ++ flat (drop (length ms) segments)) ⊎ C
all_manifests C segments [] most each = inl refl
all_manifests C [] (m ∷ ms) most each = absurd (omega arith)
all_manifests C (g ∷ segments) (m ∷ ms) most each =
    elim (each 0 m refl) [
      | inr collides ↦ inr collides
      | inl first ↦ elim (all_manifests C segments ms (omega arith) (λ k x at. each (suc k) x at)) [
        | inl rest ↦ inl ((λ i. sym first i ++ rest i) ∙ sym (append_assoc (bytes_of_chunks m.chunks) (bytes_of_manifests ms) (flat (drop (length ms) segments))))
        | inr collides ↦ inr collides
      ]
    ]

pub segment_at : (n : Numbers) (streams : Streams) (s k : ℕ) → manifest_chunks n streams (manifest_at s k) ≡ slice_index_or (segments_of n (streams s)) k []
unfolding manifest_chunks
segment_at n streams s k = refl

count_is : (n : Numbers) (streams : Streams) (s : ℕ) → segment_count n streams s ≡ length (segments_of n (streams s))
unfolding segment_count
count_is n streams s = refl

kept_there : (ms : List ManifestRead) (k : ℕ) (m : ManifestRead) → slice_get ms k ≡ Some m → slice_get (map (λ (x : ManifestRead). x.kept) ms) k ≡ Some m.kept
kept_there [] k m at = absurd (cc)
kept_there (x ∷ ms) zero m at = let same : x ≡ m = cc in ap (λ (y : ManifestRead). Some y.kept) same
kept_there (x ∷ ms) (suc k) m at = kept_there ms k m at

below : {X : Type 0} (xs : List X) (k : ℕ) (x : X) → slice_get xs k ≡ Some x → k < length xs
below [] k x at = absurd (cc)
below (y ∷ ys) zero x at = omega arith
below (y ∷ ys) (suc k) x at = let rest = below ys k x at in omega (arith, rest)

-- what is known of each manifest that was read, of a session
pub record IsOneOf (past : List Entry) (depot : ShelfView) (ms : List ManifestRead) (s k : ℕ) (m : ManifestRead) (rest : List Listed) : Type 0 where
  pub among : In m ms
  pub kept_is : IsKeptAt past (manifest_at s k) m.kept
  pub from : IsReadFrom depot m rest
  pub chosen : k < count_by (λ (e : Entry). chooses s e.point) past

pub one_of : (n : Numbers) (streams : Streams) (rules : Rules) (past : List Entry) (s : ℕ) (depot : ShelfView) (ms : List ManifestRead) (k : ℕ) (m : ManifestRead) (rest : List Listed) → IsKnown n streams rules past → In m ms → IsReadFrom depot m rest → slice_get (stream_kept s past) k ≡ Some m.kept → IsOneOf past depot ms s k m rest
one_of n streams rules past s depot ms k m rest known among from there =
    let many = row_length rules s past known.legal in
    let enough = commits_chosen rules s past known.legal in
    let short = below (stream_kept s past) k m.kept there in
    record {
      among = among;
      kept_is = row_at rules s past k m.kept known.legal there;
      from = from;
      chosen = omega (arith, many, enough, short);
    }

-- what was read of each of some manifests begins its segment's chunks, or there is a collision
abbrev pub EachBegins : Type 0 → Numbers → Streams → List Entry → ShelfView → List ManifestRead → ℕ → Type 0
EachBegins C n streams past depot ms s = (k : ℕ) (m : ManifestRead) (rest : List Listed) → IsOneOf past depot ms s k m rest → BeginsSegment n streams (manifest_at s k) m rest ⊎ C

-- of a retained session, as many segments as what was kept of manifests
pub segments_kept : (n : Numbers) (streams : Streams) (rules : Rules) (past : List Entry) (s : ℕ) → IsKnown n streams rules past → is_retained s past ≡ true → length (stream_kept s past) ≡ length (segments_of n (streams s))
segments_kept n streams rules past s known retained =
    let done = (retained_parts s past retained).0 in
    row_length rules s past known.legal ∙ finished_complete n streams rules past s known.legal known.of_streams.contents.complete done ∙ count_is n streams s

-- the first segments, of those manifests of `all` that were read from the start on
pub first_segments : (C : Type 0) (n : Numbers) (streams : Streams) (rules : Rules) (past : List Entry) (s : ℕ) (depot : ShelfView) (all ms : List ManifestRead) (rest : List KeptView) → IsKnown n streams rules past → is_retained s past ≡ true → AreManifestsRead depot ms → stream_kept s past ≡ map (λ (x : ManifestRead). x.kept) ms ++ rest → ((m : ManifestRead) → In m ms → In m all)
    → EachBegins C n streams past depot all s → (flat (segments_of n (streams s)) ≡ bytes_of_manifests ms ++ flat (drop (length ms) (segments_of n (streams s)))) ⊎ C
first_segments C n streams rules past s depot all ms rest known retained are split among each =
    let segments = segments_of n (streams s) in
    let kepts = map (λ (x : ManifestRead). x.kept) ms in
    let many = segments_kept n streams rules past s known retained in
    let parts = ap length split ∙ length-append kepts rest in
    let counted = length-map ms (λ (x : ManifestRead). x.kept) in
    all_manifests C segments ms (omega (arith, many, parts, counted)) (λ k m at.
    let there : slice_get (stream_kept s past) k ≡ Some m.kept = ap (λ (l : List KeptView). slice_get l k) split ∙ get_kept kepts rest m.kept k (kept_there ms k m at) in
    elim (each k m [] (one_of n streams rules past s depot all k m [] known (among m (get_in m ms k at)) (read_from depot ms k m are at) there)) [
      | inl front ↦ inl (front_is_whole (bytes_of_chunks m.chunks) (manifest_chunks n streams (manifest_at s k)) front ∙ segment_at n streams s k)
      | inr collides ↦ inr collides
    ])

drop_all : {X : Type 0} (xs : List X) (k : ℕ) → k ≡ length xs → drop k xs ≡ []
drop_all xs k is = ap (λ (j : ℕ). drop j xs) is ∙ drop-length xs

-- the stream
pub stream_or : (C : Type 0) (n : Numbers) (streams : Streams) (rules : Rules) (past : List Entry) (s : ℕ) (depot : ShelfView) (ms : List ManifestRead) → IsKnown n streams rules past → is_retained s past ≡ true → AreManifestsRead depot ms → map (λ (x : ManifestRead). x.kept) ms ≡ stream_kept s past
    → EachBegins C n streams past depot ms s → (concat (bytes_of_manifests ms) ≡ streams s) ⊎ C
stream_or C n streams rules past s depot ms known retained are kepts each =
    let segments = segments_of n (streams s) in
    let counted : length ms ≡ length segments = sym (length-map ms (λ (x : ManifestRead). x.kept)) ∙ ap length kepts ∙ segments_kept n streams rules past s known retained in
    elim (first_segments C n streams rules past s depot ms ms [] known retained are (sym kepts ∙ sym (append-nil (map (λ (x : ManifestRead). x.kept) ms))) (λ m h. h) each) [
      | inl is ↦
          let all : flat segments ≡ bytes_of_manifests ms = is ∙ ap (λ (l : List (List (List ℕ))). bytes_of_manifests ms ++ flat l) (drop_all segments (length ms) counted) ∙ append-nil (bytes_of_manifests ms) in
          inl (ap concat (sym all) ∙ segments_whole n (streams s) known.sound)
      | inr collides ↦ inr collides
    ]
