-- What a restore that stopped left is a front of the stream.
use Rattle.std.proofs.Common.{◌≡◌, ◌⊎◌, ℕ, zero, suc, ◌<◌, true, List, [], ◌∷◌, ◌++◌, length, drop, drop-cons, slice_get, map, Some, refl, sym, ap, ◌∙◌, subst, inl, inr, arith, append_assoc, Contains}
use Rattle.std.specs.Prelude.{Err}
use Rattle.std.specs.List.{concat, slice_index_or}
use Rattle.std.proofs.lemmas.List.{length-map, length-append}
use Rattle.std.proofs.lemmas.List.Folds.{concat-append}
use Rattle.ss_base.specs.declared.profile.Numbers.{Numbers}
use Rattle.ss_base.proofs.MemberLaws.{in_append_left, in_append_right}
use Rattle.journal_entry.specs.declared.entry.Entry.{Entry}
use Rattle.history.specs.declared.rules.Rules.{Rules}
use Rattle.history.specs.Sessions.{is_retained}
use Rattle.store_core.specs.View.{KeptView, stream_kept}
use Rattle.outside.specs.Shelf.{Objects}
use Rattle.outside.specs.Views.{ShelfView}
use Rattle.depot.specs.declared.fault.RestoreFault.{RestoreFault}
use Rattle.segment_reader.specs.SegmentsOf.{segments_of}
use Rattle.stored_streams.specs.Streams.{Streams, manifest_chunks}
use Rattle.stored_streams.specs.Collision.{Collide}
use Rattle.stored_streams.specs.Reads.{Reads, IsGiven}
use Rattle.stored_streams.specs.Whole.{IsWhole}
use Rattle.restore.specs.Reads.{Listed, ManifestRead, after_manifests, AreManifestsRead, bytes_of_chunks, bytes_of_manifests}
use Rattle.restore.specs.Output.{HoldsFront}
use Rattle.restore.specs.Output.HoldsFront.{not_made, holds}
use Rattle.restore.specs.Copies.{Shelves, StreamCopy}
use Rattle.restore.proofs.HeldLaws.{manifests_unchanged}
use Rattle.restore.proofs.ReadLaws.{after_manifests-push}
use Rattle.restored_streams.specs.Restored.{Tells, ChunksCollide}
use Rattle.restored_streams.proofs.HeldLaws.{flat, segments_whole}
use Rattle.restored_streams.proofs.KeptLaws.{manifest_at}
use Rattle.restored_streams.proofs.ReadLaws.{IsPart, IsReadFrom}
use Rattle.restored_streams.proofs.StreamLaws.{IsKnown, EachBegins, one_of, segment_at, segments_kept, first_segments}
use Rattle.restored_streams.proofs.GivenLaws.{each_begins, tells_before}
use Rattle.stored_streams.proofs.ToldLaws.{GaveMore}
use Rattle.restored_streams.proofs.StopLaws.{Stop, stop_of}
use Rattle.restored_streams.proofs.StopLaws.Stop.{unmade, behind, within}
use Rattle.restored_streams.proofs.WholeLaws.{each_begins_whole}

-- a front of the first chunks is one of all
front_of_more : (output : List ℕ) (before after : ShelfView) (xs back : List (List ℕ)) (bytes : List ℕ) → concat (xs ++ back) ≡ bytes → HoldsFront output before after (concat xs) → HoldsFront output before after bytes
front_of_more output before after xs back bytes is (not_made leaves) = not_made leaves
front_of_more output before after xs back bytes is (holds front rest parts now) =
    holds front (rest ++ concat back)
    (sym is ∙ concat-append xs back ∙ ap (λ (l : List ℕ). l ++ concat back) parts ∙ append_assoc front rest (concat back)) now

pub get_next : {X : Type 0} (xs : List X) (y : X) (ys : List X) (k : ℕ) → k ≡ length xs → slice_get (xs ++ y ∷ ys) k ≡ Some y
get_next [] y ys k is = ap (λ (j : ℕ). slice_get (y ∷ ys) j) is
get_next (x ∷ xs) y ys zero is = absurd (omega arith)
get_next (x ∷ xs) y ys (suc k) is = get_next xs y ys k (omega arith)

-- the segment behind the first ones, of which some chunks are known
next_segment : (segments : List (List (List ℕ))) (k : ℕ) (bytes later : List (List ℕ)) → k < length segments → slice_index_or segments k [] ≡ bytes ++ later → flat (drop k segments) ≡ bytes ++ (later ++ flat (drop (suc k) segments))
next_segment segments k bytes later short is =
    ap flat (drop-cons segments k [] short)
    ∙ ap (λ (g : List (List ℕ)). g ++ flat (drop (suc k) segments)) is
    ∙ append_assoc bytes later (flat (drop (suc k) segments))

-- ---- where it stopped

module _ (C : Type 0) (n : Numbers) (streams : Streams) (rules : Rules) (past : List Entry) (s : ℕ) (known : IsKnown n streams rules past) (retained : is_retained s past ≡ true) (output : List ℕ) (before after : Shelves) where
  behind_front : (done : List ManifestRead) (rest : List KeptView) → stream_kept s past ≡ map (λ (m : ManifestRead). m.kept) done ++ rest → AreManifestsRead before.depot done → EachBegins C n streams past before.depot done s
      → HoldsFront output before.files after.files (concat (bytes_of_manifests done)) → HoldsFront output before.files after.files (streams s) ⊎ C
  behind_front done rest split are each front =
      let segments = segments_of n (streams s) in
      elim (first_segments C n streams rules past s before.depot done done rest known retained are split (λ m h. h) each) [
        | inr collides ↦ inr collides
        | inl is ↦ inl (front_of_more output before.files after.files (bytes_of_manifests done) (flat (drop (length done) segments)) (streams s) (ap concat (sym is) ∙ segments_whole n (streams s) known.sound) front)
      ]

  -- the segments before one, and the first chunks of that
  joined : (done : List ManifestRead) (bytes later : List (List ℕ)) → length done < length (segments_of n (streams s)) → flat (segments_of n (streams s)) ≡ bytes_of_manifests done ++ flat (drop (length done) (segments_of n (streams s)))
      → manifest_chunks n streams (manifest_at s (length done)) ≡ bytes ++ later
      → concat ((bytes_of_manifests done ++ bytes) ++ (later ++ flat (drop (suc (length done)) (segments_of n (streams s))))) ≡ streams s
  joined done bytes later short is begins =
      let segments = segments_of n (streams s) in
      let rest = later ++ flat (drop (suc (length done)) segments) in
      let next = next_segment segments (length done) bytes later short (sym (segment_at n streams s (length done)) ∙ begins) in
      ap concat (append_assoc (bytes_of_manifests done) bytes rest ∙ ap (λ (l : List (List ℕ)). bytes_of_manifests done ++ l) (sym next) ∙ sym is)
      ∙ segments_whole n (streams s) known.sound

  within_front : (done : List ManifestRead) (m : ManifestRead) (left : List Listed) (rest : List KeptView) → stream_kept s past ≡ map (λ (x : ManifestRead). x.kept) done ++ m.kept ∷ rest → AreManifestsRead before.depot done → IsPart (after_manifests before.depot done) m left → EachBegins C n streams past before.depot (done ++ m ∷ []) s
      → HoldsFront output before.files after.files (concat (bytes_of_manifests done ++ bytes_of_chunks m.chunks)) → HoldsFront output before.files after.files (streams s) ⊎ C
  within_front done m left rest split are part each front =
      let segments = segments_of n (streams s) in
      let k = length done in
      let kepts = map (λ (x : ManifestRead). x.kept) done in
      let counted = length-map done (λ (x : ManifestRead). x.kept) in
      let there : slice_get (stream_kept s past) k ≡ Some m.kept = ap (λ (l : List KeptView). slice_get l k) split ∙ get_next kepts m.kept rest k (sym counted) in
      let from : IsReadFrom before.depot m left = record { shelf = after_manifests before.depot done; part = part; held = (manifests_unchanged before.depot done).only.held } in
      let short : k < length segments = (let many = segments_kept n streams rules past s known retained in let parts = ap length split ∙ length-append kepts (m.kept ∷ rest) in omega (arith, many, parts, counted)) in
      elim (first_segments C n streams rules past s before.depot (done ++ m ∷ []) done (m.kept ∷ rest) known retained are split (λ x h. in_append_left x done (m ∷ []) h) each) [
        | inr collides ↦ inr collides
        | inl is ↦ elim (each k m left (one_of n streams rules past s before.depot (done ++ m ∷ []) k m left known (in_append_right m done (m ∷ []) (inl refl)) from there)) [
          | inr collides ↦ inr collides
          | inl begins ↦ inl (front_of_more output before.files after.files (bytes_of_manifests done ++ bytes_of_chunks m.chunks) (begins.later ++ flat (drop (suc k) segments)) (streams s)
              (joined done (bytes_of_chunks m.chunks) begins.later short is begins.is) front)
        ]
      ]

  -- where what is read of each manifest begins its segment, or there is a collision
  stop_front : ((ms : List ManifestRead) → GaveMore (after_manifests before.depot ms) after.depot → EachBegins C n streams past before.depot ms s) → Stop output before after (stream_kept s past) → HoldsFront output before.files after.files (streams s) ⊎ C
  stop_front each (unmade leaves gave) = inl (not_made leaves)
  stop_front each (behind done rest split are gave front) = behind_front done rest split are (each done gave) front
  stop_front each (within done m left rest split are part gave front) =
      within_front done m left rest split are part
      (each (done ++ m ∷ []) (subst (λ (v : ShelfView). GaveMore v after.depot) (sym (after_manifests-push before.depot done m)) gave)) front

pub front_read : (n : Numbers) (streams : Streams) (rules : Rules) (past : List Entry) (s : ℕ) (all : List Reads) (reads : Reads) (output : List ℕ) (before after : Shelves) (fault : RestoreFault) → IsKnown n streams rules past → is_retained s past ≡ true → StreamCopy output before after (stream_kept s past) (Err fault) → Contains all reads → Tells before.depot after.depot reads → HoldsFront output before.files after.files (streams s) ⊎ Collide n streams past (IsGiven all past)
front_read n streams rules past s all reads output before after fault known retained copy among tells =
    stop_front (Collide n streams past (IsGiven all past)) n streams rules past s known retained output before after
    (λ ms gave. each_begins n streams rules past s all reads before.depot ms known among (tells_before before.depot after.depot ms reads gave tells))
    (stop_of output before after (stream_kept s past) fault copy)

pub front_whole : (n : Numbers) (streams : Streams) (rules : Rules) (past : List Entry) (s : ℕ) (objects : Objects) (output : List ℕ) (before after : Shelves) (fault : RestoreFault) → IsKnown n streams rules past → IsWhole n streams past objects → is_retained s past ≡ true → StreamCopy output before after (stream_kept s past) (Err fault) → before.depot.held ≡ Some objects → HoldsFront output before.files after.files (streams s) ⊎ ChunksCollide n streams past
front_whole n streams rules past s objects output before after fault known whole retained copy held =
    stop_front (ChunksCollide n streams past) n streams rules past s known retained output before after
    (λ ms gave. each_begins_whole n streams rules past s objects before.depot ms known whole retained held)
    (stop_of output before after (stream_kept s past) fault copy)
