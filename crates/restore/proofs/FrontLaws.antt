-- What was copied before copying stopped, against what all manifests give.
use Rattle.std.proofs.Common.{◌≡◌, ℕ, ◌*◌, List, [], ◌∷◌, ◌++◌, map, refl, sym, ap, ◌∙◌, subst, Some, inl, inr, append_assoc}
use Rattle.std.specs.Prelude.{Err}
use Rattle.std.specs.List.{concat, zip}
use Rattle.std.proofs.lemmas.List.{map-append}
use Rattle.std.proofs.lemmas.List.Folds.{concat-append}
use Rattle.ss_base.specs.declared.object.Object.TheVariants.{Container, Manifest as ManifestObject}
use Rattle.ss_base.specs.ObjectName.{object_text}
use Rattle.manifest_codec.specs.declared.manifest.Manifest.{Manifest}
use Rattle.manifest_codec.proofs.TextLaws.{same_manifest}
use Rattle.store_core.specs.View.{KeptView}
use Rattle.outside.specs.Shelf.{Objects, AppendLeaves}
use Rattle.outside.specs.Views.{ShelfView}
use Rattle.outside.proofs.ObjectLaws.{with_added-with_object}
use Rattle.depot.specs.declared.fault.RestoreFault.{RestoreFault}
use Rattle.depot.specs.Loading.{IsLoaded}
use Rattle.restore.specs.Reads.{Listed, listed_by, ChunkRead, after_chunks, ManifestRead, after_load, after_manifest, after_manifests, IsManifestRead, AreManifestsRead, bytes_of_chunks, bytes_of_manifests, chunk_at, text_at, text_of}
use Rattle.restore.specs.Output.{with_output, HoldsFront}
use Rattle.restore.specs.Output.HoldsFront.{not_made as unmade, holds}
use Rattle.restore.specs.Copies.{Shelves, StopsAtChunk, StopsAtManifest, StreamCopy}
use Rattle.restore.specs.Copies.StopsAtChunk.{not_read, not_added}
use Rattle.restore.specs.Copies.StopsAtManifest.{not_loaded, in_chunks}
use Rattle.restore.specs.Copies.StreamCopy.{not_made, made}
use Rattle.restore.proofs.OutputLaws.{output-joined, more_output}
use Rattle.restore.proofs.HeldLaws.{told, chunk_bytes, manifest_bytes, chunks_unchanged, manifest_unchanged, manifests_unchanged}

module _ (objects : Objects) where
  -- ---- a manifest that was read twice

  text_is : (depot : ShelfView) (kept : KeptView) (manifest : Manifest) → IsLoaded depot (after_load depot kept manifest) kept manifest → depot.held ≡ Some objects
      → text_of (record { kept = kept; manifest = manifest; chunks = [] }) ≡ text_at objects kept
  text_is depot kept manifest loaded is =
      told depot.held objects (object_text (ManifestObject kept.id)) (text_of (record { kept = kept; manifest = manifest; chunks = [] })) 0 (48 * kept.chunks) is loaded.given.told

  same_listed : (depot other : ShelfView) (kept : KeptView) (manifest : Manifest) (m : ManifestRead)
      → IsLoaded depot (after_load depot kept manifest) kept manifest → depot.held ≡ Some objects
      → IsManifestRead other m → other.held ≡ Some objects → m.kept ≡ kept → listed_by m.manifest ≡ listed_by manifest
  same_listed depot other kept manifest m loaded held read other_held same =
      let text = text_is other m.kept m.manifest read.loaded other_held ∙ ap (text_at objects) same ∙ sym (text_is depot kept manifest loaded held) in
      let both = same_manifest m.manifest.pieces.items manifest.pieces.items m.manifest.places.items manifest.places.items read.loaded.like.manifest loaded.like.manifest text in
      λ i. zip (both.0 i) (both.1 i)

  -- ---- the manifests before one

  record Next (other : ShelfView) (done manifests : List ManifestRead) (kept : KeptView) : Type 0 where
    pub one : ManifestRead
    pub later : List ManifestRead
    pub at : ShelfView
    pub held : at.held ≡ Some objects
    pub read : IsManifestRead at one
    pub kept_is : one.kept ≡ kept
    pub split : bytes_of_manifests manifests ≡ bytes_of_manifests done ++ (bytes_of_chunks one.chunks ++ bytes_of_manifests later)

  -- behind one more manifest, whose chunks have the same bytes
  next_more : (other after : ShelfView) (x m : ManifestRead) (done manifests : List ManifestRead) (kept : KeptView) → bytes_of_chunks m.chunks ≡ bytes_of_chunks x.chunks
      → Next after done manifests kept → Next other (x ∷ done) (m ∷ manifests) kept
  next_more other after x m done manifests kept bytes next = record {
    one = next.one;
    later = next.later;
    at = next.at;
    held = next.held;
    read = next.read;
    kept_is = next.kept_is;
    split = (λ i. bytes i ++ next.split i) ∙ sym (append_assoc (bytes_of_chunks x.chunks) (bytes_of_manifests done) (bytes_of_chunks next.one.chunks ++ bytes_of_manifests next.later));
  }

  next : (depot other : ShelfView) (done manifests : List ManifestRead) (kept : KeptView) (rest : List KeptView)
      → AreManifestsRead depot done → depot.held ≡ Some objects → AreManifestsRead other manifests → other.held ≡ Some objects
      → map (λ (m : ManifestRead). m.kept) manifests ≡ map (λ (m : ManifestRead). m.kept) done ++ kept ∷ rest → Next other done manifests kept
  next depot other [] [] kept rest are held others other_held same = absurd (cc)
  next depot other [] (m ∷ ms) kept rest are held others other_held same =
      let first : m.kept ≡ kept = cc in
      record { one = m; later = ms; at = other; held = other_held; read = others.0; kept_is = first; split = refl }
  next depot other (x ∷ done) [] kept rest are held others other_held same = absurd (cc)
  next depot other (x ∷ done) (m ∷ ms) kept rest are held others other_held same =
      let first : m.kept ≡ x.kept = cc in
      let tail : map (λ (n : ManifestRead). n.kept) ms ≡ map (λ (n : ManifestRead). n.kept) done ++ kept ∷ rest = cc in
      let listed = same_listed depot other x.kept x.manifest m are.0.loaded held others.0 other_held first in
      let bytes : bytes_of_chunks m.chunks ≡ bytes_of_chunks x.chunks =
      manifest_bytes other objects m others.0 other_held ∙ ap (map (chunk_at objects)) listed ∙ sym (manifest_bytes depot objects x are.0 held) in
      next_more other (after_manifest other m) x m done ms kept bytes
      (next (after_manifest depot x) (after_manifest other m) done ms kept rest are.1 ((manifest_unchanged depot x).only.held ∙ held) others.1 ((manifest_unchanged other m).only.held ∙ other_held) tail)

  -- ---- where it stopped

  module _ (output : List ℕ) (files : ShelfView) (after : Shelves) (whole : List (List ℕ)) where
    -- whole chunks alone
    whole_front : (chunks rest : List (List ℕ)) → whole ≡ chunks ++ rest → after.files ≡ with_output files output chunks → HoldsFront output files after.files (concat whole)
    whole_front chunks rest split is = holds (concat chunks) (concat rest) (ap concat split ∙ concat-append chunks rest) (ap (λ (s : ShelfView). s.held) is)

    chunk_front : (chunks rest : List (List ℕ)) (depot : ShelfView) (listed : Listed) (fault : RestoreFault) → whole ≡ chunks ++ chunk_at objects listed ∷ rest → depot.held ≡ Some objects
        → StopsAtChunk output (record { files = with_output files output chunks; depot = depot }) after listed fault → HoldsFront output files after.files (concat whole)
    chunk_front chunks rest depot listed fault split held (not_read why is answer same) = whole_front chunks (chunk_at objects listed ∷ rest) split same
    chunk_front chunks rest depot listed fault split held (not_added bytes why is read failed) = by_objects failed.objects
      where
        by_objects : AppendLeaves (with_output files output chunks).held after.files.held output bytes → HoldsFront output files after.files (concat whole)
        by_objects (inl same) = holds (concat chunks) (concat (chunk_at objects listed ∷ rest)) (ap concat split ∙ concat-append chunks (chunk_at objects listed ∷ rest)) same
        by_objects (inr (front, back, parts, now)) =
            let bytes_are : bytes ≡ chunk_at objects listed = told depot.held objects (object_text (Container listed.1.container)) bytes listed.1.offset listed.0.len held read.given.told in
            let chunk_is : chunk_at objects listed ≡ front ++ back = sym bytes_are ∙ parts in
            holds (concat chunks ++ front) (back ++ concat rest)
            (ap concat split ∙ concat-append chunks (chunk_at objects listed ∷ rest) ∙ ap (λ (l : List ℕ). concat chunks ++ (l ++ concat rest)) chunk_is
            ∙ ap (λ (l : List ℕ). concat chunks ++ l) (append_assoc front back (concat rest)) ∙ sym (append_assoc (concat chunks) front (back ++ concat rest)))
            (now ∙ with_added-with_object files.held output (concat chunks) front)

    manifest_front : (done : List (List ℕ)) (depot : ShelfView) (kept : KeptView) (fault : RestoreFault) (at : ShelfView) (one : ManifestRead) (later : List (List ℕ))
        → whole ≡ done ++ (bytes_of_chunks one.chunks ++ later) → depot.held ≡ Some objects → IsManifestRead at one → at.held ≡ Some objects → one.kept ≡ kept
        → StopsAtManifest output (record { files = with_output files output done; depot = depot }) after kept fault → HoldsFront output files after.files (concat whole)
    manifest_front done depot kept fault at one later split held read at_held same (not_loaded why is answer as_before) = whole_front done (bytes_of_chunks one.chunks ++ later) split as_before
    manifest_front done depot kept fault at one later split held read at_held same (in_chunks manifest loaded stop) =
        let mid = after_load depot kept manifest in
        let at_places = map (chunk_at objects) in
        let asked = map (λ (c : ChunkRead). c.listed) stop.done in
        let some = bytes_of_chunks stop.done in
        let next_one = chunk_at objects stop.listed in
        let rest = at_places stop.rest in
        let copied : some ≡ at_places asked = chunk_bytes mid objects stop.done stop.read held in
        let all : bytes_of_chunks one.chunks ≡ some ++ next_one ∷ rest =
        manifest_bytes at objects one read at_held ∙ ap at_places (same_listed depot at kept manifest one loaded held read at_held same ∙ stop.split)
        ∙ map-append (chunk_at objects) asked (stop.listed ∷ stop.rest) ∙ ap (λ (l : List (List ℕ)). l ++ next_one ∷ rest) (sym copied) in
        let parts : whole ≡ (done ++ some) ++ next_one ∷ (rest ++ later) =
        split ∙ ap (λ (l : List (List ℕ)). done ++ (l ++ later)) all ∙ ap (λ (l : List (List ℕ)). done ++ l) (append_assoc some (next_one ∷ rest) later)
        ∙ sym (append_assoc done some (next_one ∷ (rest ++ later))) in
        chunk_front (done ++ some) (rest ++ later) (after_chunks mid stop.done) stop.listed fault parts ((chunks_unchanged mid stop.done).only.held ∙ held)
        (subst (λ (f : ShelfView). StopsAtChunk output (record { files = f; depot = after_chunks mid stop.done }) after stop.listed fault) (more_output files output done some) stop.stops)

pub stream_front : (output : List ℕ) (before after : Shelves) (kepts : List KeptView) (fault : RestoreFault) (objects : Objects) (depot : ShelfView) (manifests : List ManifestRead)
    → StreamCopy output before after kepts (Err fault) → before.depot.held ≡ Some objects
    → depot.held ≡ Some objects → AreManifestsRead depot manifests → map (λ (m : ManifestRead). m.kept) manifests ≡ kepts
    → HoldsFront output before.files after.files (concat (bytes_of_manifests manifests))
stream_front output before after kepts fault objects depot manifests (not_made why is failed same) held depot_held read kepts_are = unmade failed.objects
stream_front output before after kepts fault objects depot manifests (made stop) held depot_held read kepts_are =
    let from = after_manifests before.depot stop.done in
    let to = next objects before.depot depot stop.done manifests stop.kept stop.rest stop.read held read depot_held (kepts_are ∙ stop.split) in
    manifest_front objects output before.files after (bytes_of_manifests manifests) (bytes_of_manifests stop.done) from stop.kept fault to.at to.one (bytes_of_manifests to.later)
    to.split ((manifests_unchanged before.depot stop.done).only.held ∙ held) to.read to.held to.kept_is
    (subst (λ (f : ShelfView). StopsAtManifest output (record { files = f; depot = from }) after stop.kept fault) (output-joined before.files output (bytes_of_manifests stop.done)) stop.stops)
