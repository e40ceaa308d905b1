-- What a restore that stopped had read, and what its output holds.
use Rattle.std.proofs.Common.{◌≡◌, ℕ, List, [], ◌∷◌, ◌++◌, map, sym, ap, ◌∙◌, subst, inl, inr, append_assoc}
use Rattle.std.specs.Prelude.{Err}
use Rattle.std.specs.List.{concat}
use Rattle.std.proofs.lemmas.List.{append-nil, map-append}
use Rattle.std.proofs.lemmas.List.Folds.{concat-append}
use Rattle.ss_base.specs.declared.ids.Place.{Place}
use Rattle.ss_base.specs.declared.name.Piece.{Piece}
use Rattle.manifest_codec.specs.declared.manifest.Manifest.{Manifest}
use Rattle.store_core.specs.View.{KeptView}
use Rattle.outside.specs.Shelf.{read_of, AppendLeaves, CreateLeaves}
use Rattle.outside.specs.Views.{ShelfView}
use Rattle.outside.proofs.ObjectLaws.{with_added-with_object}
use Rattle.depot.specs.declared.fault.LoadFault.{LoadFault}
use Rattle.depot.specs.declared.fault.LoadFault.TheVariants as load
use Rattle.depot.specs.declared.fault.ReadFault.{ReadFault}
use Rattle.depot.specs.declared.fault.ReadFault.TheVariants as chunk
use Rattle.depot.specs.declared.fault.RestoreFault.{RestoreFault}
use Rattle.depot.specs.Calls.{HasRead, WantsMemory}
use Rattle.depot.specs.Chunks.{IsChunkRead, ChunkAnswer}
use Rattle.depot.specs.Loading.{IsLoaded, LoadAnswer}
use Rattle.stored_streams.proofs.ToldLaws.{GaveMore, gave_same, gave_one}
use Rattle.restore.specs.Reads.{Listed, listed_by, ChunkRead, after_chunk, after_chunks, AreChunksRead, ManifestRead, after_load, after_manifest, after_manifests, AreManifestsRead, bytes_of_chunks, bytes_of_manifests}
use Rattle.restore.specs.Output.{with_output, HoldsFront}
use Rattle.restore.specs.Output.HoldsFront.{holds}
use Rattle.restore.specs.Copies.{Shelves, StopsAtChunk, StopsAtManifest, StreamCopy}
use Rattle.restore.specs.Copies.StopsAtChunk.{not_read, not_added}
use Rattle.restore.specs.Copies.StopsAtManifest.{not_loaded, in_chunks}
use Rattle.restore.specs.Copies.StreamCopy.{not_made, made}
use Rattle.restore.proofs.OutputLaws.{output-joined, more_output}
use Rattle.restore.proofs.ReadLaws.{after_chunks-push, AreChunksRead-push}
use Rattle.restored_streams.proofs.ReadLaws.{IsPart}

-- ---- reads that answered behind others

read_gave : (before after : ShelfView) (name : List ℕ) (at max : ℕ) (bytes : List ℕ) → HasRead before after name at max bytes → GaveMore before after
read_gave before after name at max bytes read = gave_one before after (read_of name at max bytes) (ap (λ (s : ShelfView). s.gave) read.call)

gave_wanting : (before after : ShelfView) → WantsMemory before after → GaveMore before after
gave_wanting before after (inl same) = gave_same before after (ap (λ (s : ShelfView). s.gave) same)
gave_wanting before after (inr called) = gave_same before after (ap (λ (s : ShelfView). s.gave) called)

gave_load : (before after : ShelfView) (kept : KeptView) (why : LoadFault) → LoadAnswer before after kept (Err why) → GaveMore before after
gave_load before after kept load.Shelf answer = gave_same before after (ap (λ (s : ShelfView). s.gave) answer.call)
gave_load before after kept (load.Damaged want got) answer = read_gave before after _ _ _ answer.bytes answer.given
gave_load before after kept (load.Unlike text) answer = read_gave before after _ _ _ answer.bytes answer.given
gave_load before after kept load.Memory (inl wants) = gave_wanting before after wants
gave_load before after kept load.Memory (inr read) = read_gave before after _ _ _ read.0 read.1

gave_chunk : (before after : ShelfView) (place : Place) (piece : Piece) (why : ReadFault) → ChunkAnswer before after place piece (Err why) → GaveMore before after
gave_chunk before after place piece chunk.Shelf answer = gave_same before after (ap (λ (s : ShelfView). s.gave) answer.call)
gave_chunk before after place piece (chunk.Damaged want got) answer = read_gave before after _ _ _ answer.bytes answer.given
gave_chunk before after place piece chunk.Memory wants = gave_wanting before after wants

-- ---- how a restore stopped

-- the output was not made; it holds a front of what the manifests before one gave; or of that and of the first chunks of
-- that one
pub data Stop (output : List ℕ) (before after : Shelves) (kepts : List KeptView) : Type 0 where
  unmade : CreateLeaves before.files.held after.files.held output [] → GaveMore before.depot after.depot → Stop output before after kepts
  behind : (done : List ManifestRead) (rest : List KeptView) → kepts ≡ map (λ (m : ManifestRead). m.kept) done ++ rest
      → AreManifestsRead before.depot done → GaveMore (after_manifests before.depot done) after.depot
      → HoldsFront output before.files after.files (concat (bytes_of_manifests done)) → Stop output before after kepts
  within : (done : List ManifestRead) (m : ManifestRead) (left : List Listed) (rest : List KeptView) → kepts ≡ map (λ (x : ManifestRead). x.kept) done ++ m.kept ∷ rest
      → AreManifestsRead before.depot done → IsPart (after_manifests before.depot done) m left → GaveMore (after_manifest (after_manifests before.depot done) m) after.depot
      → HoldsFront output before.files after.files (concat (bytes_of_manifests done ++ bytes_of_chunks m.chunks)) → Stop output before after kepts

whole_chunks : (output : List ℕ) (files after : ShelfView) (xs : List (List ℕ)) → after ≡ with_output files output xs → HoldsFront output files after (concat xs)
whole_chunks output files after xs is = holds (concat xs) [] (sym (append-nil (concat xs))) (ap (λ (s : ShelfView). s.held) is)

one_more : (xs : List (List ℕ)) (bytes : List ℕ) → concat (xs ++ bytes ∷ []) ≡ concat xs ++ bytes
one_more xs bytes = concat-append xs (bytes ∷ []) ∙ ap (λ (l : List ℕ). concat xs ++ l) (append-nil bytes)

front_added : (output : List ℕ) (files after : ShelfView) (xs : List (List ℕ)) (bytes : List ℕ) → AppendLeaves (with_output files output xs).held after.held output bytes → HoldsFront output files after (concat (xs ++ bytes ∷ []))
front_added output files after xs bytes (inl same) = holds (concat xs) bytes (one_more xs bytes) same
front_added output files after xs bytes (inr (front, back, parts, now)) =
    holds (concat xs ++ front) back
    (one_more xs bytes ∙ ap (λ (l : List ℕ). concat xs ++ l) parts ∙ sym (append_assoc (concat xs) front back))
    (now ∙ with_added-with_object files.held output (concat xs) front)

-- a chunk was not read, or it was, and a front of it was added
data ChunkStop (output : List ℕ) (files : ShelfView) (xs : List (List ℕ)) (depot : ShelfView) (after : Shelves) (listed : Listed) : Type 0 where
  none : GaveMore depot after.depot → HoldsFront output files after.files (concat xs) → ChunkStop output files xs depot after listed
  some : (bytes : List ℕ) → IsChunkRead depot after.depot listed.1 listed.0 bytes → HoldsFront output files after.files (concat (xs ++ bytes ∷ [])) → ChunkStop output files xs depot after listed

at_chunk : (output : List ℕ) (files : ShelfView) (xs : List (List ℕ)) (depot : ShelfView) (after : Shelves) (listed : Listed) (fault : RestoreFault) → StopsAtChunk output (record { files = with_output files output xs; depot = depot }) after listed fault → ChunkStop output files xs depot after listed
at_chunk output files xs depot after listed fault (not_read why is answer same) = none (gave_chunk depot after.depot listed.1 listed.0 why answer) (whole_chunks output files after.files xs same)
at_chunk output files xs depot after listed fault (not_added bytes why is read failed) = some bytes read (front_added output files after.files xs bytes failed.objects)

-- in the chunks of a manifest, behind others
module _ (output : List ℕ) (before after : Shelves) (kepts : List KeptView) (done : List ManifestRead) (kept : KeptView) (rest : List KeptView)
    (split : kepts ≡ map (λ (m : ManifestRead). m.kept) done ++ kept ∷ rest) (read : AreManifestsRead before.depot done) (manifest : Manifest)
    (loaded : IsLoaded (after_manifests before.depot done) (after_load (after_manifests before.depot done) kept manifest) kept manifest) where
  in_these : (chunks : List ChunkRead) (listed : Listed) (left : List Listed) → listed_by manifest ≡ map (λ (c : ChunkRead). c.listed) chunks ++ listed ∷ left
      → AreChunksRead (after_load (after_manifests before.depot done) kept manifest) chunks
      → ChunkStop output before.files (bytes_of_manifests done ++ bytes_of_chunks chunks) (after_chunks (after_load (after_manifests before.depot done) kept manifest) chunks) after listed
      → Stop output before after kepts
  in_these chunks listed left list are (none gave front) =
      within done (record { kept = kept; manifest = manifest; chunks = chunks }) (listed ∷ left) rest split read
      (record { loaded = loaded; split = list; read = are }) gave front
  in_these chunks listed left list are (some bytes one front) =
      let mid = after_load (after_manifests before.depot done) kept manifest in
      let c : ChunkRead = record { listed = listed; bytes = bytes } in
      let now : after.depot ≡ after_chunk (after_chunks mid chunks) c = one.given.call in
      let of_chunk = λ (x : ChunkRead). x.listed in
      let pushed : listed_by manifest ≡ map of_chunk (chunks ++ c ∷ []) ++ left =
      list ∙ sym (append_assoc (map of_chunk chunks) (listed ∷ []) left) ∙ ap (λ (l : List Listed). l ++ left) (sym (map-append of_chunk chunks (c ∷ []))) in
      let joined : (bytes_of_manifests done ++ bytes_of_chunks chunks) ++ bytes ∷ [] ≡ bytes_of_manifests done ++ bytes_of_chunks (chunks ++ c ∷ []) =
      append_assoc (bytes_of_manifests done) (bytes_of_chunks chunks) (bytes ∷ [])
      ∙ ap (λ (l : List (List ℕ)). bytes_of_manifests done ++ l) (sym (map-append (λ (x : ChunkRead). x.bytes) chunks (c ∷ []))) in
      within done (record { kept = kept; manifest = manifest; chunks = chunks ++ c ∷ [] }) left rest split read
      (record {
        loaded = loaded;
        split = pushed;
        read = AreChunksRead-push mid chunks c are (subst (λ (s : ShelfView). IsChunkRead (after_chunks mid chunks) s listed.1 listed.0 bytes) now one);
      })
      (gave_same (after_chunks mid (chunks ++ c ∷ [])) after.depot (ap (λ (s : ShelfView). s.gave) (now ∙ sym (after_chunks-push mid chunks c))))
      (subst (λ (l : List (List ℕ)). HoldsFront output before.files after.files (concat l)) joined front)

at_manifest : (output : List ℕ) (before after : Shelves) (kepts : List KeptView) (done : List ManifestRead) (kept : KeptView) (rest : List KeptView) (fault : RestoreFault) → kepts ≡ map (λ (m : ManifestRead). m.kept) done ++ kept ∷ rest → AreManifestsRead before.depot done
    → StopsAtManifest output (record { files = with_output before.files output (bytes_of_manifests done); depot = after_manifests before.depot done }) after kept fault → Stop output before after kepts
at_manifest output before after kepts done kept rest fault split read (not_loaded why is answer same) =
    behind done (kept ∷ rest) split read (gave_load (after_manifests before.depot done) after.depot kept why answer) (whole_chunks output before.files after.files (bytes_of_manifests done) same)
at_manifest output before after kepts done kept rest fault split read (in_chunks manifest loaded stop) =
    let mid = after_load (after_manifests before.depot done) kept manifest in
    let xs = bytes_of_manifests done ++ bytes_of_chunks stop.done in
    in_these output before after kepts done kept rest split read manifest loaded stop.done stop.listed stop.rest stop.split stop.read
    (at_chunk output before.files xs (after_chunks mid stop.done) after stop.listed fault
    (subst (λ (f : ShelfView). StopsAtChunk output (record { files = f; depot = after_chunks mid stop.done }) after stop.listed fault) (more_output before.files output (bytes_of_manifests done) (bytes_of_chunks stop.done)) stop.stops))

pub stop_of : (output : List ℕ) (before after : Shelves) (kepts : List KeptView) (fault : RestoreFault) → StreamCopy output before after kepts (Err fault) → Stop output before after kepts
stop_of output before after kepts fault (not_made why is failed same) = unmade failed.objects (gave_same before.depot after.depot (ap (λ (s : ShelfView). s.gave) same))
stop_of output before after kepts fault (made stop) =
    at_manifest output before after kepts stop.done stop.kept stop.rest fault stop.split stop.read
    (subst (λ (f : ShelfView). StopsAtManifest output (record { files = f; depot = after_manifests before.depot stop.done }) after stop.kept fault) (output-joined before.files output (bytes_of_manifests stop.done)) stop.stops)
