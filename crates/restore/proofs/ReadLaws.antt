-- Chunks and manifests that are read, and bytes that are added, one behind another.
use Rattle.std.proofs.Common.{◌≡◌, ℕ, ◌+◌, List, [], ◌∷◌, ◌++◌, length, refl, ap, ◌∙◌}
use Rattle.std.proofs.lemmas.List.{append-nil, length-append}
use Rattle.std.proofs.lemmas.List.Concat.{flat_map-append}
use Rattle.std.proofs.lemmas.List.Folds.{concat-append}
use Rattle.std.specs.List.{concat}
use Rattle.outside.specs.Views.{ShelfView}
use Rattle.depot.specs.Calls.{after_append}
use Rattle.depot.specs.Chunks.{IsChunkRead}
use Rattle.restore.specs.Reads.{ChunkRead, after_chunk, after_chunks, AreChunksRead, ManifestRead, after_manifest, after_manifests, IsManifestRead, AreManifestsRead, bytes_of_chunks, bytes_of_manifests}
use Rattle.restore.specs.Output.{after_adding}
use Rattle.restore.specs.Copies.{total}

-- ---- chunks

pub after_chunks-push : (shelf : ShelfView) (cs : List ChunkRead) (c : ChunkRead) → after_chunks shelf (cs ++ c ∷ []) ≡ after_chunk (after_chunks shelf cs) c
after_chunks-push shelf [] c = refl
after_chunks-push shelf (x ∷ cs) c = after_chunks-push (after_chunk shelf x) cs c

pub AreChunksRead-push : (shelf : ShelfView) (cs : List ChunkRead) (c : ChunkRead) → AreChunksRead shelf cs
    → IsChunkRead (after_chunks shelf cs) (after_chunk (after_chunks shelf cs) c) c.listed.1 c.listed.0 c.bytes → AreChunksRead shelf (cs ++ c ∷ [])
AreChunksRead-push shelf [] c are one = (one, tt)
AreChunksRead-push shelf (x ∷ cs) c are one = (are.0, AreChunksRead-push (after_chunk shelf x) cs c are.1 one)

-- ---- manifests

pub after_manifests-push : (shelf : ShelfView) (ms : List ManifestRead) (m : ManifestRead) → after_manifests shelf (ms ++ m ∷ []) ≡ after_manifest (after_manifests shelf ms) m
after_manifests-push shelf [] m = refl
after_manifests-push shelf (x ∷ ms) m = after_manifests-push (after_manifest shelf x) ms m

pub AreManifestsRead-push : (shelf : ShelfView) (ms : List ManifestRead) (m : ManifestRead) → AreManifestsRead shelf ms
    → IsManifestRead (after_manifests shelf ms) m → AreManifestsRead shelf (ms ++ m ∷ [])
AreManifestsRead-push shelf [] m are one = (one, tt)
AreManifestsRead-push shelf (x ∷ ms) m are one = (are.0, AreManifestsRead-push (after_manifest shelf x) ms m are.1 one)

pub bytes_of-push : (ms : List ManifestRead) (m : ManifestRead) → bytes_of_manifests (ms ++ m ∷ []) ≡ bytes_of_manifests ms ++ bytes_of_chunks m.chunks
bytes_of-push ms m =
    let f = λ (one : ManifestRead). bytes_of_chunks one.chunks in
    flat_map-append f ms (m ∷ []) ∙ ap (λ (xs : List (List ℕ)). bytes_of_manifests ms ++ xs) (append-nil (bytes_of_chunks m.chunks))

-- ---- bytes that are added

pub after_adding-append : (shelf : ShelfView) (output : List ℕ) (xs ys : List (List ℕ)) → after_adding shelf output (xs ++ ys) ≡ after_adding (after_adding shelf output xs) output ys
after_adding-append shelf output [] ys = refl
after_adding-append shelf output (x ∷ xs) ys = after_adding-append (after_append shelf output x) output xs ys

pub total-append : (xs ys : List (List ℕ)) → total (xs ++ ys) ≡ total xs + total ys
total-append xs ys = ap length (concat-append xs ys) ∙ length-append (concat xs) (concat ys)

pub total-one : (x : List ℕ) → total (x ∷ []) ≡ length x
total-one x = ap length (append-nil x)
