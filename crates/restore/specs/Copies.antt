-- Chunks that are copied from the depot to an output, and where copying stops (this project's own).
use Rattle.std.specs.Prelude.{◌≡◌, ℕ, ◌+◌, ◌-◌, ◌^◌, min, List, [], ◌∷◌, ◌++◌, length, map, Result, Ok, Err}
use Rattle.std.specs.List.{concat}
use Rattle.manifest_codec.specs.declared.manifest.Manifest.{Manifest}
use Rattle.store_core.specs.View.{KeptView}
use Rattle.outside.specs.Shelf.{CreateLeaves, AppendLeaves}
use Rattle.outside.specs.Views.{ShelfView, shelf_view}
use Rattle.outside.specs.declared.shelf.Shelf.{Ghosts}
use Rattle.outside.specs.declared.trouble.Trouble.{Trouble}
use Rattle.depot.specs.declared.depot.Depot.{Depot}
use Rattle.depot.specs.declared.fault.LoadFault.{LoadFault}
use Rattle.depot.specs.declared.fault.ReadFault.{ReadFault}
use Rattle.depot.specs.declared.fault.RestoreFault.{RestoreFault}
use Rattle.depot.specs.Seen.{seen}
use Rattle.depot.specs.Calls.{after_append, HasFailed}
use Rattle.depot.specs.Chunks.{IsChunkRead, ChunkAnswer}
use Rattle.depot.specs.Loading.{IsLoaded, LoadAnswer}
use Rattle.restore.specs.Faults.{output_fault, load_fault, chunk_fault}
use Rattle.restore.specs.Reads.{Listed, listed_by, ChunkRead, after_chunks, AreChunksRead, ManifestRead, after_load, after_manifest, after_manifests, IsManifestRead, AreManifestsRead, bytes_of_chunks, bytes_of_manifests}
use Rattle.restore.specs.Output.{after_making, after_adding}

-- what is observed of the two shelves of a restore: that of the output, and the depot's
pub record Shelves : Type 0 where
  pub files : ShelfView
  pub depot : ShelfView

-- A clause writes the meanings of both, `⟦<F as Shelf>⟧` and `⟦<K as Shelf>⟧`.
abbrev pub shelves : {F K : Type 0} → Ghosts F → Ghosts K → F → Depot K → Shelves
shelves of_files of_depot files depot = record { files = shelf_view of_files files; depot = seen of_depot depot }

-- a number of bytes as a u64 has it: one that is greater stands at the last value
abbrev pub counted : ℕ → ℕ
counted n = min n (2 ^ 64 - 1)

abbrev pub total : List (List ℕ) → ℕ
total chunks = length (concat chunks)

-- ---- what was copied

-- a chunk: it was read, has the piece's name, and was added to the output
pub record IsChunkCopied (output : List ℕ) (before after : Shelves) (listed : Listed) (count : ℕ) : Type 0 where
  pub bytes : List ℕ
  pub read : IsChunkRead before.depot after.depot listed.1 listed.0 bytes
  pub added : after.files ≡ after_append before.files output bytes
  pub count_is : count ≡ length bytes

-- chunks, in order, behind so many bytes
pub record AreChunksCopied (output : List ℕ) (before after : Shelves) (all : List Listed) (start count : ℕ) : Type 0 where
  pub chunks : List ChunkRead
  pub listed : map (λ (c : ChunkRead). c.listed) chunks ≡ all
  pub read : AreChunksRead before.depot chunks
  pub depot : after.depot ≡ after_chunks before.depot chunks
  pub files : after.files ≡ after_adding before.files output (bytes_of_chunks chunks)
  pub count_is : count ≡ counted (start + total (bytes_of_chunks chunks))

-- a manifest: it was loaded, and its chunks were copied
pub record IsManifestCopied (output : List ℕ) (before after : Shelves) (kept : KeptView) (start count : ℕ) : Type 0 where
  pub one : ManifestRead
  pub kept_is : one.kept ≡ kept
  pub read : IsManifestRead before.depot one
  pub depot : after.depot ≡ after_manifest before.depot one
  pub files : after.files ≡ after_adding before.files output (bytes_of_chunks one.chunks)
  pub count_is : count ≡ counted (start + total (bytes_of_chunks one.chunks))

-- manifests, in order
pub record AreManifestsCopied (output : List ℕ) (before after : Shelves) (kepts : List KeptView) (count : ℕ) : Type 0 where
  pub manifests : List ManifestRead
  pub kepts_are : map (λ (m : ManifestRead). m.kept) manifests ≡ kepts
  pub read : AreManifestsRead before.depot manifests
  pub depot : after.depot ≡ after_manifests before.depot manifests
  pub files : after.files ≡ after_adding before.files output (bytes_of_manifests manifests)
  pub count_is : count ≡ counted (total (bytes_of_manifests manifests))

-- ---- where copying stopped

-- at a chunk: its read did not answer with the piece's bytes; or it did, and adding them failed
pub data StopsAtChunk (output : List ℕ) (before after : Shelves) (listed : Listed) (fault : RestoreFault) : Type 0 where
  not_read : (why : ReadFault) → fault ≡ chunk_fault why → ChunkAnswer before.depot after.depot listed.1 listed.0 (Err why) → after.files ≡ before.files
      → StopsAtChunk output before after listed fault
  not_added : (bytes : List ℕ) (why : Trouble) → fault ≡ output_fault why → IsChunkRead before.depot after.depot listed.1 listed.0 bytes
      → HasFailed (λ old new. AppendLeaves old new output bytes) before.files after.files why
      → StopsAtChunk output before after listed fault

-- in the chunks of a manifest: those before one are copied, and it stopped at that one
pub record StopsInChunks (output : List ℕ) (before after : Shelves) (all : List Listed) (fault : RestoreFault) : Type 0 where
  pub done : List ChunkRead
  pub listed : Listed
  pub rest : List Listed
  pub split : all ≡ map (λ (c : ChunkRead). c.listed) done ++ listed ∷ rest
  pub read : AreChunksRead before.depot done
  pub stops : StopsAtChunk output
      (record { files = after_adding before.files output (bytes_of_chunks done); depot = after_chunks before.depot done })
      after listed fault

-- at a manifest: its load failed; or it was loaded, and copying stopped in its chunks
pub data StopsAtManifest (output : List ℕ) (before after : Shelves) (kept : KeptView) (fault : RestoreFault) : Type 0 where
  not_loaded : (why : LoadFault) → fault ≡ load_fault why → LoadAnswer before.depot after.depot kept (Err why) → after.files ≡ before.files
      → StopsAtManifest output before after kept fault
  in_chunks : (manifest : Manifest) → IsLoaded before.depot (after_load before.depot kept manifest) kept manifest
      → StopsInChunks output (record before { depot = after_load before.depot kept manifest }) after (listed_by manifest) fault
      → StopsAtManifest output before after kept fault

-- in manifests: those before one are copied, and it stopped at that one
pub record StopsInManifests (output : List ℕ) (before after : Shelves) (kepts : List KeptView) (fault : RestoreFault) : Type 0 where
  pub done : List ManifestRead
  pub kept : KeptView
  pub rest : List KeptView
  pub split : kepts ≡ map (λ (m : ManifestRead). m.kept) done ++ kept ∷ rest
  pub read : AreManifestsRead before.depot done
  pub stops : StopsAtManifest output
      (record { files = after_adding before.files output (bytes_of_manifests done); depot = after_manifests before.depot done })
      after kept fault

-- ---- what copying answers: how many bytes, or why it stopped

abbrev pub ChunkCopy : List ℕ → Shelves → Shelves → Listed → Result ℕ RestoreFault → Type 0
ChunkCopy output before after listed (Ok count) = IsChunkCopied output before after listed count
ChunkCopy output before after listed (Err fault) = StopsAtChunk output before after listed fault

abbrev pub ChunksCopy : List ℕ → Shelves → Shelves → List Listed → ℕ → Result ℕ RestoreFault → Type 0
ChunksCopy output before after all start (Ok count) = AreChunksCopied output before after all start count
ChunksCopy output before after all start (Err fault) = StopsInChunks output before after all fault

abbrev pub ManifestCopy : List ℕ → Shelves → Shelves → KeptView → ℕ → Result ℕ RestoreFault → Type 0
ManifestCopy output before after kept start (Ok count) = IsManifestCopied output before after kept start count
ManifestCopy output before after kept start (Err fault) = StopsAtManifest output before after kept fault

abbrev pub ManifestsCopy : List ℕ → Shelves → Shelves → List KeptView → Result ℕ RestoreFault → Type 0
ManifestsCopy output before after kepts (Ok count) = AreManifestsCopied output before after kepts count
ManifestsCopy output before after kepts (Err fault) = StopsInManifests output before after kepts fault

-- a stream: the output could not be made; or it was made without bytes, and the manifests were copied to it
pub data StreamCopy (output : List ℕ) (before after : Shelves) (kepts : List KeptView) (result : Result ℕ RestoreFault) : Type 0 where
  not_made : (why : Trouble) → result ≡ Err (output_fault why) → HasFailed (λ old new. CreateLeaves old new output []) before.files after.files why
      → after.depot ≡ before.depot → StreamCopy output before after kepts result
  made : ManifestsCopy output (record before { files = after_making before.files output }) after kepts result
      → StreamCopy output before after kepts result
