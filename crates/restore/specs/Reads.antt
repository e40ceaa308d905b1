-- Manifests that are loaded, and their chunks that are read, one behind another (this project's own).
use Rattle.std.specs.Prelude.{◌≡◌, ℕ, ◌*◌, List, [], ◌∷◌, map, flat_map}
use Rattle.std.specs.List.{zip}
use Rattle.ss_base.specs.declared.ids.Place.{Place}
use Rattle.ss_base.specs.declared.name.Piece.{Piece}
use Rattle.ss_base.specs.declared.object.Object.TheVariants.{Container, Manifest as ManifestObject}
use Rattle.ss_base.specs.ObjectName.{object_text}
use Rattle.manifest_codec.specs.declared.manifest.Manifest.{Manifest}
use Rattle.manifest_codec.specs.Text.{manifest_text}
use Rattle.store_core.specs.View.{KeptView}
use Rattle.outside.specs.Shelf.{Objects, bytes_of, part_of}
use Rattle.outside.specs.Views.{ShelfView}
use Rattle.depot.specs.Calls.{after_read}
use Rattle.depot.specs.Chunks.{IsChunkRead}
use Rattle.depot.specs.Loading.{IsLoaded}

-- a chunk that a manifest lists: its piece, and the place where it lies
abbrev pub Listed : Type 0
Listed = Piece × Place

-- the chunks of a manifest, in order
abbrev pub listed_by : Manifest → List Listed
listed_by manifest = zip manifest.pieces.items manifest.places.items

-- a chunk that was read, and the bytes that the read gave
pub record ChunkRead : Type 0 where
  pub listed : Listed
  pub bytes : List ℕ

-- after it: the one read of its place's container, from its offset, of its piece's length
abbrev pub after_chunk : ShelfView → ChunkRead → ShelfView
after_chunk shelf chunk =
    after_read shelf (object_text (Container chunk.listed.1.container)) chunk.listed.1.offset chunk.listed.0.len chunk.bytes

abbrev pub after_chunks : ShelfView → List ChunkRead → ShelfView
after_chunks shelf [] = shelf
after_chunks shelf (chunk ∷ chunks) = after_chunks (after_chunk shelf chunk) chunks

-- each read gave bytes with the piece's name
abbrev pub AreChunksRead : ShelfView → List ChunkRead → Type 0
AreChunksRead shelf [] = Unit {0}
AreChunksRead shelf (chunk ∷ chunks) =
    IsChunkRead shelf (after_chunk shelf chunk) chunk.listed.1 chunk.listed.0 chunk.bytes
    × AreChunksRead (after_chunk shelf chunk) chunks

-- a manifest that was loaded, and its chunks that were read
pub record ManifestRead : Type 0 where
  pub kept : KeptView
  pub manifest : Manifest
  pub chunks : List ChunkRead

-- after a load: the one read gave the manifest's text
abbrev pub after_load : ShelfView → KeptView → Manifest → ShelfView
after_load shelf kept manifest =
    after_read shelf (object_text (ManifestObject kept.id)) 0 (48 * kept.chunks) (manifest_text manifest.pieces.items manifest.places.items)

-- after a manifest: it was loaded, and then its chunks were read
abbrev pub after_manifest : ShelfView → ManifestRead → ShelfView
after_manifest shelf one = after_chunks (after_load shelf one.kept one.manifest) one.chunks

abbrev pub after_manifests : ShelfView → List ManifestRead → ShelfView
after_manifests shelf [] = shelf
after_manifests shelf (one ∷ others) = after_manifests (after_manifest shelf one) others

-- it was loaded, and each of its chunks was read
pub record IsManifestRead (shelf : ShelfView) (one : ManifestRead) : Type 0 where
  pub loaded : IsLoaded shelf (after_load shelf one.kept one.manifest) one.kept one.manifest
  pub all : map (λ (c : ChunkRead). c.listed) one.chunks ≡ listed_by one.manifest
  pub read : AreChunksRead (after_load shelf one.kept one.manifest) one.chunks

abbrev pub AreManifestsRead : ShelfView → List ManifestRead → Type 0
AreManifestsRead shelf [] = Unit {0}
AreManifestsRead shelf (one ∷ others) = IsManifestRead shelf one × AreManifestsRead (after_manifest shelf one) others

-- what the reads of chunks gave, each for itself
abbrev pub bytes_of_chunks : List ChunkRead → List (List ℕ)
bytes_of_chunks chunks = map (λ (c : ChunkRead). c.bytes) chunks

abbrev pub bytes_of_manifests : List ManifestRead → List (List ℕ)
bytes_of_manifests manifests = flat_map (λ (one : ManifestRead). bytes_of_chunks one.chunks) manifests

-- ---- where the objects are told

-- the chunks of manifests, in order
abbrev pub listed_by_all : List ManifestRead → List Listed
listed_by_all manifests = flat_map (λ (one : ManifestRead). listed_by one.manifest) manifests

abbrev pub text_of : ManifestRead → List ℕ
text_of one = manifest_text one.manifest.pieces.items one.manifest.places.items

-- what lies at the place of a chunk, of its piece's length
abbrev pub chunk_at : Objects → Listed → List ℕ
chunk_at objects listed = part_of (bytes_of objects (object_text (Container listed.1.container))) listed.1.offset listed.0.len

-- what a manifest's object begins with, 48 bytes for each chunk
abbrev pub text_at : Objects → KeptView → List ℕ
text_at objects kept = part_of (bytes_of objects (object_text (ManifestObject kept.id))) 0 (48 * kept.chunks)
