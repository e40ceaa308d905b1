-- Which reads show that a stream is damaged (this project's own).
use Rattle.std.specs.Prelude.{◌≡◌, ℕ, ◌*◌, List, ◌++◌, Contains}
use Rattle.std.specs.Option.{option_map}
use Rattle.ss_base.specs.declared.name.Name.{Name}
use Rattle.ss_base.specs.declared.object.Object.TheVariants.{Container, Manifest as ManifestObject}
use Rattle.ss_base.specs.ObjectName.{object_text}
use Rattle.chunk_name.specs.Pieces.{name_of_bytes}
use Rattle.manifest_codec.specs.declared.manifest.Manifest.{Manifest}
use Rattle.manifest_codec.specs.Text.{manifest_text}
use Rattle.store_core.specs.View.{KeptView}
use Rattle.outside.specs.Shelf.{Given, read_of}
use Rattle.outside.specs.Views.{ShelfView}
use Rattle.restore.specs.Reads.{Listed, listed_by}

-- the reads that answered between two moments
abbrev pub GaveBetween : ShelfView → ShelfView → List Given → Type 0
GaveBetween before after reads = after.gave ≡ option_map (λ (earlier : List Given). earlier ++ reads) before.gave

-- a read of a manifest's object from its start, 48 bytes for each chunk, and what it gave
abbrev pub load_read : KeptView → List ℕ → Given
load_read kept bytes = read_of (object_text (ManifestObject kept.id)) 0 (48 * kept.chunks) bytes

-- a read of a chunk at its place, of its piece's length, and what it gave
abbrev pub chunk_read : Listed → List ℕ → Given
chunk_read listed bytes = read_of (object_text (Container listed.1.container)) listed.1.offset listed.0.len bytes

-- One of these reads gave bytes with the name `got` in place of `want`. It read a manifest that was kept, and `want` is
-- the digest that was kept of its text; or it read a chunk at the place that the text of such a manifest has for it, as
-- another of the reads gave this text, and `want` is the piece's name.
pub data ShowsDamage (kepts : List KeptView) (reads : List Given) (want got : Name) : Type 0 where
  in_manifest : (kept : KeptView) (bytes : List ℕ) → Contains kepts kept → want ≡ kept.text → got ≡ name_of_bytes bytes
      → Contains reads (load_read kept bytes) → ShowsDamage kepts reads want got
  in_chunk : (kept : KeptView) (manifest : Manifest) (listed : Listed) (bytes : List ℕ) → Contains kepts kept
      → name_of_bytes (manifest_text manifest.pieces.items manifest.places.items) ≡ kept.text
      → Contains reads (load_read kept (manifest_text manifest.pieces.items manifest.places.items))
      → Contains (listed_by manifest) listed → want ≡ listed.0.name → got ≡ name_of_bytes bytes
      → Contains reads (chunk_read listed bytes) → ShowsDamage kepts reads want got

-- One of these reads, of a manifest that was kept, gave bytes with the digest that was kept of its text.
pub record ShowsUnlike (kepts : List KeptView) (reads : List Given) (text : Name) : Type 0 where
  pub kept : KeptView
  pub bytes : List ℕ
  pub among : Contains kepts kept
  pub kept_is : text ≡ kept.text
  pub given_is : text ≡ name_of_bytes bytes
  pub read : Contains reads (load_read kept bytes)
