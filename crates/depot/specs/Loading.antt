-- What a load answers (this project's own).
use Rattle.std.specs.Prelude.{◌≡◌, ◌≢◌, ℕ, ◌*◌, ◌⊎◌, List, length, Result, Ok, Err}
use Rattle.ss_base.specs.declared.ids.Place.{Place}
use Rattle.ss_base.specs.declared.name.Name.{Name}
use Rattle.ss_base.specs.declared.name.Piece.{Piece}
use Rattle.ss_base.specs.declared.object.Object.TheVariants.{Manifest as ManifestObject}
use Rattle.ss_base.specs.ObjectName.{object_text}
use Rattle.chunk_name.specs.Pieces.{name_of_bytes}
use Rattle.manifest_codec.specs.declared.manifest.Manifest.{Manifest}
use Rattle.manifest_codec.specs.PiecesPart.{pieces_part}
use Rattle.manifest_codec.specs.Text.{manifest_text, AreManifest}
use Rattle.manifest_codec.specs.Containers.{AreContainers}
use Rattle.store_core.specs.View.{KeptView}
use Rattle.outside.specs.Views.{ShelfView}
use Rattle.depot.specs.declared.fault.LoadFault.{LoadFault}
use Rattle.depot.specs.declared.fault.LoadFault.TheVariants.{Shelf, Damaged, Unlike, Memory}
use Rattle.depot.specs.Calls.{HasRead, HasReadNothing, WantsMemory}

-- the one read of a load: of the manifest's object, from its start, 48 bytes for each chunk
abbrev pub Gives : ShelfView → ShelfView → KeptView → List ℕ → Type 0
Gives before after kept given = HasRead before after (object_text (ManifestObject kept.id)) 0 (48 * kept.chunks) given

-- a manifest with the content, the number of chunks and the containers that were kept
pub record IsLike (kept : KeptView) (pieces : List Piece) (places : List Place) : Type 0 where
  pub manifest : AreManifest pieces places
  pub content : name_of_bytes (pieces_part pieces) ≡ kept.content
  pub chunks : length pieces ≡ kept.chunks
  pub uses : AreContainers places kept.uses

-- no such manifest has these bytes as its text
abbrev pub HasNoneLike : KeptView → List ℕ → Type 0
HasNoneLike kept given = (pieces : List Piece) (places : List Place) → IsLike kept pieces places → manifest_text pieces places ≢ given

-- The manifest was loaded: what was given is its text and has the kept digest, and it is like what was kept.
pub record IsLoaded (before after : ShelfView) (kept : KeptView) (manifest : Manifest) : Type 0 where
  pub given : Gives before after kept (manifest_text manifest.pieces.items manifest.places.items)
  pub digest : name_of_bytes (manifest_text manifest.pieces.items manifest.places.items) ≡ kept.text
  pub like : IsLike kept manifest.pieces.items manifest.places.items

-- What was given has another digest than was kept.
pub record IsDamaged (before after : ShelfView) (kept : KeptView) (want got : Name) : Type 0 where
  pub bytes : List ℕ
  pub given : Gives before after kept bytes
  pub kept_is : want ≡ kept.text
  pub given_is : got ≡ name_of_bytes bytes
  pub differ : want ≢ got

-- What was given has the kept digest, and is the text of no manifest like what was kept.
pub record IsUnlike (before after : ShelfView) (kept : KeptView) (text : Name) : Type 0 where
  pub bytes : List ℕ
  pub given : Gives before after kept bytes
  pub kept_is : text ≡ kept.text
  pub given_is : text ≡ name_of_bytes bytes
  pub none : HasNoneLike kept bytes

-- a load; memory may be wanted behind the read too
abbrev pub LoadAnswer : ShelfView → ShelfView → KeptView → Result Manifest LoadFault → Type 0
LoadAnswer before after kept (Ok manifest) = IsLoaded before after kept manifest
LoadAnswer before after kept (Err Shelf) = HasReadNothing before after
LoadAnswer before after kept (Err (Damaged want got)) = IsDamaged before after kept want got
LoadAnswer before after kept (Err (Unlike text)) = IsUnlike before after kept text
LoadAnswer before after kept (Err Memory) = WantsMemory before after ⊎ ((given : List ℕ) × Gives before after kept given)
