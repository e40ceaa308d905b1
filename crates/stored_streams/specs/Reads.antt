-- What the reads of a depot can have given (this project's own).
use Rattle.std.specs.Prelude.{ℕ, ◌≡◌, ◌*◌, ◌⊎◌, List, [], ◌∷◌, map, Contains, slice_get, Some}
use Rattle.ss_base.specs.declared.ids.Place.{Place}
use Rattle.ss_base.specs.declared.name.Piece.{Piece}
use Rattle.ss_base.specs.declared.object.Object.TheVariants.{Container, Manifest}
use Rattle.ss_base.specs.ObjectName.{object_text}
use Rattle.outside.specs.Shelf.{Objects, Given, bytes_of, part_of}
use Rattle.manifest_codec.specs.Text.{manifest_text, AreManifest}
use Rattle.journal_entry.specs.declared.entry.Entry.{Entry}
use Rattle.store_core.specs.View.{KeptView, kept}

-- a handle on a depot, by what it tells: its reads, without those of the journal, or the objects that it held at first
pub data Reads : Type 0 where
  recorded : List Given → Reads
  held : Objects → Reads

-- the start of a manifest's object, 48 bytes for each chunk that its Commit kept
abbrev pub text_held : Objects → KeptView → List ℕ
text_held objects view = part_of (bytes_of objects (object_text (Manifest view.id))) 0 (48 * view.chunks)

pub record IsTextHeld (objects : Objects) (past : List Entry) (bytes : List ℕ) : Type 0 where
  pub view : KeptView
  pub is_kept : kept view.id past ≡ Some view
  pub text : bytes ≡ text_held objects view

-- where that is a manifest's text, the bytes at a place that it names
pub record IsChunkHeld (objects : Objects) (past : List Entry) (bytes : List ℕ) : Type 0 where
  pub view : KeptView
  pub is_kept : kept view.id past ≡ Some view
  pub pieces : List Piece
  pub places : List Place
  pub manifest : AreManifest pieces places
  pub text : text_held objects view ≡ manifest_text pieces places
  pub number : ℕ
  pub piece : Piece
  pub place : Place
  pub piece_there : slice_get pieces number ≡ Some piece
  pub place_there : slice_get places number ≡ Some place
  pub chunk : bytes ≡ part_of (bytes_of objects (object_text (Container place.container))) place.offset piece.len

-- the reads of a history's manifests and chunks through this handle can have given the bytes
abbrev pub IsReadOf : Reads → List Entry → List ℕ → Type 0
IsReadOf (recorded gave) past bytes = Contains (map (λ (g : Given). g.bytes) gave) bytes
IsReadOf (held objects) past bytes = IsTextHeld objects past bytes ⊎ IsChunkHeld objects past bytes

-- so can those through one of these handles
abbrev pub IsGiven : List Reads → List Entry → List ℕ → Type 0
IsGiven [] past bytes = ⊥
IsGiven (reads ∷ others) past bytes = IsReadOf reads past bytes ⊎ IsGiven others past bytes
