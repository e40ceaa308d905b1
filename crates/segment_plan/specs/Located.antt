-- Where the pieces of a planned segment lie, and in which containers (this project's own).
use Rattle.std.specs.Prelude.{ℕ, ◌≡◌, ◌<◌, ◌⊎◌, List, length, map, Contains, slice_get, Some}
use Rattle.ss_base.specs.declared.ids.ContainerId.{ContainerId}
use Rattle.ss_base.specs.declared.ids.Place.{Place}
use Rattle.ss_base.specs.declared.name.Piece.{Piece}
use Rattle.container_file.specs.declared.container_end.ContainerEnd.{ContainerEnd}
use Rattle.container_file.specs.Layout.{Laid}
use Rattle.segment_plan.specs.Plan.{Located}

-- a manifest that has a place for each of its pieces
abbrev pub HasPlaces : Located → Type 0
HasPlaces manifest = length manifest.places ≡ length manifest.pieces

-- a chunk with this piece is laid out at this place
pub record IsLaidThere (laid : List Laid) (piece : Piece) (place : Place) : Type 0 where
  pub one : Laid
  pub there : Contains laid one
  pub piece_is : one.chunk.piece ≡ piece
  pub place_is : one.place ≡ place

-- one of the manifests has this piece at this place
pub record IsListedThere (manifests : List Located) (piece : Piece) (place : Place) : Type 0 where
  pub manifest : Located
  pub number : ℕ
  pub there : Contains manifests manifest
  pub piece_there : slice_get manifest.pieces number ≡ Some piece
  pub place_there : slice_get manifest.places number ≡ Some place

-- the piece lies there: where a fresh chunk with it is laid out, or where one of the manifests has it
abbrev pub LiesThere : List Laid → List Located → Piece → Place → Type 0
LiesThere laid manifests piece place = IsLaidThere laid piece place ⊎ IsListedThere manifests piece place

-- a container that the session has by then
pub record IsOwn (end : ContainerEnd) (id : ContainerId) : Type 0 where
  pub session : id.session ≡ end.session
  pub started : id.ordinal < end.containers

-- a container in which one of the manifests has a piece
pub record IsOfManifest (manifests : List Located) (id : ContainerId) : Type 0 where
  pub manifest : Located
  pub there : Contains manifests manifest
  pub container : Contains (map (λ (p : Place). p.container) manifest.places) id

-- the session's own, or one of the manifests'
abbrev pub MayUse : List Located → ContainerEnd → ContainerId → Type 0
MayUse manifests end id = IsOwn end id ⊎ IsOfManifest manifests id
