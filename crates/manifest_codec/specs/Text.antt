-- The text of a manifest (this project's own).
use Rattle.std.specs.Prelude.{◌≡◌, ℕ, ◌<◌, ◌^◌, List, ◌++◌, length}
use Rattle.std.specs.List.{All, flat_map}
use Rattle.std.specs.Int.{w32, to_be_bytes}
use Rattle.ss_base.specs.declared.ids.Place.{Place}
use Rattle.ss_base.specs.declared.name.Piece.{Piece}
use Rattle.manifest_codec.specs.Manifest.{AreListed}
use Rattle.manifest_codec.specs.PiecesPart.{pieces_part}

-- the 12 bytes of a place: session, ordinal and offset in 4 each, the highest first
abbrev pub place_text : Place → List ℕ
place_text p = to_be_bytes w32 p.container.session ++ to_be_bytes w32 p.container.ordinal ++ to_be_bytes w32 p.offset

-- the texts of the places, one behind another
abbrev pub places_part : List Place → List ℕ
places_part ps = flat_map place_text ps

-- the text of a manifest: the pieces part, then the places part
abbrev pub manifest_text : List Piece → List Place → List ℕ
manifest_text pieces places = pieces_part pieces ++ places_part places

-- a place as its type has it: numbers of 32 bits
pub record IsPlace (p : Place) : Type 0 where
  pub session : p.container.session < 2 ^ 32
  pub ordinal : p.container.ordinal < 2 ^ 32
  pub offset : p.offset < 2 ^ 32

-- the lists of a manifest, with names of 32 bytes and numbers of 32 bits
pub record AreManifest (pieces : List Piece) (places : List Place) : Type 0 where
  pub listed : AreListed pieces places
  pub names : All (λ p. length p.name.0 ≡ 32) pieces
  pub numbers : All IsPlace places
