-- What a read of a chunk answers (this project's own).
use Rattle.std.specs.Prelude.{◌≡◌, ◌≢◌, ℕ, List, Result, Ok, Err, Vec}
use Rattle.std.specs.declared.alloc.Global.{Global}
use Rattle.ss_base.specs.declared.ids.Place.{Place}
use Rattle.ss_base.specs.declared.name.Name.{Name}
use Rattle.ss_base.specs.declared.name.Piece.{Piece}
use Rattle.ss_base.specs.declared.object.Object.TheVariants.{Container}
use Rattle.ss_base.specs.ObjectName.{object_text}
use Rattle.chunk_name.specs.Pieces.{name_of_bytes}
use Rattle.outside.specs.Views.{ShelfView}
use Rattle.depot.specs.declared.fault.ReadFault.{ReadFault}
use Rattle.depot.specs.declared.fault.ReadFault.TheVariants.{Shelf, Damaged, Memory}
use Rattle.depot.specs.Calls.{HasRead, HasReadNothing, WantsMemory}

-- the one read of a chunk: of the place's container, from the place's offset, of the piece's length
abbrev pub GivesChunk : ShelfView → ShelfView → Place → Piece → List ℕ → Type 0
GivesChunk before after place piece given = HasRead before after (object_text (Container place.container)) place.offset piece.len given

-- The bytes are what was given, and have the piece's name.
pub record IsChunkRead (before after : ShelfView) (place : Place) (piece : Piece) (bytes : List ℕ) : Type 0 where
  pub given : GivesChunk before after place piece bytes
  pub name : name_of_bytes bytes ≡ piece.name

-- What was given has another name than the piece.
pub record IsChunkDamaged (before after : ShelfView) (place : Place) (piece : Piece) (want got : Name) : Type 0 where
  pub bytes : List ℕ
  pub given : GivesChunk before after place piece bytes
  pub piece_is : want ≡ piece.name
  pub given_is : got ≡ name_of_bytes bytes
  pub differ : want ≢ got

-- a read of a chunk
abbrev pub ChunkAnswer : ShelfView → ShelfView → Place → Piece → Result (Vec ℕ Global) ReadFault → Type 0
ChunkAnswer before after place piece (Ok bytes) = IsChunkRead before after place piece bytes.items
ChunkAnswer before after place piece (Err Shelf) = HasReadNothing before after
ChunkAnswer before after place piece (Err (Damaged want got)) = IsChunkDamaged before after place piece want got
ChunkAnswer before after place piece (Err Memory) = WantsMemory before after
