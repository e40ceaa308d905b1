-- What a manifest lists.
use Rattle.std.specs.Prelude.{◌≡◌, ◌≤◌, List, length}
use Rattle.std.specs.List.{All}
use Rattle.ss_base.specs.declared.ids.Place.{Place}
use Rattle.ss_base.specs.declared.limits.TheConstants.{MAX_CHUNKS}
use Rattle.ss_base.specs.declared.name.Piece.{Piece}
use Rattle.chunk_name.specs.Pieces.{HasChunkLen}

-- The lists of a manifest (FAST 2009; the limits are this project's own): 1 to 4,096 pieces of 1 to 11,200 bytes,
-- and a place for each.
pub record AreListed (pieces : List Piece) (places : List Place) : Type 0 where
  pub some : 1 ≤ length pieces
  pub bounded : length pieces ≤ MAX_CHUNKS
  pub lengths : All HasChunkLen pieces
  pub located : length places ≡ length pieces
