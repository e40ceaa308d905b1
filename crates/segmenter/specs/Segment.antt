-- What a segment holds.
use Rattle.std.specs.Prelude.{◌≡◌, ℕ, List}
use Rattle.std.specs.List.{concat}
use Rattle.chunk_name.specs.Pieces.{pieces}
use Rattle.segmenter.specs.declared.segment.Segment.{Segment}

-- the segment has these chunks: their pieces, and their bytes joined
pub record HasChunks (segment : Segment) (chunks : List (List ℕ)) : Type 0 where
  pub pieces : segment.pieces.items ≡ pieces chunks
  pub bytes : segment.bytes.items ≡ concat chunks
