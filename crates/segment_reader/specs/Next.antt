-- The next segment of a stream (this project's own).
use Rattle.std.specs.Prelude.{◌≡◌, ℕ, Bool, true, List, [], ◌∷◌, ◌++◌}
use Rattle.std.specs.List.{concat}
use Rattle.ss_base.specs.declared.profile.Numbers.{Numbers}
use Rattle.segmenter.specs.declared.segment.Segment.{Segment}
use Rattle.segmenter.specs.Segment.{HasChunks}
use Rattle.segment_reader.specs.SegmentsOf.{segments_of}

-- The segment is the first of the bytes before, and leaves those after; it is so however the stream goes on, but where
-- it has ended nothing comes.
pub record IsNext (n : Numbers) (ended : Bool) (segment : Segment) (before after : List ℕ) : Type 0 where
  pub chunks : List (List ℕ)
  pub has : HasChunks segment chunks
  pub bytes : before ≡ concat chunks ++ after
  pub first : (more : List ℕ) → (ended ≡ true → more ≡ []) → segments_of n (before ++ more) ≡ chunks ∷ segments_of n (after ++ more)
