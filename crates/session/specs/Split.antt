-- What was read of a stream, by its segments (this project's own).
use Rattle.std.specs.Prelude.{ℕ, ◌≡◌, ◌^◌, ◌≤◌, true, List, [], ◌++◌, length}
use Rattle.ss_base.specs.declared.profile.Numbers.{Numbers}
use Rattle.outside.specs.Views.{SourceView, Gives, IsEnded}
use Rattle.segment_reader.specs.SegmentsOf.{segments_of}
use Rattle.segment_reader.specs.WorkState.{WorkState}

-- the most bytes that a stream may have
abbrev pub most_bytes : ℕ
most_bytes = 2 ^ 40

-- A source gave bytes, within the bound of a stream. Their first segments are these, and the others are those of what
-- pends, whatever comes.
pub record HasSplit (n : Numbers) (source source' : SourceView) (work : WorkState) (segments : List (List (List ℕ))) : Type 0 where
  pub got : List ℕ
  pub gives : Gives source source' got
  pub first : (more : List ℕ) → (work.ended ≡ true → more ≡ []) → segments_of n (got ++ more) ≡ segments ++ segments_of n (work.bytes ++ more)
  pub end : work.ended ≡ true → IsEnded source'
  pub numbers : work.numbers ≡ n
  pub limit : work.limit ≡ most_bytes
  pub taken : work.taken ≡ length got
  pub within : length got ≤ most_bytes

-- The source gave its whole stream, which has these segments.
pub record HasGivenAll (n : Numbers) (source source' : SourceView) (segments : List (List (List ℕ))) : Type 0 where
  pub stream : List ℕ
  pub gives : Gives source source' stream
  pub ended : IsEnded source'
  pub within : length stream ≤ most_bytes
  pub segments_are : segments_of n stream ≡ segments
