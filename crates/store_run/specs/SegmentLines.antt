-- What makes the lines of segments.
use Rattle.std.specs.Prelude.{◌≡◌, []}
use Rattle.ss_base.specs.declared.profile.Numbers.{Numbers}
use Rattle.store_run.specs.declared.segments.SegmentLines.{SegmentLines}

-- at the start of a stream no chunk pends, and the numbers are these
pub record StartsWith (n : Numbers) (lines : SegmentLines) : Type 0 where
  pub numbers : lines.segmenter.numbers ≡ n
  pub chunks : lines.segmenter.chunks ≡ []
