-- The segments of a stream (FAST 2009; the rule by which they end is this project's own).
use Rattle.std.specs.Prelude.{ℕ, List}
use Rattle.ss_base.specs.declared.profile.Numbers.{Numbers}
use Rattle.tttd_chunker.specs.Cut.{cut}
use Rattle.segmenter.specs.Segments.{segments}

-- the segments of a stream's bytes, each a list of chunks
unfoldable pub segments_of : Numbers → List ℕ → List (List (List ℕ))
segments_of n bytes = segments n (cut n bytes)
