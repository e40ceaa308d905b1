-- A stream on its way from bytes to segments (this project's own).
use Rattle.std.specs.Prelude.{◌≡◌, ℕ, ◌*◌, ◌<◌, false, List, ◌++◌, length}
use Rattle.std.specs.List.{concat}
use Rattle.ss_base.specs.declared.profile.Numbers.{Numbers}
use Rattle.ss_base.specs.Profile.{numbers_of}
use Rattle.tttd_chunker.specs.Cut.{has_cut, cut}
use Rattle.segmenter.specs.Pending.{IsPending}
use Rattle.segment_reader.specs.Whole.{whole_chunks, has_segment}
use Rattle.segment_reader.specs.declared.grouping.Grouping.{Grouping}

-- the numbers by which the stream is cut
abbrev pub numbers_in : Grouping → Numbers
numbers_in g = numbers_of g.chunker.profile

-- the bytes that came and are in no segment yet
abbrev pub bytes_in : Grouping → List ℕ
bytes_in g = concat g.segmenter.chunks ++ g.chunker.bytes

-- these chunks stand before the cut of the bytes behind them, and of those that come
pub record IsCutSoFar (n : Numbers) (chunks : List (List ℕ)) (bytes : List ℕ) : Type 0 where
  pub all : (more : List ℕ) → cut n (concat chunks ++ (bytes ++ more)) ≡ chunks ++ cut n (bytes ++ more)
  pub ended : (more : List ℕ) → whole_chunks n (concat chunks ++ (bytes ++ more)) ≡ chunks ++ whole_chunks n (bytes ++ more)

-- chunker and segmenter are at the same place of one stream
pub record IsInStep (g : Grouping) : Type 0 where
  pub numbers : g.segmenter.numbers ≡ numbers_of g.chunker.profile
  pub pending : IsPending g.segmenter
  pub chunks : IsCutSoFar (numbers_of g.chunker.profile) g.segmenter.chunks g.chunker.bytes

-- no segment of what pends is whole, and no chunk that the segmenter has not
pub record HasNone (g : Grouping) : Type 0 where
  pub segment : has_segment (numbers_in g) (bytes_in g) ≡ false
  pub chunk : has_cut (numbers_in g) g.chunker.bytes ≡ false
  pub few : length (bytes_in g) < (numbers_in g).smax * (numbers_in g).tmax
