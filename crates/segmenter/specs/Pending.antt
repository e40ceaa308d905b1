-- What a segmenter keeps.
use Rattle.std.specs.Prelude.{ℕ, ◌≤◌, List, length}
use Rattle.std.specs.List.{All}
use Rattle.ss_base.specs.declared.profile.Numbers.{Numbers}
use Rattle.ss_base.specs.Profile.{AreSound}
use Rattle.ss_base.specs.Search.{NonePasses}
use Rattle.segmenter.specs.Segments.{ends_at}

-- the numbers of a profile, and the chunks of a segment that hasn't ended
pub record Pending : Type 0 where
  pub numbers : Numbers
  pub chunks : List (List ℕ)

-- a chunk of a stream that is cut by these numbers
abbrev pub IsChunk : Numbers → List ℕ → Type 0
IsChunk n chunk = (1 ≤ length chunk) × (length chunk ≤ n.tmax)

-- the numbers are a profile's, the chunks have the lengths of chunks, and no segment ends behind one of them
pub record IsPending (p : Pending) : Type 0 where
  pub sound : AreSound p.numbers
  pub sizes : All (IsChunk p.numbers) p.chunks
  pub none_ends : NonePasses (ends_at p.numbers p.chunks) 1 (length p.chunks)
