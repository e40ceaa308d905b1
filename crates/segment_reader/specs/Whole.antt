-- What is whole of a stream whatever comes behind its bytes (this project's own).
use Rattle.std.specs.Prelude.{ℕ, ◌+◌, ◌*◌, Bool, if◌then◌else◌, List, [], ◌∷◌, length, is_some}
use Rattle.ss_base.specs.declared.profile.Numbers.{Numbers}
use Rattle.ss_base.specs.Search.{least}
use Rattle.tttd_chunker.specs.Cut.{has_cut, cut}
use Rattle.segmenter.specs.Segments.{ends_at}

-- the chunks of a cut, but not the last where it may still grow
abbrev pub ended_chunks : Numbers → List (List ℕ) → List (List ℕ)
ended_chunks n [] = []
ended_chunks n (chunk ∷ []) = if has_cut n chunk then chunk ∷ [] else []
ended_chunks n (chunk ∷ next ∷ chunks) = chunk ∷ ended_chunks n (next ∷ chunks)

-- the chunks of these bytes that are chunks of the stream whatever comes
unfoldable pub whole_chunks : Numbers → List ℕ → List (List ℕ)
whole_chunks n bytes = ended_chunks n (cut n bytes)

-- a segment ends behind one of these chunks
unfoldable pub has_end : Numbers → List (List ℕ) → Bool
has_end n chunks = is_some (least (ends_at n chunks) 1 (length chunks))

-- a segment of these bytes is whole: it is one of the stream whatever comes
unfoldable pub has_segment : Numbers → List ℕ → Bool
has_segment n bytes = has_end n (whole_chunks n bytes)

-- more bytes than may ever pend: those of the longest segment, and a piece that was read
abbrev pub above_pending : Numbers → ℕ
above_pending n = n.smax * n.tmax + 65536
