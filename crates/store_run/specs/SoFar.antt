-- What is whole of a stream while its bytes come (this project's own).
use Rattle.std.specs.Prelude.{ℕ, Bool, if◌then◌else◌, List, [], ◌∷◌, length}
use Rattle.ss_base.specs.declared.profile.Numbers.{Numbers}
use Rattle.tttd_chunker.specs.Cut.{has_cut, cut}
use Rattle.segmenter.specs.Segments.{ends_at, segments}

-- how a stream stands behind what came of it: it ends there, or it may go on
pub data Stage : Type 0 where
  at_end : Stage
  so_far : Stage

-- the parts, but not the last where it has no end of its own
abbrev pub ended_parts : {A : Type 0} → (List A → Bool) → List (List A) → List (List A)
ended_parts has_end [] = []
ended_parts has_end (part ∷ []) = if has_end part then part ∷ [] else []
ended_parts has_end (part ∷ next ∷ parts) = part ∷ ended_parts has_end (next ∷ parts)

-- the chunks of the bytes that came: at the end all of the cut, so far those that are cut whatever comes
abbrev pub chunks_of : Stage → Numbers → List ℕ → List (List ℕ)
chunks_of at_end n bytes = cut n bytes
chunks_of so_far n bytes = ended_parts (has_cut n) (cut n bytes)

-- the segments of the chunks that came: at the end all of them, so far those that end whatever comes
abbrev pub segments_of : Stage → Numbers → List (List ℕ) → List (List (List ℕ))
segments_of at_end n chunks = segments n chunks
segments_of so_far n chunks = ended_parts (λ segment. ends_at n segment (length segment)) (segments n chunks)
