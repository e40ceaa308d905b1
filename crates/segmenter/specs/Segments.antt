-- How a stream's chunks are grouped into segments (FAST 2009, by chunk names; the rule is this project's own).
use Rattle.std.specs.Prelude.{ℕ, ◌+◌, ◌-◌, ◌*◌, ◌%◌, Bool, ◌==◌, ◌&&◌, ◌||◌, nat_le, List, [], length, slice_index, unwrap_or}
use Rattle.std.specs.List.{slice_index_or}
use Rattle.ss_base.specs.declared.name.Name.{Name}
use Rattle.ss_base.specs.declared.profile.Numbers.{Numbers}
use Rattle.ss_base.specs.Search.{least}
use Rattle.ss_base.specs.Parts.{parts}
use Rattle.chunk_name.specs.Pieces.{name_of_bytes}

-- bytes 30 and 31 of a name, counted from 0, as one number
abbrev pub last_number : Name → ℕ
last_number name = 256 * slice_index name.0 30 + slice_index name.0 31

-- Whether a segment ends behind a chunk of this name, of which it is number count. That is so where it has enough
-- chunks and the name's last number is a multiple of the divisor, and where it has the greatest number of chunks.
abbrev pub ends_behind : Numbers → ℕ → Name → Bool
ends_behind n count name = (nat_le n.smin count && (last_number name % n.sdiv == 0)) || (count == n.smax)

-- whether a segment of the first count chunks ends there
abbrev pub ends_at : Numbers → List (List ℕ) → ℕ → Bool
ends_at n chunks count = ends_behind n count (name_of_bytes (slice_index_or chunks (count - 1) []))

-- how many of these chunks the first segment has: the least number at which it ends, or all
unfoldable pub first_count : Numbers → List (List ℕ) → ℕ
first_count n chunks = unwrap_or (least (ends_at n chunks) 1 (length chunks)) (length chunks)

-- the segments of a stream's chunks, each a list of chunks
unfoldable pub segments : Numbers → List (List ℕ) → List (List (List ℕ))
segments n chunks = parts (first_count n) chunks
