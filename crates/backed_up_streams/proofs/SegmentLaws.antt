-- The segments of a session's stream, by their numbers.
use Rattle.std.proofs.Common.{◌≡◌, ℕ, ◌<◌, List, [], ◌∷◌, ◌++◌, length, refl, ap, ◌∙◌, arith, length-append}
use mathlib.Core.List.{map}
use Rattle.std.specs.List.{slice_index_or}
use Rattle.ss_base.specs.declared.ids.ManifestId.{ManifestId}
use Rattle.ss_base.specs.declared.profile.Numbers.{Numbers}
use Rattle.chunk_name.specs.Pieces.{piece, pieces}
use Rattle.segment_reader.specs.SegmentsOf.{segments_of}
use Rattle.stored_streams.specs.Streams.{Streams, segment_count, manifest_chunks, manifest_pieces}

-- the item behind a front
pub item_behind : {X : Type 0} (front : List X) (x : X) (rest : List X) (d : X) → slice_index_or (front ++ x ∷ rest) (length front) d ≡ x
item_behind [] x rest d = refl
item_behind (y ∷ front) x rest d = item_behind front x rest d

module _ (n : Numbers) (streams : Streams) (session : ℕ) (front rest : List (List (List ℕ))) (chunks : List (List ℕ)) (are : segments_of n (streams session) ≡ front ++ chunks ∷ rest) where
  -- the manifest of the segment behind a front
  abbrev pub next_id : ManifestId
  next_id = record { session = session; seq = length front }

  pub next_chunks : manifest_chunks n streams next_id ≡ chunks
  unfolding manifest_chunks
  next_chunks = ap (λ (all : List (List (List ℕ))). slice_index_or all (length front) []) are ∙ item_behind front chunks rest []

  pub next_pieces : manifest_pieces n streams next_id ≡ pieces chunks
  unfolding manifest_pieces
  next_pieces = ap (λ (all : List (List ℕ)). map piece all) next_chunks

  pub next_there : length front < segment_count n streams session
  unfolding segment_count
  next_there =
      let count = ap length are in
      let parts = length-append front (chunks ∷ rest) in
      omega (arith, count, parts)
