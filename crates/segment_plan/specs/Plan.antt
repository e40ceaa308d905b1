-- The plan of a segment against manifests (FAST 2009, deduplication against champions; the layout is this project's
-- own).
use Rattle.std.specs.Prelude.{ℕ, List, [], ◌∷◌, ◌++◌, drop, map}
use Rattle.std.specs.List.{slice_index_or}
use Rattle.ss_base.specs.declared.ids.Place.{Place}
use Rattle.ss_base.specs.declared.name.Piece.{Piece}
use Rattle.ss_base.specs.Origins.{fresh_marks}
use Rattle.chunk_name.specs.Pieces.{piece}
use Rattle.container_file.specs.Chunk.{Chunk, the_chunk, marked}
use Rattle.container_file.specs.declared.container_end.ContainerEnd.{ContainerEnd}
use Rattle.container_file.specs.Layout.{Laid, laid, Written, puts, places, end_after}
use Rattle.lack_plan.specs.declared.origin.Origin.{Origin}
use Rattle.lack_plan.specs.declared.origin.Origin.TheVariants.{Fresh, Champion, Earlier}
use Rattle.lack_plan.specs.Plan.{origins}

-- what a segment is planned against: the pieces of a manifest and the places where they lie
pub record Located : Type 0 where
  pub pieces : List Piece
  pub places : List Place

-- their pieces, and their places
abbrev pub pieces_of : List Located → List (List Piece)
pieces_of manifests = map (λ (m : Located). m.pieces) manifests

abbrev pub places_of : List Located → List (List Place)
places_of manifests = map (λ (m : Located). m.places) manifests

-- the fresh chunks of a segment against these lists of pieces, in their order
unfoldable pub fresh_of : List (List ℕ) → List (List Piece) → List Chunk
fresh_of chunks lists = marked (fresh_marks (map piece chunks) lists) (map (λ c. the_chunk (piece c) c) chunks)

-- no place, which is given where a list has none
abbrev pub no_place : Place
no_place = record { container = record { session = 0; ordinal = 0 }; offset = 0 }

-- The place of a piece with this origin, by the places of the earlier pieces, the fresh places that are left, and the
-- champions' places: a fresh piece takes the next fresh place, and each other one lies where its origin does.
abbrev pub place_from : Origin → List Place → List Place → List (List Place) → Place
place_from Fresh earlier fresh lists = slice_index_or fresh 0 no_place
place_from (Earlier i) earlier fresh lists = slice_index_or earlier i no_place
place_from (Champion which at) earlier fresh lists = slice_index_or (slice_index_or lists which []) at no_place

-- the fresh places that are left then
abbrev pub left_from : Origin → List Place → List Place
left_from Fresh fresh = drop 1 fresh
left_from _ fresh = fresh

-- the places of pieces with these origins, behind earlier ones that lie there
unfoldable pub placed_behind : List Place → List Origin → List Place → List (List Place) → List Place
placed_behind earlier [] fresh lists = []
placed_behind earlier (o ∷ os) fresh lists =
    let p : Place = place_from o earlier fresh lists in
    p ∷ placed_behind (earlier ++ p ∷ []) os (left_from o fresh) lists

-- the places of a segment's pieces against these manifests, with its fresh chunks laid out behind what is there
unfoldable pub places_against : List (List ℕ) → List Located → ContainerEnd → ℕ → List Place
places_against chunks manifests end room =
    placed_behind [] (origins (map piece chunks) (pieces_of manifests)) (places end room (fresh_of chunks (pieces_of manifests))) (places_of manifests)

-- where its fresh chunks lie
unfoldable pub laid_against : List (List ℕ) → List Located → ContainerEnd → ℕ → List Laid
laid_against chunks manifests end room = laid end room (fresh_of chunks (pieces_of manifests))

-- the containers once they are laid out
unfoldable pub end_against : List (List ℕ) → List Located → ContainerEnd → ℕ → ContainerEnd
end_against chunks manifests end room = end_after end room (fresh_of chunks (pieces_of manifests))

-- what is put into which container then
unfoldable pub puts_against : List (List ℕ) → List Located → ContainerEnd → ℕ → List Written
puts_against chunks manifests end room = puts end room (fresh_of chunks (pieces_of manifests))
