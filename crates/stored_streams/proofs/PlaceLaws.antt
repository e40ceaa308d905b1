-- How far into a container the chunks of a segment lie.
use Rattle.std.proofs.Common.{ℕ, zero, suc, ◌≤◌, List, [], ◌∷◌, ◌++◌, drop, refl, subst, inl, inr, arith}
use mathlib.Core.List.{map}
use Rattle.std.specs.List.{slice_index_or}
use Rattle.std.proofs.lemmas.Bool.Decides.{nat_tests}
use Rattle.ss_base.specs.declared.ids.Place.{Place}
use Rattle.ss_base.specs.declared.name.Piece.{Piece}
use Rattle.ss_base.proofs.MemberLaws.{In, append_in, map_in}
use Rattle.chunk_name.specs.Pieces.{piece}
use Rattle.container_file.specs.declared.container_end.ContainerEnd.{ContainerEnd}
use Rattle.container_file.specs.Chunk.{Chunk}
use Rattle.container_file.specs.Layout.{Laid, fits, opened, after, place_for, laid, places}
use Rattle.container_file.proofs.LayoutLaws.{either}
use Rattle.lack_plan.specs.declared.origin.Origin.{Origin}
use Rattle.lack_plan.specs.declared.origin.Origin.TheVariants.{Fresh, Champion, Earlier}
use Rattle.lack_plan.specs.Plan.{origins}
use Rattle.segment_plan.specs.Plan.{Located, no_place, pieces_of, places_of, fresh_of, place_from, left_from, placed_behind, places_against}

abbrev pub Each : {X : Type 0} → (X → Type 0) → List X → Type 0
Each P xs = (x : _) → In x xs → P x

-- ---- what holds of all places

each_push : {X : Type 0} (P : X → Type 0) (xs : List X) (y : X) → Each P xs → P y → Each P (xs ++ y ∷ [])
each_push P xs y each here = λ x h. elim (append_in x xs (y ∷ []) h) [
  | inl old ↦ each x old
  | inr new ↦ elim new [
    | inl is ↦ subst P is here
    | inr none ↦ absurd none
  ]
]

each_cons : {X : Type 0} (P : X → Type 0) (xs : List X) (y : X) → P y → Each P xs → Each P (y ∷ xs)
each_cons P xs y here each = λ x h. elim h [
  | inl is ↦ subst P is here
  | inr later ↦ each x later
]

pub at_or : {X : Type 0} (P : X → Type 0) (xs : List X) (i : ℕ) (d : X) → P d → Each P xs → P (slice_index_or xs i d)
at_or P [] zero d none each = none
at_or P [] (suc i) d none each = none
at_or P (x ∷ xs) zero d none each = each x (inl refl)
at_or P (x ∷ xs) (suc i) d none each = at_or P xs i d none (λ y h. each y (inr h))

each_drop : {X : Type 0} (P : X → Type 0) (xs : List X) → Each P xs → Each P (drop 1 xs)
each_drop P [] each = each
each_drop P (x ∷ xs) each = λ y h. each y (inr h)

-- what holds of the fresh places and of those of the lists holds of the next place
from_each : (P : Place → Type 0) (o : Origin) (earlier fresh : List Place) (lists : List (List Place)) → P no_place → Each P earlier → Each P fresh → Each (Each P) lists → P (place_from o earlier fresh lists)
from_each P Fresh earlier fresh lists none before new old = at_or P fresh 0 no_place none new
from_each P (Earlier i) earlier fresh lists none before new old = at_or P earlier i no_place none before
from_each P (Champion which at) earlier fresh lists none before new old =
    at_or P (slice_index_or lists which []) at no_place none (at_or (Each P) lists which [] (λ x h. absurd h) old)

left_each : (P : Place → Type 0) (o : Origin) (fresh : List Place) → Each P fresh → Each P (left_from o fresh)
left_each P Fresh fresh new = each_drop P fresh new
left_each P (Earlier i) fresh new = new
left_each P (Champion which at) fresh new = new

-- and so of all
placed_each : (P : Place → Type 0) (earlier : List Place) (os : List Origin) (fresh : List Place) (lists : List (List Place)) → P no_place → Each P earlier → Each P fresh → Each (Each P) lists → Each P (placed_behind earlier os fresh lists)
unfolding placed_behind
placed_each P earlier [] fresh lists none before new old = λ x h. absurd h
placed_each P earlier (o ∷ os) fresh lists none before new old =
    let p : Place = place_from o earlier fresh lists in
    let here : P p = from_each P o earlier fresh lists none before new old in
    each_cons P _ p here (placed_each P (earlier ++ p ∷ []) os (left_from o fresh) lists none (each_push P earlier p before here) (left_each P o fresh new) old)

-- ---- how far into a container they lie

-- a place within a container of this room
abbrev pub IsWithin : ℕ → Place → Type 0
IsWithin room p = p.offset ≤ room

place_within : (end : ContainerEnd) (room : ℕ) (p : Piece) → 52 ≤ room → IsWithin room (place_for end room p)
unfolding place_for opened
place_within end room p most = elim (either (fits end room p)) [
  | inl is ↦ rw is (grind (arith, nat_tests))
  | inr not ↦ rw not most
]

laid_within : (end : ContainerEnd) (room : ℕ) (cs : List Chunk) → 52 ≤ room → Each (λ (l : Laid). IsWithin room l.place) (laid end room cs)
unfolding laid
laid_within end room [] most = λ l h. absurd h
laid_within end room (c ∷ cs) most = each_cons (λ (l : Laid). IsWithin room l.place) _ _ (place_within end room c.piece most) (laid_within (after end room c.piece) room cs most)

-- the places of a segment lie within containers, where those of what is located do
pub places_within : (chunks : List (List ℕ)) (located : List Located) (end : ContainerEnd) (room : ℕ) → 52 ≤ room → Each (λ (l : Located). Each (IsWithin room) l.places) located → Each (IsWithin room) (places_against chunks located end room)
unfolding places_against
places_within chunks located end room most old =
    let cs = fresh_of chunks (pieces_of located) in
    placed_each (IsWithin room) [] (origins (map piece chunks) (pieces_of located)) (places end room cs) (places_of located) (omega arith) (λ x h. absurd h)
    (λ x h. let from = map_in (λ (l : Laid). l.place) x (laid end room cs) h in subst (IsWithin room) from.2 (laid_within end room cs most from.0 from.1))
    (λ list h. let from = map_in (λ (l : Located). l.places) list located h in subst (Each (IsWithin room)) from.2 (old from.0 from.1))
