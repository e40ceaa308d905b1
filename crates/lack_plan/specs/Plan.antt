-- What the origins of a segment's pieces are, and what its maps keep.
use Rattle.std.specs.Prelude.{◌≡◌, ℕ, Bool, true, false, List, [], ◌∷◌, ◌++◌, length, take, slice_get, Option, Some, None}
use Rattle.ss_base.specs.declared.name.Piece.{Piece}
use Rattle.ss_base.specs.Origins.{first_place, first_in, LacksPiece, IsFirstPlace, AllLackPiece, IsFirstIn}
use Rattle.lack_plan.specs.declared.origin.Origin.{Origin}
use Rattle.lack_plan.specs.declared.origin.Origin.TheVariants.{Fresh, Champion, Earlier}

-- the origin of a piece by its first place among the earlier ones, and by the first list that has it
unfoldable pub origin_from : Option ℕ → Option (ℕ × ℕ) → Origin
origin_from (Some i) known = Earlier i
origin_from None (Some found) = Champion found.0 found.1
origin_from None None = Fresh

-- The origin of a piece behind these earlier ones (FAST 2009; the order is this project's own): the least earlier
-- place that has it, else the first list that has it and the least place there, else none, so that it is fresh.
unfoldable pub origin : List Piece → List (List Piece) → Piece → Origin
origin earlier lists p = origin_from (first_place p earlier) (first_in p lists)

-- the origins of pieces that stand behind these earlier ones
unfoldable pub origins_behind : List Piece → List Piece → List (List Piece) → List Origin
origins_behind earlier [] lists = []
origins_behind earlier (p ∷ ps) lists = origin earlier lists p ∷ origins_behind (earlier ++ p ∷ []) ps lists

-- the origin of each piece of a segment, in their order
unfoldable pub origins : List Piece → List (List Piece) → List Origin
origins ps lists = origins_behind [] ps lists

-- whether the origin is that of a chunk which has to be stored
abbrev pub is_fresh_origin : Origin → Bool
is_fresh_origin Fresh = true
is_fresh_origin _ = false

-- The same said as relations.

-- what the origin of a piece says of the earlier ones and the lists
abbrev pub IsOrigin : List Piece → List (List Piece) → Piece → Origin → Type 0
IsOrigin earlier lists p Fresh = LacksPiece p earlier × AllLackPiece p lists
IsOrigin earlier lists p (Champion which at) = LacksPiece p earlier × IsFirstIn p lists which at
IsOrigin earlier lists p (Earlier i) = IsFirstPlace p earlier i

-- each piece has its origin
pub record AreOrigins (ps : List Piece) (lists : List (List Piece)) (os : List Origin) : Type 0 where
  pub count : length os ≡ length ps
  pub each : (k : ℕ) (p : Piece) (o : Origin) → slice_get ps k ≡ Some p → slice_get os k ≡ Some o → IsOrigin (take k ps) lists p o

-- the first place of a piece in a list, where there is one
abbrev pub HasPlace : Piece → List Piece → Option ℕ → Type 0
HasPlace p ps None = LacksPiece p ps
HasPlace p ps (Some i) = IsFirstPlace p ps i

-- the first list that has a piece, and its first place there, where there is one
abbrev pub IsKnown : Piece → List (List Piece) → Option (ℕ × ℕ) → Type 0
IsKnown p lists None = AllLackPiece p lists
IsKnown p lists (Some found) = IsFirstIn p lists found.0 found.1
