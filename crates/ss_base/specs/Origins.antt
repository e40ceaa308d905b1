-- Where the chunks of a segment come from (FAST 2009, deduplication against champions; which of several places is the
-- origin is this project's own).
use Rattle.std.specs.Prelude.{◌≡◌, ◌≢◌, ℕ, suc, ◌<◌, Bool, ◌&&◌, not, List, [], ◌∷◌, ◌++◌, take, slice_get, Option, Some, None, is_some, option_map, if◌then◌else◌}
use Rattle.ss_base.specs.declared.name.Piece.{Piece}
use Rattle.ss_base.specs.Ids.{same_piece}

-- the first place of the piece in the list, where it stands there
unfoldable pub first_place : Piece → List Piece → Option ℕ
first_place p [] = None
first_place p (q ∷ qs) = if same_piece p q then Some 0 else option_map (λ i. suc i) (first_place p qs)

-- the first of the lists that has the piece and its first place there: in the first list, else in the others
unfoldable pub first_of : Option ℕ → Option (ℕ × ℕ) → Option (ℕ × ℕ)
first_of (Some at) later = Some (0, at)
first_of None later = option_map (λ found. (suc found.0, found.1)) later

unfoldable pub first_in : Piece → List (List Piece) → Option (ℕ × ℕ)
first_in p [] = None
first_in p (ps ∷ lists) = first_of (first_place p ps) (first_in p lists)

-- whether a piece behind these earlier ones stands neither among them nor in any of the lists
unfoldable pub is_fresh : List Piece → List (List Piece) → Piece → Bool
is_fresh earlier lists p = not (is_some (first_place p earlier)) && not (is_some (first_in p lists))

-- of the pieces that stand behind these earlier ones, whether each is fresh
unfoldable pub fresh_behind : List Piece → List Piece → List (List Piece) → List Bool
fresh_behind earlier [] lists = []
fresh_behind earlier (p ∷ ps) lists = is_fresh earlier lists p ∷ fresh_behind (earlier ++ p ∷ []) ps lists

-- The fresh places of a segment: for each of its pieces, whether it stands at no earlier place and in none of the
-- lists.
unfoldable pub fresh_marks : List Piece → List (List Piece) → List Bool
fresh_marks ps lists = fresh_behind [] ps lists

-- The same said as relations.

-- the list has the piece at no place
abbrev pub LacksPiece : Piece → List Piece → Type 0
LacksPiece p ps = (i : ℕ) → slice_get ps i ≢ Some p

-- the list has the piece at this place, and at none before it
pub record IsFirstPlace (p : Piece) (ps : List Piece) (i : ℕ) : Type 0 where
  pub here : slice_get ps i ≡ Some p
  pub before : (j : ℕ) → j < i → slice_get ps j ≢ Some p

-- no list has the piece
abbrev pub AllLackPiece : Piece → List (List Piece) → Type 0
AllLackPiece p lists = (which : ℕ) (ps : List Piece) → slice_get lists which ≡ Some ps → LacksPiece p ps

-- of the lists, this is the first that has the piece, and has it first at this place
pub record IsFirstIn (p : Piece) (lists : List (List Piece)) (which at : ℕ) : Type 0 where
  pub list : List Piece
  pub there : slice_get lists which ≡ Some list
  pub place : IsFirstPlace p list at
  pub before : (other : ℕ) (ps : List Piece) → other < which → slice_get lists other ≡ Some ps → LacksPiece p ps

-- the piece at a place is fresh: it stands at no earlier place, and in none of the lists
pub record IsFreshPlace (ps : List Piece) (lists : List (List Piece)) (k : ℕ) : Type 0 where
  pub piece : Piece
  pub here : slice_get ps k ≡ Some piece
  pub earlier : LacksPiece piece (take k ps)
  pub known : AllLackPiece piece lists
