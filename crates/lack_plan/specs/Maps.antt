-- What the maps of places keep.
use Rattle.std.specs.Prelude.{◌≡◌, ℕ, List, Option, Some, None}
use Rattle.std.specs.HashMap.{get, HashMap}
use Rattle.ss_base.specs.declared.name.Piece.{Piece}
use Rattle.ss_base.specs.Origins.{LacksPiece, IsFirstPlace}
use Rattle.ss_base.specs.Ids.{same_piece}
use Rattle.lack_plan.specs.Plan.{HasPlace, IsKnown}

module _ {S : Type 0} where
  -- the map has the first place of each piece in the list
  abbrev pub HasPlaces : List Piece → HashMap Piece ℕ S → Type 0
  HasPlaces ps m = (q : Piece) → HasPlace q ps (get same_piece m q)

  -- the map has the first list with each piece, and the first place there
  abbrev pub KnowsPieces : List (List Piece) → HashMap Piece (ℕ × ℕ) S → Type 0
  KnowsPieces lists m = (q : Piece) → IsKnown q lists (get same_piece m q)

-- what the map has for a piece once a part of one more list is added: what it had, else the first place in the part
abbrev pub Joined : Piece → ℕ → List Piece → Option (ℕ × ℕ) → Option (ℕ × ℕ) → Type 0
Joined p which ps (Some found) now = now ≡ Some found
Joined p which ps None None = LacksPiece p ps
Joined p which ps None (Some found) = (found.0 ≡ which) × IsFirstPlace p ps found.1
