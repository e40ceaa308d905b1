-- First places of pieces in lists, and in lists with one more item.
use Rattle.std.proofs.Common.{◌≡◌, ◌≢◌, ℕ, zero, suc, ◌<◌, List, [], ◌∷◌, ◌++◌, length, Some, ap, ◌∙◌, inl, inr, arith, slice_get}
use Rattle.std.proofs.lemmas.Option.{slice_get_within}
use Rattle.ss_base.proofs.GetLaws.{get_kept, get_last, at_end}
use Rattle.ss_base.specs.declared.name.Piece.{Piece}
use Rattle.ss_base.specs.Origins.{LacksPiece, IsFirstPlace, AllLackPiece, IsFirstIn}

-- one more piece at the end of a list
pub lacks-push : (p x : Piece) (ps : List Piece) → x ≢ p → LacksPiece p ps → LacksPiece p (ps ++ x ∷ [])
lacks-push p x ps other none = λ i is. elim (at_end ps x p i is) [ inl old ↦ none i old | inr new ↦ other new.1 ]

not_before : (p : Piece) (ps more : List Piece) (i j : ℕ) → i < length ps → j < i → slice_get ps j ≢ Some p → slice_get (ps ++ more) j ≡ Some p → ⊥
not_before p [] more i j inside low none is = absurd (omega arith)
not_before p (z ∷ ps) more i zero inside low none is = none is
not_before p (z ∷ ps) more zero (suc j) inside low none is = absurd (omega arith)
not_before p (z ∷ ps) more (suc i) (suc j) inside low none is = not_before p ps more i j (omega arith) (omega arith) none is

pub first-keep : (p : Piece) (ps more : List Piece) (i : ℕ) → IsFirstPlace p ps i → IsFirstPlace p (ps ++ more) i
first-keep p ps more i first = record {
  here = get_kept ps more p i first.here;
  before = λ j low is. not_before p ps more i j (slice_get_within ps i p first.here) low (first.before j low) is;
}

pub first-push : (p : Piece) (ps : List Piece) → LacksPiece p ps → IsFirstPlace p (ps ++ p ∷ []) (length ps)
first-push p ps none = record {
  here = get_last ps p;
  before = λ j low is. elim (at_end ps p p j is) [ inl old ↦ none j old | inr new ↦ absurd (let place = new.0 in omega (arith, place, low)) ];
}

-- one more list
pub all-lack-push : (p : Piece) (lists : List (List Piece)) (ps : List Piece) → AllLackPiece p lists → LacksPiece p ps → AllLackPiece p (lists ++ ps ∷ [])
all-lack-push p lists ps all none = λ which qs is i here. elim (at_end lists ps qs which is) [
  | inl old ↦ all which qs old i here
  | inr new ↦ none i (ap (λ xs. slice_get xs i) new.1 ∙ here)
]

pub first-in-push : (p : Piece) (lists : List (List Piece)) (ps : List Piece) (at : ℕ) → AllLackPiece p lists → IsFirstPlace p ps at → IsFirstIn p (lists ++ ps ∷ []) (length lists) at
first-in-push p lists ps at all place = record {
  list = ps;
  there = get_last lists ps;
  place = place;
  before = λ other qs low is. elim (at_end lists ps qs other is) [ inl old ↦ all other qs old | inr new ↦ absurd (let where_is = new.0 in omega (arith, where_is, low)) ];
}

pub first-in-keep : (p : Piece) (lists : List (List Piece)) (ps : List Piece) (which at : ℕ) → IsFirstIn p lists which at → IsFirstIn p (lists ++ ps ∷ []) which at
first-in-keep p lists ps which at first = record {
  list = first.list;
  there = get_kept lists (ps ∷ []) first.list which first.there;
  place = first.place;
  before = λ other qs low is. elim (at_end lists ps qs other is) [
    | inl old ↦ first.before other qs low old
    | inr new ↦ absurd (let where_is = new.0 in let inside = slice_get_within lists which first.list first.there in omega (arith, where_is, inside, low))
  ];
}
