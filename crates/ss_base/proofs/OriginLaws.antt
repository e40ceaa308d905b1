-- First places as functions are those that the relations speak of, and no others.
use Rattle.std.proofs.Common.{◌≡◌, ℕ, zero, suc, List, [], ◌∷◌, Some, None, refl, sym, ap, ◌∙◌, inl, inr, arith}
use Rattle.std.specs.Option.{option_map}
use Rattle.ss_base.specs.declared.name.Piece.{Piece}
use Rattle.ss_base.specs.Origins.{first_place, first_of, first_in, LacksPiece, IsFirstPlace, AllLackPiece, IsFirstIn}
use Rattle.ss_base.proofs.IdLaws.{same_piece-cases}

-- a list that lacks the piece has no first place of it
pub first_place-none : (p : Piece) (ps : List Piece) → LacksPiece p ps → first_place p ps ≡ None
unfolding first_place
first_place-none p [] lacks = refl
first_place-none p (q ∷ qs) lacks = elim (same_piece-cases p q) [
  | inl same ↦ absurd (lacks 0 (ap Some (sym same.0)))
  | inr other ↦ rw other.1 (ap (λ o. option_map (λ i. suc i) o) (first_place-none p qs (λ i. lacks (suc i))))
]

-- the first place is found
pub first_place-some : (p : Piece) (ps : List Piece) (i : ℕ) → IsFirstPlace p ps i → first_place p ps ≡ Some i
unfolding first_place
first_place-some p [] i first = let here = first.here in absurd (cc)
first_place-some p (q ∷ qs) zero first = elim (same_piece-cases p q) [
  | inl same ↦ rw same.1 refl
  | inr other ↦ let here = first.here in absurd (other.0 (cc))
]
first_place-some p (q ∷ qs) (suc i) first = elim (same_piece-cases p q) [
  | inl same ↦ absurd (first.before 0 (omega arith) (ap Some (sym same.0)))
  | inr other ↦ rw other.1 (ap (λ o. option_map (λ j. suc j) o) (first_place-some p qs i (record {
    here = first.here;
    before = λ j low. first.before (suc j) (omega arith);
  })))
]

pub first_in-none : (p : Piece) (lists : List (List Piece)) → AllLackPiece p lists → first_in p lists ≡ None
unfolding first_in first_of
first_in-none p [] lack = refl
first_in-none p (ps ∷ lists) lack =
    ap (λ o. first_of o (first_in p lists)) (first_place-none p ps (lack 0 ps refl))
    ∙ ap (λ o. first_of None o) (first_in-none p lists (λ which qs there. lack (suc which) qs there))

pub first_in-some : (p : Piece) (lists : List (List Piece)) (which at : ℕ) → IsFirstIn p lists which at → first_in p lists ≡ Some (which, at)
unfolding first_in first_of
first_in-some p [] which at first = let there = first.there in absurd (cc)
first_in-some p (ps ∷ lists) zero at first =
    let is : ps ≡ first.list = (let there = first.there in cc) in
    ap (λ o. first_of o (first_in p lists)) (ap (first_place p) is ∙ first_place-some p first.list at first.place)
first_in-some p (ps ∷ lists) (suc which) at first =
    ap (λ o. first_of o (first_in p lists)) (first_place-none p ps (first.before 0 ps (omega arith) refl))
    ∙ ap (λ o. first_of None o) (first_in-some p lists which at (record {
      list = first.list;
      there = first.there;
      place = first.place;
      before = λ other qs low there. first.before (suc other) qs (omega arith) there;
    }))
