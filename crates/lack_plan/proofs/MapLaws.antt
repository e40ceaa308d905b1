-- The maps of places, one piece further on.
use Rattle.std.proofs.Common.{◌≡◌, ◌≢◌, ℕ, true, false, List, [], ◌∷◌, ◌++◌, length, take, length-append, is_some, Option, Some, None, refl, sym, subst, ap, ◌∙◌, inl, inr, arith}
use Rattle.std.proofs.lemmas.List.{take_at, take-append-le}
use Rattle.std.specs.HashMap.{get, HashMap, Updates}
use Rattle.ss_base.specs.declared.name.Piece.{Piece}
use Rattle.ss_base.specs.Origins.{LacksPiece, IsFirstPlace, IsFirstIn}
use Rattle.ss_base.specs.Ids.{same_piece}
use Rattle.lack_plan.specs.Plan.{HasPlace, IsKnown, IsOrigin, AreOrigins}
use Rattle.lack_plan.specs.declared.origin.Origin.{Origin}
use Rattle.lack_plan.specs.Maps.{HasPlaces, KnowsPieces, Joined}
use Rattle.ss_base.proofs.IdLaws.{same_piece-cases}
use Rattle.std.proofs.lemmas.Option.{slice_get_within}
use Rattle.ss_base.proofs.GetLaws.{at_end}
use Rattle.lack_plan.proofs.PlaceLaws.{lacks-push, first-keep, first-push, all-lack-push, first-in-push, first-in-keep}

place-other : (q x : Piece) (ps : List Piece) (o : Option ℕ) → x ≢ q → HasPlace q ps o → HasPlace q (ps ++ x ∷ []) o
place-other q x ps None other has = lacks-push q x ps other has
place-other q x ps (Some i) other has = first-keep q ps (x ∷ []) i has

place-found : (q x : Piece) (ps : List Piece) (o : Option ℕ) (i : ℕ) → o ≡ Some i → HasPlace q ps o → HasPlace q (ps ++ x ∷ []) o
place-found q x ps None i is has = absurd (cc)
place-found q x ps (Some j) i is has = first-keep q ps (x ∷ []) j has

place-none : (q : Piece) (ps : List Piece) (o : Option ℕ) → o ≡ None → HasPlace q ps o → LacksPiece q ps
place-none q ps None is has = has
place-none q ps (Some i) is has = absurd (cc)

module _ {S : Type 0} where
  pub lacks-none : (ps : List Piece) (m : HashMap Piece ℕ S) (p : Piece) → get same_piece m p ≡ None → HasPlaces ps m → LacksPiece p ps
  lacks-none ps m p none has = place-none p ps (get same_piece m p) none (has p)

  pub first-found : (ps : List Piece) (m : HashMap Piece ℕ S) (p : Piece) (i : ℕ) → get same_piece m p ≡ Some i → HasPlaces ps m → IsFirstPlace p ps i
  first-found ps m p i is has = subst (HasPlace p ps) is (has p)

  pub places-found : (ps : List Piece) (m : HashMap Piece ℕ S) (p : Piece) (i : ℕ) → get same_piece m p ≡ Some i → HasPlaces ps m → HasPlaces (ps ++ p ∷ []) m
  places-found ps m p i is has = λ q. elim (same_piece-cases p q) [
    | inl same ↦ place-found q p ps (get same_piece m q) i (ap (λ r. get same_piece m r) (sym same.0) ∙ is) (has q)
    | inr other ↦ place-other q p ps (get same_piece m q) other.0 (has q)
  ]

  pub places-push : (ps : List Piece) (m n : HashMap Piece ℕ S) (p : Piece) (at : ℕ) → at ≡ length ps → LacksPiece p ps → Updates same_piece m n p (Some at) → HasPlaces ps m → HasPlaces (ps ++ p ∷ []) n
  places-push ps m n p at is lacks updates has = λ q. elim (same_piece-cases p q) [
    | inl same ↦
        let now : get same_piece n q ≡ Some (length ps) = ap (λ r. get same_piece n r) (sym same.0) ∙ updates.1 ∙ ap Some is in
        subst (HasPlace q (ps ++ p ∷ [])) (sym now) (subst (λ r. IsFirstPlace r (ps ++ p ∷ []) (length ps)) same.0 (first-push p ps lacks))
    | inr other ↦ subst (HasPlace q (ps ++ p ∷ [])) (sym (updates.2 q other.1)) (place-other q p ps (get same_piece m q) other.0 (has q))
  ]

-- one more piece of one more list
joined-other : (q x : Piece) (which : ℕ) (ps : List Piece) (old now : Option (ℕ × ℕ)) → x ≢ q → Joined q which ps old now → Joined q which (ps ++ x ∷ []) old now
joined-other q x which ps (Some f) now other has = has
joined-other q x which ps None None other has = lacks-push q x ps other has
joined-other q x which ps None (Some g) other has = (has.0, first-keep q ps (x ∷ []) g.1 has.1)

joined-there : (q x : Piece) (which : ℕ) (ps : List Piece) (old now : Option (ℕ × ℕ)) (f : ℕ × ℕ) → now ≡ Some f → Joined q which ps old now → Joined q which (ps ++ x ∷ []) old now
joined-there q x which ps (Some g) now f is has = has
joined-there q x which ps None None f is has = absurd (cc)
joined-there q x which ps None (Some g) f is has = (has.0, first-keep q ps (x ∷ []) g.1 has.1)

joined-new : (q : Piece) (which at : ℕ) (ps : List Piece) (old now : Option (ℕ × ℕ)) → at ≡ length ps → now ≡ None → Joined q which ps old now → Joined q which (ps ++ q ∷ []) old (Some (which, at))
joined-new q which at ps (Some f) now place is has = absurd (cc)
joined-new q which at ps None None place is has = (refl, subst (IsFirstPlace q (ps ++ q ∷ [])) (sym place) (first-push q ps has))
joined-new q which at ps None (Some g) place is has = absurd (cc)

joined-known : (q : Piece) (which : ℕ) (lists : List (List Piece)) (ps : List Piece) (old now : Option (ℕ × ℕ)) → length lists ≡ which → IsKnown q lists old → Joined q which ps old now → IsKnown q (lists ++ ps ∷ []) now
joined-known q which lists ps (Some f) now is known has = subst (IsKnown q (lists ++ ps ∷ [])) (sym has) (first-in-keep q lists ps f.0 f.1 known)
joined-known q which lists ps None None is known has = all-lack-push q lists ps known has
joined-known q which lists ps None (Some g) is known has = subst (λ w. IsFirstIn q (lists ++ ps ∷ []) w g.1) (is ∙ sym has.0) (first-in-push q lists ps g.1 known has.1)

joined-none : (q : Piece) (which : ℕ) (o : Option (ℕ × ℕ)) → Joined q which [] o o
joined-none q which None = λ i is. absurd (cc)
joined-none q which (Some f) = refl

module _ {S : Type 0} where
  pub joins-none : (which : ℕ) (m : HashMap Piece (ℕ × ℕ) S) → (q : Piece) → Joined q which [] (get same_piece m q) (get same_piece m q)
  joins-none which m = λ q. joined-none q which (get same_piece m q)

  pub joins-found : (which : ℕ) (ps : List Piece) (old m : HashMap Piece (ℕ × ℕ) S) (p : Piece) (f : ℕ × ℕ) → get same_piece m p ≡ Some f → ((q : Piece) → Joined q which ps (get same_piece old q) (get same_piece m q)) → (q : Piece) → Joined q which (ps ++ p ∷ []) (get same_piece old q) (get same_piece m q)
  joins-found which ps old m p f is has = λ q. elim (same_piece-cases p q) [
    | inl same ↦ joined-there q p which ps (get same_piece old q) (get same_piece m q) f (ap (λ r. get same_piece m r) (sym same.0) ∙ is) (has q)
    | inr other ↦ joined-other q p which ps (get same_piece old q) (get same_piece m q) other.0 (has q)
  ]

  pub joins-push : (which at : ℕ) (ps : List Piece) (old m n : HashMap Piece (ℕ × ℕ) S) (p : Piece) → at ≡ length ps → get same_piece m p ≡ None → Updates same_piece m n p (Some (which, at)) → ((q : Piece) → Joined q which ps (get same_piece old q) (get same_piece m q)) → (q : Piece) → Joined q which (ps ++ p ∷ []) (get same_piece old q) (get same_piece n q)
  joins-push which at ps old m n p place is updates has = λ q. elim (same_piece-cases p q) [
    | inl same ↦
        let now : get same_piece n q ≡ Some (which, at) = ap (λ r. get same_piece n r) (sym same.0) ∙ updates.1 in
        let before : get same_piece m q ≡ None = ap (λ r. get same_piece m r) (sym same.0) ∙ is in
        subst (Joined q which (ps ++ p ∷ []) (get same_piece old q)) (sym now)
        (subst (λ r. Joined q which (ps ++ r ∷ []) (get same_piece old q) (Some (which, at))) (sym same.0) (joined-new q which at ps (get same_piece old q) (get same_piece m q) place before (has q)))
    | inr other ↦ subst (Joined q which (ps ++ p ∷ []) (get same_piece old q)) (sym (updates.2 q other.1)) (joined-other q p which ps (get same_piece old q) (get same_piece m q) other.0 (has q))
  ]

  pub joins-known : (which : ℕ) (lists : List (List Piece)) (ps : List Piece) (old m : HashMap Piece (ℕ × ℕ) S) → length lists ≡ which → ((q : Piece) → Joined q which ps (get same_piece old q) (get same_piece m q)) → KnowsPieces lists old → KnowsPieces (lists ++ ps ∷ []) m
  joins-known which lists ps old m is has known = λ q. joined-known q which lists ps (get same_piece old q) (get same_piece m q) is (known q) (has q)

-- one more origin
pub origins-push : (ps : List Piece) (lists : List (List Piece)) (os : List Origin) (p : Piece) (o : Origin) → AreOrigins ps lists os → IsOrigin ps lists p o → AreOrigins (ps ++ p ∷ []) lists (os ++ o ∷ [])
origins-push ps lists os p o are one = record {
  count = (let a = length-append os (o ∷ []) in let b = length-append ps (p ∷ []) in omega (arith, a, b, are.count));
  each = λ k q r here there. elim (at_end ps p q k here) [
    | inl old ↦
        let inside = slice_get_within ps k q old in
        let same : take k (ps ++ p ∷ []) ≡ take k ps = take-append-le k ps (p ∷ []) (omega (arith, inside)) in
        elim (at_end os o r k there) [
          | inl older ↦ subst (λ before. IsOrigin before lists q r) (sym same) (are.each k q r old older)
          | inr new ↦ absurd (let place = new.0 in omega (arith, place, inside, are.count))
        ]
    | inr new ↦
        let same : take k (ps ++ p ∷ []) ≡ ps = ap (λ n. take n (ps ++ p ∷ [])) new.0 ∙ take_at ps (p ∷ []) (length ps) refl in
        elim (at_end os o r k there) [
          | inl older ↦ absurd (let inside = slice_get_within os k r older in let place = new.0 in omega (arith, place, inside, are.count))
          | inr newer ↦ subst (λ before. IsOrigin before lists q r) (sym same) (subst (λ x. IsOrigin ps lists x r) new.1 (subst (IsOrigin ps lists p) newer.1 one))
        ]
  ];
}

pub some-of : {X : Type 0} (o : Option X) → is_some o ≡ true → (x : X) × (o ≡ Some x)
some-of (Some x) is = (x, refl)
some-of None is = absurd (cc)

pub none-of : {X : Type 0} (o : Option X) → is_some o ≡ false → o ≡ None
none-of None is = refl
none-of (Some x) is = absurd (cc)
