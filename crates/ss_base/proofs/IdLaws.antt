-- Names, pieces, ids and objects that a test finds the same are equal.
use Rattle.std.proofs.Common.{◌≡◌, ◌≢◌, ◌⊎◌, ℕ, Bool, true, false, nat_eq, eqb, List, [], ◌∷◌, refl, sym, ap, ◌∙◌, inl, inr, arith, eqb-true}
use Rattle.std.specs.Cmp.Lexicographic.{pointwise}
use Rattle.std.proofs.lemmas.Bool.{false≢true, cases_Bool, and_parts, and_from, eq-eqb}
use Rattle.std.proofs.lemmas.Bool.Decides.{nat_tests}
use Rattle.std.proofs.lemmas.Slice.Eq.{bytes_eq-Decides}
use Rattle.ss_base.specs.declared.ids.ContainerId.{ContainerId}
use Rattle.ss_base.specs.declared.ids.ManifestId.{ManifestId}
use Rattle.ss_base.specs.declared.name.Name.{Name}
use Rattle.ss_base.specs.declared.name.Piece.{Piece}
use Rattle.ss_base.specs.declared.object.Object.{Object}
use Rattle.ss_base.specs.declared.object.Object.TheVariants.{Container, Manifest}
use Rattle.ss_base.specs.Ids.{same_name, same_piece, same_manifest, same_container, same_object}

-- ---- lists

pub pointwise-true : {X : Type 0} (same : X → X → Bool) → ((x y : X) → same x y ≡ true → x ≡ y) → (xs ys : List X) → pointwise same xs ys ≡ true → xs ≡ ys
pointwise-true same each [] [] e = refl
pointwise-true same each [] (y ∷ ys) e = absurd (false≢true e)
pointwise-true same each (x ∷ xs) [] e = absurd (false≢true e)
pointwise-true same each (x ∷ xs) (y ∷ ys) e =
    let parts = and_parts (same x y) (pointwise same xs ys) e in
    let first = each x y parts.0 in
    let rest = pointwise-true same each xs ys parts.1 in
    λ i. first i ∷ rest i

pub pointwise-same : {X : Type 0} (same : X → X → Bool) → ((x : X) → same x x ≡ true) → (xs : List X) → pointwise same xs xs ≡ true
pointwise-same same each [] = refl
pointwise-same same each (x ∷ xs) = and_from (same x x) (pointwise same xs xs) (each x) (pointwise-same same each xs)

same_number : (a b : ℕ) → nat_eq a b ≡ true → a ≡ b
same_number a b is = grind (arith, nat_tests)

self_number : (a : ℕ) → nat_eq a a ≡ true
self_number a = grind (arith, nat_tests)

-- ---- names and pieces

pub same_name-self : (a : Name) → same_name a a ≡ true
same_name-self a = (bytes_eq-Decides a.0 a.0).1 refl

pub same_name-true : (a b : Name) → same_name a b ≡ true → a ≡ b
same_name-true a b e = let bytes : a.0 ≡ b.0 = (bytes_eq-Decides a.0 b.0).0 e in λ i. record { 0 = bytes i }

pub same_piece-self : (p : Piece) → same_piece p p ≡ true
same_piece-self p = and_from (pointwise nat_eq p.name.0 p.name.0) (nat_eq p.len p.len) (pointwise-same nat_eq self_number p.name.0) (self_number p.len)

pub same_piece-true : (p q : Piece) → same_piece p q ≡ true → p ≡ q
same_piece-true p q is =
    let parts = and_parts (pointwise nat_eq p.name.0 q.name.0) (nat_eq p.len q.len) is in
    let name = pointwise-true nat_eq same_number p.name.0 q.name.0 parts.0 in
    let len = same_number p.len q.len parts.1 in
    λ i. record { name = record { 0 = name i }; len = len i }

pub same_piece-false : (p q : Piece) → same_piece p q ≡ false → p ≢ q
same_piece-false p q is = λ same. let both : true ≡ false = sym (same_piece-self p) ∙ ap (λ r. same_piece p r) same ∙ is in absurd (cc)

pub same_piece-cases : (p q : Piece) → ((p ≡ q) × (same_piece p q ≡ true)) ⊎ ((p ≢ q) × (same_piece p q ≡ false))
same_piece-cases p q = elim (cases_Bool (same_piece p q)) [
  | inl is ↦ inl (same_piece-true p q is, is)
  | inr not ↦ inr (same_piece-false p q not, not)
]

-- ---- ids and objects

pub same_manifest-self : (id : ManifestId) → same_manifest id id ≡ true
same_manifest-self id = and_from (eqb id.session id.session) (eqb id.seq id.seq) (eq-eqb id.session id.session refl) (eq-eqb id.seq id.seq refl)

pub same_manifest-true : (a b : ManifestId) → same_manifest a b ≡ true → a ≡ b
same_manifest-true a b e =
    let parts = and_parts (eqb a.session b.session) (eqb a.seq b.seq) e in
    let session : a.session ≡ b.session = eqb-true a.session b.session parts.0 in
    let seq : a.seq ≡ b.seq = eqb-true a.seq b.seq parts.1 in
    λ i. record { session = session i; seq = seq i }

pub same_container-self : (id : ContainerId) → same_container id id ≡ true
same_container-self id = and_from (eqb id.session id.session) (eqb id.ordinal id.ordinal) (eq-eqb id.session id.session refl) (eq-eqb id.ordinal id.ordinal refl)

pub same_container-true : (a b : ContainerId) → same_container a b ≡ true → a ≡ b
same_container-true a b e =
    let parts = and_parts (eqb a.session b.session) (eqb a.ordinal b.ordinal) e in
    let session : a.session ≡ b.session = eqb-true a.session b.session parts.0 in
    let ordinal : a.ordinal ≡ b.ordinal = eqb-true a.ordinal b.ordinal parts.1 in
    λ i. record { session = session i; ordinal = ordinal i }

pub same_object-self : (object : Object) → same_object object object ≡ true
same_object-self (Container id) = same_container-self id
same_object-self (Manifest id) = same_manifest-self id

pub same_object-true : (a b : Object) → same_object a b ≡ true → a ≡ b
same_object-true (Container a) (Container b) e = ap Container (same_container-true a b e)
same_object-true (Container a) (Manifest b) e = absurd (false≢true e)
same_object-true (Manifest a) (Container b) e = absurd (false≢true e)
same_object-true (Manifest a) (Manifest b) e = ap Manifest (same_manifest-true a b e)
