-- The containers of places are one list.
use Rattle.std.proofs.Common.{◌≡◌, zero, suc, true, false, List, [], ◌∷◌, refl, sym, ap, ◌∙◌, subst, inl, inr, arith, Contains}
use Rattle.std.specs.List.{AllByRecursion}
use Rattle.std.specs.List.Sorted.{IsStrictlySortedBy}
use Rattle.std.specs.Cmp.{IsTotalOrder, then_total, on_total, nat_cmp_total}
use Rattle.std.specs.Cmp.Lexicographic.{pointwise}
use Rattle.std.specs.declared.cmp.Ordering.{Ordering}
use Rattle.std.specs.declared.cmp.Ordering.TheVariants.{Less}
use Rattle.std.specs.Ordering.{ordering_reverse}
use Rattle.std.proofs.lemmas.Map.Keys.{sorted_head, sorted_tail}
use Rattle.ss_base.specs.declared.ids.ContainerId.{ContainerId}
use Rattle.ss_base.specs.declared.ids.Place.{Place}
use Rattle.ss_base.specs.Order.{container_cmp}
use Rattle.ss_base.specs.Ids.{same_container}
use Rattle.ss_base.proofs.IdLaws.{pointwise-true, pointwise-same, same_container-true, same_container-self}
use Rattle.ss_base.proofs.MemberLaws.{In, in_Contains}
use Rattle.manifest_codec.specs.Containers.{AreContainers}

-- ---- lists in order with the same members

module _ {K : Type 0} {R : K → K → Ordering} (o : IsTotalOrder R) where
  never_both : (x y : K) → R x y ≡ Less → R y x ≡ Less → ⊥
  never_both x y below above = let turned : R x y ≡ ordering_reverse (R y x) = o.antisymm x y in let is : Less ≡ ordering_reverse Less = sym below ∙ turned ∙ ap ordering_reverse above in cc

  below_all : (x : K) (ys : List K) → AllByRecursion (λ y. R x y ≡ Less) ys → (q : K) → In q ys → R x q ≡ Less
  below_all x [] all q h = absurd h
  below_all x (y ∷ ys) all q (inl same) = subst (λ (z : K). R x z ≡ Less) same all.0
  below_all x (y ∷ ys) all q (inr later) = below_all x ys all.1 q later

  same_heads : (x y : K) (xs ys : List K) → AllByRecursion (λ z. R x z ≡ Less) xs → AllByRecursion (λ z. R y z ≡ Less) ys → In x (y ∷ ys) → In y (x ∷ xs) → x ≡ y
  same_heads x y xs ys first second (inl same) there = sym same
  same_heads x y xs ys first second (inr later) (inl same) = same
  same_heads x y xs ys first second (inr later) (inr after) = absurd (never_both x y (below_all x xs first y after) (below_all y ys second x later))

  behind_head : (x y : K) (xs ys : List K) → x ≡ y → AllByRecursion (λ z. R x z ≡ Less) xs → (q : K) → In q xs → In q (y ∷ ys) → In q ys
  behind_head x y xs ys heads first q here (inl same) =
      let below : R x q ≡ Less = below_all x xs first q here in
      let self : R q q ≡ Less = subst (λ (z : K). R z q ≡ Less) (heads ∙ same) below in
      absurd (never_both q q self self)
  behind_head x y xs ys heads first q here (inr later) = later

  pub same_sorted : (xs ys : List K) → IsStrictlySortedBy R xs → IsStrictlySortedBy R ys
      → ((q : K) → In q xs → In q ys) → ((q : K) → In q ys → In q xs) → xs ≡ ys
  same_sorted [] [] a b to from = refl
  same_sorted [] (y ∷ ys) a b to from = absurd (from y (inl refl))
  same_sorted (x ∷ xs) [] a b to from = absurd (to x (inl refl))
  same_sorted (x ∷ xs) (y ∷ ys) a b to from =
      let first = sorted_head R x xs a in
      let second = sorted_head R y ys b in
      let heads : x ≡ y = same_heads x y xs ys first second (to x (inl refl)) (from y (inl refl)) in
      let rest : xs ≡ ys = same_sorted xs ys (sorted_tail R x xs a) (sorted_tail R y ys b)
      (λ q h. behind_head x y xs ys heads first q h (to q (inr h)))
      (λ q h. behind_head y x ys xs (sym heads) second q h (from q (inr h))) in
      λ i. heads i ∷ rest i

-- ---- containers

container_total : IsTotalOrder container_cmp
container_total = then_total (on_total (λ (c : ContainerId). c.session) nat_cmp_total) (on_total (λ (c : ContainerId). c.ordinal) nat_cmp_total)

has_in : {X : Type 0} (x : X) (xs : List X) → In x xs → Contains xs x
has_in x [] h = absurd h
has_in x (y ∷ ys) (inl same) = (zero, omega arith, same)
has_in x (y ∷ ys) (inr later) = let found = has_in x ys later in let below = found.1 in (suc found.0, omega (arith, below), found.2)

pub one_list : (places : List Place) (xs ys : List ContainerId) → AreContainers places xs → AreContainers places ys → xs ≡ ys
one_list places xs ys a b =
    same_sorted container_total xs ys a.ascending b.ascending
    (λ q h. in_Contains q ys (b.each q (a.only q (has_in q xs h))))
    (λ q h. in_Contains q xs (a.each q (b.only q (has_in q ys h))))

-- what a comparison of two lists says
pub same_list : (xs ys : List ContainerId) → pointwise same_container xs ys ≡ true → xs ≡ ys
same_list xs ys is = pointwise-true same_container same_container-true xs ys is

pub other_list : (places : List Place) (xs ys : List ContainerId) → AreContainers places xs → pointwise same_container xs ys ≡ false → AreContainers places ys → ⊥
other_list places xs ys a differ b =
    let same : xs ≡ ys = one_list places xs ys a b in
    let self : pointwise same_container xs xs ≡ true = pointwise-same same_container same_container-self xs in
    let both : pointwise same_container xs ys ≡ true = subst (λ (l : List ContainerId). pointwise same_container xs l ≡ true) same self in
    let no : true ≡ false = sym both ∙ differ in cc
