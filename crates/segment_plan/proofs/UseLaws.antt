-- The containers of a plan's places, and how many they are.
use Rattle.std.proofs.Common.{◌≡◌, ◌≢◌, ◌⊎◌, ℕ, suc, ◌<◌, ◌≤◌, List, [], ◌∷◌, map, length, get_or, Contains, refl, sym, ap, ◌∙◌, subst, inl, inr, arith}
use Rattle.std.specs.List.Sorted.{IsStrictlySortedBy}
use Rattle.std.specs.Cmp.{IsTotalOrder, then_total, on_total, nat_cmp_total}
use Rattle.std.specs.declared.cmp.Ordering.{Ordering}
use Rattle.std.specs.declared.cmp.Ordering.TheVariants.{Less}
use Rattle.std.specs.List.{AllByRecursion}
use Rattle.std.specs.Ordering.{ordering_reverse}
use Rattle.std.proofs.lemmas.List.{length-map, get_or-map}
use Rattle.std.proofs.lemmas.Map.Keys.{sorted_head, sorted_tail}
use Rattle.std.proofs.lemmas.Option.{slice_get-get_or, slice_get_within, get_or_from_slice_get}
use Rattle.ss_base.specs.declared.ids.ContainerId.{ContainerId}
use Rattle.ss_base.specs.declared.ids.Place.{Place}
use Rattle.ss_base.specs.declared.name.Piece.{Piece}
use Rattle.ss_base.specs.Order.{container_cmp}
use Rattle.ss_base.proofs.MemberLaws.{In, in_Contains}
use Rattle.manifest_codec.specs.Containers.{AreContainers}
use Rattle.container_file.specs.declared.container_end.ContainerEnd.{ContainerEnd}
use Rattle.container_file.specs.Chunk.{Chunk}
use Rattle.container_file.specs.Layout.{after, place_for, Laid, laid, end_after}
use Rattle.container_file.proofs.LayoutLaws.{after_session, end_session, first_there}
use Rattle.container_file.proofs.PlanLaws.{opened_session}
use Rattle.segment_plan.specs.Plan.{Located, no_place}
use Rattle.segment_plan.specs.Located.{MayUse}
use Rattle.segment_plan.proofs.LieLaws.{AllLie, Contains-from_in}

-- ---- a container of the session's own

place_session : (end : ContainerEnd) (room : ℕ) (p : Piece) → (place_for end room p).container.session ≡ end.session
unfolding place_for
place_session end room p = opened_session end room p

-- what is laid out lies in the session's containers
laid-own : (end : ContainerEnd) (room : ℕ) (cs : List Chunk) (l : Laid) → In l (laid end room cs) →
    (l.place.container.session ≡ end.session) × (l.place.container.ordinal < (end_after end room cs).containers)
unfolding laid end_after
laid-own end room [] l h = absurd h
laid-own end room (c ∷ cs) l (inl same) =
    let ordinal = ap (λ (x : Laid). x.place.container.ordinal) same in
    let there = first_there end room c cs in
    (sym (ap (λ (x : Laid). x.place.container.session) same) ∙ place_session end room c.piece, omega (arith, ordinal, there))
laid-own end room (c ∷ cs) l (inr later) =
    let rest = laid-own (after end room c.piece) room cs l later in
    (rest.0 ∙ after_session end room c.piece, rest.1)

-- the containers of places at which pieces lie
pub may-use : (ms : List Located) (end : ContainerEnd) (room : ℕ) (cs : List Chunk) (ps : List Piece) (qs : List Place) → length qs ≡ length ps →
    AllLie (laid end room cs) ms ps qs → (id : ContainerId) → Contains (map (λ (p : Place). p.container) qs) id → MayUse ms (end_after end room cs) id
may-use ms end room cs ps qs size lie id has =
    let k = has.0 in
    let count = length-map qs (λ (p : Place). p.container) in
    let below = has.1 in
    let low : k < length qs = omega (arith, below, count) in
    let nothing : Piece = record { name = record { 0 = [] }; len = 0 } in
    let p = get_or ps k nothing in
    let q = get_or qs k no_place in
    let is : q.container ≡ id = sym (get_or-map (λ (p : Place). p.container) qs k no_place id low) ∙ has.2 in
    elim (lie k p q (slice_get-get_or ps k nothing (omega (arith, low, size))) (slice_get-get_or qs k no_place low)) [
      | inl own ↦
          let at = laid-own end room cs own.one (in_Contains own.one (laid end room cs) own.there) in
          let whole : own.one.place.container ≡ id = ap (λ (x : Place). x.container) own.place_is ∙ is in
          let below' = at.1 in
          let ordinal = ap (λ (c : ContainerId). c.ordinal) whole in
          inl (record {
            session = sym (ap (λ (c : ContainerId). c.session) whole) ∙ at.0 ∙ sym (end_session end room cs);
            started = omega (arith, below', ordinal);
          })
      | inr listed ↦
          let m = listed.manifest in
          let inside = slice_get_within m.places listed.number q listed.place_there in
          let others = length-map m.places (λ (p : Place). p.container) in
          inr (record {
            manifest = m;
            there = listed.there;
            container = (
              listed.number,
              omega (arith, inside, others),
              get_or-map (λ (p : Place). p.container) m.places listed.number no_place id inside
                  ∙ ap (λ (x : Place). x.container) (get_or_from_slice_get m.places listed.number q no_place listed.place_there)
                  ∙ is,
            );
          })
    ]

-- ---- how many containers there are

-- a list without one of its items
without : {X : Type 0} (x : X) (ys : List X) → In x ys → (zs : List X) × (length ys ≡ suc (length zs)) × ((z : X) → In z ys → (z ≡ x) ⊎ In z zs)
without x [] h = absurd h
without x (y ∷ ys) (inl is) = (ys, refl, λ z h. elim h [ inl same ↦ inl (sym same ∙ is) | inr later ↦ inr later ])
without x (y ∷ ys) (inr later) =
    let rest = without x ys later in (
      y ∷ rest.0,
      ap (λ n. suc n) rest.1,
      λ z h. elim h [
        | inl same ↦ inr (inl same)
        | inr after ↦ elim (rest.2 z after) [ inl same ↦ inl same | inr kept ↦ inr (inr kept) ]
      ],
    )

-- no item stands twice
abbrev AllOther : {X : Type 0} → List X → Type 0
AllOther [] = Unit {0}
AllOther {X} (x ∷ xs) = ((y : X) → In y xs → x ≢ y) × AllOther xs

-- items of another list, each once, are at most as many
at-most : {X : Type 0} (xs ys : List X) → AllOther xs → ((x : X) → In x xs → In x ys) → length xs ≤ length ys
at-most [] ys other inside = omega arith
at-most (x ∷ xs) ys other inside =
    let left = without x ys (inside x (inl refl)) in
    let rest = at-most xs left.0 other.1 (λ z h. elim (left.2 z (inside z (inr h))) [ inl same ↦ absurd (other.0 z h (sym same)) | inr kept ↦ kept ]) in
    let size = left.1 in
    omega (arith, rest, size)

container_total : IsTotalOrder container_cmp
container_total = then_total (on_total (λ (c : ContainerId). c.session) nat_cmp_total) (on_total (λ (c : ContainerId). c.ordinal) nat_cmp_total)

module _ {K : Type 0} {R : K → K → Ordering} (o : IsTotalOrder R) where
  never : (x : K) → R x x ≡ Less → ⊥
  never x below = let turned : R x x ≡ ordering_reverse (R x x) = o.antisymm x x in let is : Less ≡ ordering_reverse Less = sym below ∙ turned ∙ ap ordering_reverse below in cc

  below_all : (x : K) (ys : List K) → AllByRecursion (λ y. R x y ≡ Less) ys → (q : K) → In q ys → R x q ≡ Less
  below_all x [] all q h = absurd h
  below_all x (y ∷ ys) all q (inl same) = subst (λ (z : K). R x z ≡ Less) same all.0
  below_all x (y ∷ ys) all q (inr later) = below_all x ys all.1 q later

  sorted-other : (xs : List K) → IsStrictlySortedBy R xs → AllOther xs
  sorted-other [] sorted = tt
  sorted-other (x ∷ xs) sorted = (
    (λ y h same. never x (subst (λ (z : K). R x z ≡ Less) (sym same) (below_all x xs (sorted_head R x xs sorted) y h))),
    sorted-other xs (sorted_tail R x xs sorted),
  )

pub uses-count : (places : List Place) (ids : List ContainerId) → AreContainers places ids → length ids ≤ length places
uses-count places ids are =
    let ids-of = map (λ (p : Place). p.container) places in
    let most = at-most ids ids-of (sorted-other container_total ids are.ascending) (λ id h. in_Contains id ids-of (are.only id (Contains-from_in id ids h))) in
    let size = length-map places (λ (p : Place). p.container) in
    omega (arith, most, size)
