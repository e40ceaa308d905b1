-- Laws of containers.
use Rattle.std.proofs.Common.{◌≡◌, List, map, subst, sym, Contains, IsPermutation, IsSorted}
use Rattle.std.specs.Cmp.{IsTotalOrder, IsEquivalence, then_total, on_total, nat_cmp_total, and_equiv, on_equiv, nat_eq_equiv}
use Rattle.std.specs.List.{dedup}
use Rattle.std.proofs.lemmas.List.Kept.{IsStrictlySortedBy-dedup, Contains-dedup, Contains-from_dedup}
use Rattle.std.proofs.lemmas.List.Sorted.{Contains-permutation, IsPermutation-sym}
use Rattle.ss_base.specs.declared.ids.ContainerId.{ContainerId}
use Rattle.ss_base.specs.declared.ids.Place.{Place}
use Rattle.ss_base.specs.Ids.{same_container}
use Rattle.ss_base.specs.Order.{container_cmp}
use Rattle.ss_base.proofs.IdLaws.{same_container-true}
use Rattle.ss_base.proofs.OrderLaws.{containers_tied}
use Rattle.manifest_codec.specs.Containers.{AreContainers}

pub container_total : IsTotalOrder container_cmp
container_total = then_total (on_total (λ (c : ContainerId). c.session) nat_cmp_total) (on_total (λ (c : ContainerId). c.ordinal) nat_cmp_total)

pub container_equiv : IsEquivalence same_container
container_equiv = and_equiv (on_equiv (λ (c : ContainerId). c.session) nat_eq_equiv) (on_equiv (λ (c : ContainerId). c.ordinal) nat_eq_equiv)

-- what is left of the containers once they are sorted and each stands once
pub AreContainers-dedup : (places : List Place) (ids sorted : List ContainerId) → ids ≡ map (λ p. p.container) places → IsPermutation ids sorted → IsSorted container_cmp sorted → AreContainers places (dedup same_container sorted)
AreContainers-dedup places ids sorted same moved in_order = record {
  ascending = IsStrictlySortedBy-dedup container_total (λ x y. sym (containers_tied x y)) sorted in_order;
  each = λ id has. Contains-dedup container_equiv same_container-true sorted id
      (Contains-permutation ids sorted id moved (subst (λ (l : List ContainerId). Contains l id) (sym same) has));
  only = λ id has. subst (λ (l : List ContainerId). Contains l id) same
      (Contains-permutation sorted ids id (IsPermutation-sym ids sorted moved) (Contains-from_dedup same_container sorted id has));
}
