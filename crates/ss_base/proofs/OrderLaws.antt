-- The order of objects is total, and finds the same those that are.
use Rattle.std.proofs.Common.{◌≡◌, ℕ, ◌&&◌, eqb, refl, ap, ◌∙◌, subst}
use Rattle.std.specs.Cmp.{IsTotalOrder}
use Rattle.std.specs.Ordering.{nat_cmp, ordering_then, eq_by_cmp, is_eq}
use Rattle.std.specs.declared.cmp.Ordering.{Ordering}
use Rattle.std.specs.declared.cmp.Ordering.TheVariants.{Less, Equal, Greater}
use Rattle.std.specs.Cmp.{unsigned_tied}
use Rattle.std.proofs.lemmas.Map.Lookups.{CmpEqualImpliesEq, exact_pairs, exact_unsigned}
use Rattle.ss_base.specs.declared.ids.ContainerId.{ContainerId}
use Rattle.ss_base.specs.declared.ids.ManifestId.{ManifestId}
use Rattle.ss_base.specs.declared.object.Object.{Object}
use Rattle.ss_base.specs.declared.object.Object.TheVariants.{Container, Manifest}
use Rattle.ss_base.specs.contracts.object.ObjectOrd.TheImpl as object_ord
use Rattle.ss_base.specs.contracts.object.ObjectOrd.TheImpl.Laws.{total-law}
use Rattle.ss_base.specs.Ids.{same_container, same_manifest, same_object}
use Rattle.ss_base.specs.Order.{container_cmp, manifest_cmp, object_cmp}

-- the order that the derive gives
abbrev pub derived : Object → Object → Ordering
derived = (object_ord.ghosts).cmp

derived_is : (x y : Object) → derived x y ≡ object_cmp x y
derived_is (Container c) (Container d) = refl
derived_is (Container c) (Manifest n) = refl
derived_is (Manifest m) (Container d) = refl
derived_is (Manifest m) (Manifest n) = refl

pub derived-object_cmp : derived ≡ object_cmp
derived-object_cmp i x y = derived_is x y i

pub objects_total : IsTotalOrder object_cmp
objects_total = subst IsTotalOrder derived-object_cmp total-law

-- objects that compare alike are one
pub exact_objects : CmpEqualImpliesEq object_cmp
exact_objects (Container c) (Container d) h = ap (λ (p : ℕ × ℕ). Container (record { session = p.0; ordinal = p.1 })) (exact_pairs nat_cmp nat_cmp exact_unsigned exact_unsigned (c.session, c.ordinal) (d.session, d.ordinal) h)
exact_objects (Container c) (Manifest n) h = cc
exact_objects (Manifest m) (Container d) h = cc
exact_objects (Manifest m) (Manifest n) h = ap (λ (p : ℕ × ℕ). Manifest (record { session = p.0; seq = p.1 })) (exact_pairs nat_cmp nat_cmp exact_unsigned exact_unsigned (m.session, m.seq) (n.session, n.seq) h)

both_equal : (a b : Ordering) → is_eq (ordering_then a b) ≡ (is_eq a && is_eq b)
both_equal Less b = refl
both_equal Equal b = refl
both_equal Greater b = refl

-- two fields that are compared in turn
pairs_tied : (a b c d : ℕ) → is_eq (ordering_then (nat_cmp a b) (nat_cmp c d)) ≡ (eqb a b && eqb c d)
pairs_tied a b c d =
    both_equal (nat_cmp a b) (nat_cmp c d)
    ∙ ap (λ t. t && is_eq (nat_cmp c d)) (unsigned_tied a b)
    ∙ ap (λ t. eqb a b && t) (unsigned_tied c d)

pub containers_tied : (a b : ContainerId) → eq_by_cmp container_cmp a b ≡ same_container a b
containers_tied a b = pairs_tied a.session b.session a.ordinal b.ordinal

pub manifests_tied : (a b : ManifestId) → eq_by_cmp manifest_cmp a b ≡ same_manifest a b
manifests_tied a b = pairs_tied a.session b.session a.seq b.seq

pub objects_tied : (a b : Object) → eq_by_cmp object_cmp a b ≡ same_object a b
objects_tied (Container a) (Container b) = containers_tied a b
objects_tied (Container a) (Manifest b) = refl
objects_tied (Manifest a) (Container b) = refl
objects_tied (Manifest a) (Manifest b) = manifests_tied a b

-- the order's test is the test of sameness
pub tied-same_object : eq_by_cmp object_cmp ≡ same_object
tied-same_object i a b = objects_tied a b i
