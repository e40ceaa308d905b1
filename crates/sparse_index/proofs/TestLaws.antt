-- That lists of a test are distinct.
use Rattle.std.proofs.Common.{◌≡◌, ℕ, ◌+◌, ◌<◌, Bool, true, false, List, [], length, take, get_or, sym, ap, ◌∙◌, subst, inl, inr}
use Rattle.std.specs.Cmp.{IsEquivalence}
use Rattle.std.specs.List.{IsDistinct, list_any}
use Rattle.std.proofs.lemmas.Bool.{both_ways, cases_Bool, false_from_ne_true}
use Rattle.std.proofs.lemmas.List.{take_more}
use Rattle.std.proofs.lemmas.Map.Keys.{IsDistinct-push}
use Rattle.ss_base.specs.declared.ids.ManifestId.{ManifestId}
use Rattle.ss_base.specs.declared.name.Name.{Name}
use Rattle.ss_base.specs.Ids.{same_name, same_manifest, has_name, has_manifest}
use Rattle.ss_base.proofs.IdLaws.{same_name-self, same_name-true, same_manifest-self, same_manifest-true}

equivalence : {X : Type 0} (same : X → X → Bool) → ((x : X) → same x x ≡ true) → ((x y : X) → same x y ≡ true → x ≡ y) → IsEquivalence same
equivalence {X} same self equal = record {
  refl = self;
  symm = λ x y. elim (cases_Bool (same x y)) [
    | inl is ↦ is ∙ sym (subst (λ (z : X). same z x ≡ true) (equal x y is) (self x))
    | inr apart ↦ apart ∙ sym (false_from_ne_true (same y x) (λ is. both_ways (same x y) apart (subst (λ (z : X). same z y ≡ true) (equal y x is) (self y))))
  ];
  congr = λ x y z is. ap (λ (w : X). same w z) (equal x y is);
}

distinct_more : {X : Type 0} (same : X → X → Bool) → IsEquivalence same → (xs : List X) (i : ℕ) (d : X) → i < length xs → IsDistinct same (take i xs) → list_any (same (get_or xs i d)) (take i xs) ≡ false → IsDistinct same (take (i + 1) xs)
distinct_more same laws xs i d below distinct fresh = subst (IsDistinct same) (sym (take_more xs i d below)) (IsDistinct-push laws (take i xs) (get_or xs i d) distinct fresh)

pub distinct_none : {X : Type 0} (same : X → X → Bool) → IsDistinct same []
unfolding IsDistinct
distinct_none same = tt

pub distinct_names : (xs : List Name) (i : ℕ) (d : Name) → i < length xs → IsDistinct same_name (take i xs) → has_name (get_or xs i d) (take i xs) ≡ false → IsDistinct same_name (take (i + 1) xs)
unfolding has_name
distinct_names xs i d below distinct fresh = distinct_more same_name (equivalence same_name same_name-self same_name-true) xs i d below distinct fresh

pub distinct_ids : (xs : List ManifestId) (i : ℕ) (d : ManifestId) → i < length xs → IsDistinct same_manifest (take i xs) → has_manifest (get_or xs i d) (take i xs) ≡ false → IsDistinct same_manifest (take (i + 1) xs)
unfolding has_manifest
distinct_ids xs i d below distinct fresh = distinct_more same_manifest (equivalence same_manifest same_manifest-self same_manifest-true) xs i d below distinct fresh
