-- Lists of a hook that stay as they stood.
use Rattle.std.proofs.Common.{◌≡◌, Bool, true, false, ◌||◌, not, List, [], ◌∷◌, ◌++◌, drop, Some, refl, sym, ap, ◌∙◌, subst, inl, inr}
use Rattle.std.specs.List.{list_any, filter, filter_map, cons_option, IsDistinct, AllByRecursion}
use Rattle.std.proofs.lemmas.Bool.{both_ways, cases_Bool, or_parts, or_from, false_from_ne_true}
use Rattle.std.proofs.lemmas.Map.Keys.{IsDistinct-head, IsDistinct-tail}
use Rattle.std.specs.Prelude.{None}
use Rattle.ss_base.specs.declared.ids.ManifestId.{ManifestId}
use Rattle.ss_base.specs.declared.ids.Standing.{Standing}
use Rattle.ss_base.specs.Ids.{same_manifest, has_manifest}
use Rattle.ss_base.specs.Champions.{stands_in}
use Rattle.ss_base.specs.Standings.{standing_of, chosen_standings, others_standing, promoted, without_manifest}
use Rattle.ss_base.proofs.IdLaws.{same_manifest-self, same_manifest-true}

filter_all : {X : Type 0} (p : X → Bool) (xs : List X) → list_any p xs ≡ false → filter (λ x. not (p x)) xs ≡ xs
filter_all p [] none = refl
filter_all p (x ∷ xs) none =
    let parts = or_parts (p x) (list_any p xs) none in
    rw parts.0 (ap (λ l. x ∷ l) (filter_all p xs parts.1))

any_parts : {X : Type 0} (p q : X → Bool) (xs : List X) → list_any (λ x. p x || q x) xs ≡ false → (list_any p xs ≡ false) × (list_any q xs ≡ false)
any_parts p q [] none = (refl, refl)
any_parts p q (x ∷ xs) none =
    let parts = or_parts (p x || q x) (list_any (λ y. p y || q y) xs) none in
    let here = or_parts (p x) (q x) parts.0 in
    let rest = any_parts p q xs parts.1 in
    (or_from (p x) (list_any p xs) here.0 rest.0, or_from (q x) (list_any q xs) here.1 rest.1)

apart_back : (a b : ManifestId) → same_manifest a b ≡ false → same_manifest b a ≡ false
apart_back a b apart = false_from_ne_true (same_manifest b a) (λ same.
    both_ways (same_manifest a b) apart (subst (λ (x : ManifestId). same_manifest x b ≡ true) (same_manifest-true b a same) (same_manifest-self b)))

not_standing : (id : ManifestId) (stood : List Standing) → list_any (λ (s : Standing). same_manifest s.id id) stood ≡ false → standing_of id stood ≡ None
unfolding standing_of
not_standing id [] none = refl
not_standing id (x ∷ xs) none =
    let parts = or_parts (same_manifest x.id id) (list_any (λ (s : Standing). same_manifest s.id id) xs) none in
    let apart = apart_back x.id id parts.0 in
    rw apart (not_standing id xs parts.1)

none_chosen : (ids : List ManifestId) (stood : List Standing) → list_any (λ (s : Standing). has_manifest s.id ids) stood ≡ false → chosen_standings ids stood ≡ []
unfolding chosen_standings has_manifest
none_chosen [] stood none = refl
none_chosen (id ∷ ids) stood none =
    let parts = any_parts (λ (s : Standing). same_manifest s.id id) (λ (s : Standing). list_any (same_manifest s.id) ids) stood none in
    ap (λ o. cons_option o (filter_map (λ other. standing_of other stood) ids)) (not_standing id stood parts.0) ∙ none_chosen ids stood parts.1

others_stay : (ids : List ManifestId) (stood : List Standing) → list_any (λ (s : Standing). has_manifest s.id ids) stood ≡ false → others_standing ids stood ≡ stood
unfolding others_standing
others_stay ids stood none = filter_all (λ (s : Standing). has_manifest s.id ids) stood none

-- where none of the champions stands
pub promoted_stays : (ids : List ManifestId) (stood : List Standing) → list_any (λ (s : Standing). has_manifest s.id ids) stood ≡ false → promoted ids stood ≡ stood
unfolding promoted
promoted_stays ids stood none = λ i. none_chosen ids stood none i ++ others_stay ids stood none i

none_back : (id : ManifestId) (stood : List Standing) → list_any (λ (s : Standing). same_manifest id s.id) stood ≡ false → list_any (λ (s : Standing). same_manifest s.id id) stood ≡ false
none_back id [] none = refl
none_back id (x ∷ xs) none =
    let parts = or_parts (same_manifest id x.id) (list_any (λ (s : Standing). same_manifest id s.id) xs) none in
    or_from (same_manifest x.id id) (list_any (λ (s : Standing). same_manifest s.id id) xs) (apart_back id x.id parts.0) (none_back id xs parts.1)

-- where the manifest does not stand
pub without_stays : (id : ManifestId) (stood : List Standing) → stands_in id stood ≡ false → without_manifest id stood ≡ stood
unfolding stands_in without_manifest
without_stays id stood none = filter_all (λ (s : Standing). same_manifest s.id id) stood (none_back id stood none)

-- ---- champions that stand in front already

none_same : (id : ManifestId) (ids : List ManifestId) → AllByRecursion (λ (other : ManifestId). same_manifest id other ≡ false) ids → list_any (same_manifest id) ids ≡ false
none_same id [] apart = refl
none_same id (other ∷ ids) apart = or_from (same_manifest id other) (list_any (same_manifest id) ids) apart.0 (none_same id ids apart.1)

found : (id : ManifestId) (x : Standing) (stood : List Standing) → same_manifest id x.id ≡ true → standing_of id (x ∷ stood) ≡ Some x
unfolding standing_of
found id x stood is = rw is refl

passed : (id : ManifestId) (x : Standing) (stood : List Standing) → same_manifest id x.id ≡ false → standing_of id (x ∷ stood) ≡ standing_of id stood
unfolding standing_of
passed id x stood apart = rw apart refl

only_first : (ids : List ManifestId) (x : Standing) (stood : List Standing) → IsDistinct same_manifest ids → list_any (λ (s : Standing). has_manifest s.id ids) stood ≡ false → has_manifest x.id ids ≡ true → chosen_standings ids (x ∷ stood) ≡ x ∷ []
unfolding chosen_standings has_manifest
only_first [] x stood distinct none has = absurd (both_ways false refl has)
only_first (id ∷ ids) x stood distinct none has =
    let parts = any_parts (λ (s : Standing). same_manifest s.id id) (λ (s : Standing). list_any (same_manifest s.id) ids) stood none in
    elim (cases_Bool (same_manifest id x.id)) [
      | inl is ↦
          let fresh = subst (λ (other : ManifestId). list_any (same_manifest other) ids ≡ false) (same_manifest-true id x.id is) (none_same id ids (IsDistinct-head same_manifest id ids distinct)) in
          let others = or_from (list_any (same_manifest x.id) ids) (list_any (λ (s : Standing). list_any (same_manifest s.id) ids) stood) fresh parts.1 in
          ap (λ o. cons_option o (filter_map (λ other. standing_of other (x ∷ stood)) ids)) (found id x stood is) ∙ ap (λ l. x ∷ l) (none_chosen ids (x ∷ stood) others)
      | inr apart ↦
          let later = ap (λ b. b || list_any (same_manifest x.id) ids) (sym (apart_back id x.id apart)) ∙ has in
          ap (λ o. cons_option o (filter_map (λ other. standing_of other (x ∷ stood)) ids)) (passed id x stood apart ∙ not_standing id stood parts.0)
          ∙ only_first ids x stood (IsDistinct-tail same_manifest id ids distinct) parts.1 later
    ]

others_behind : (ids : List ManifestId) (x : Standing) (stood : List Standing) → has_manifest x.id ids ≡ true → others_standing ids (x ∷ stood) ≡ others_standing ids stood
unfolding others_standing
others_behind ids x stood has = rw has refl

-- where none of the champions stands behind the first place
pub promoted_first : (ids : List ManifestId) (stood : List Standing) → IsDistinct same_manifest ids → list_any (λ (s : Standing). has_manifest s.id ids) (drop 1 stood) ≡ false → promoted ids stood ≡ stood
unfolding promoted
promoted_first ids [] distinct none = promoted_stays ids [] refl
promoted_first ids (x ∷ stood) distinct none = elim (cases_Bool (has_manifest x.id ids)) [
  | inl has ↦ (λ i. only_first ids x stood distinct none has i ++ (others_behind ids x stood has ∙ others_stay ids stood none) i)
  | inr has_not ↦ promoted_stays ids (x ∷ stood) (or_from (has_manifest x.id ids) (list_any (λ (s : Standing). has_manifest s.id ids) stood) has_not none)
]
