-- The greedy choice takes manifests that stand at a hook, each once.
use Rattle.std.proofs.Common.{◌≡◌, ◌⊎◌, ℕ, zero, suc, true, false, not, List, [], ◌∷◌, Option, Some, None, refl, sym, subst, inl, inr}
use Rattle.std.proofs.lemmas.Bool.{both_ways, not-true, false_from_ne_true}
use Rattle.ss_base.specs.declared.ids.ManifestId.{ManifestId}
use Rattle.ss_base.specs.declared.ids.Standing.{Standing}
use Rattle.ss_base.specs.Ids.{same_manifest}
use Rattle.ss_base.specs.Champions.{stands_in, candidates, is_unbeaten, best, uncovered, champions}
use Rattle.ss_base.proofs.MemberLaws.{In, in_any, find_in, filter_in, flat_map_in}
use Rattle.ss_base.proofs.ApartLaws.{Apart}
use Rattle.ss_base.proofs.IdLaws.{same_manifest-self, same_manifest-true}

-- the manifest stands in one of the lists
pub record StandsAtOne (id : ManifestId) (lists : List (List Standing)) : Type 0 where
  pub stood : List Standing
  pub listed : In stood lists
  pub stands : stands_in id stood ≡ true

best_stands : (lists : List (List Standing)) (s : Standing) → best lists ≡ Some s → StandsAtOne s.id lists
unfolding best candidates stands_in
best_stands lists s e =
    let found = find_in (λ a. is_unbeaten lists (candidates lists) a) (candidates lists) s e in
    let at = flat_map_in (λ stood. stood) s lists found.0 in
    record { stood = at.0; listed = at.1; stands = in_any (λ (t : Standing). same_manifest s.id t.id) s at.0 at.2 (same_manifest-self s.id) }

-- what a round leaves are lists, in which its champion does not stand
uncovered_in : (id : ManifestId) (stood : List Standing) (lists : List (List Standing)) → In stood (uncovered id lists) → In stood lists × (stands_in id stood ≡ false)
unfolding uncovered
uncovered_in id stood lists h =
    let parts = filter_in (λ l. not (stands_in id l)) stood lists h in
    (parts.0, not-true _ parts.1)

pub round : (n : ℕ) (lists : List (List Standing)) → (champions (suc n) lists ≡ []) ⊎ ((s : Standing) × (best lists ≡ Some s) × (champions (suc n) lists ≡ s.id ∷ champions n (uncovered s.id lists)))
unfolding champions
round n lists = cases (best lists) refl
  where
    cases : (o : Option Standing) → best lists ≡ o → (champions (suc n) lists ≡ []) ⊎ ((s : Standing) × (best lists ≡ Some s) × (champions (suc n) lists ≡ s.id ∷ champions n (uncovered s.id lists)))
    cases None e = inl (rw e refl)
    cases (Some s) e = inr (s, e, rw e refl)

pub no_rounds : (lists : List (List Standing)) → champions 0 lists ≡ []
unfolding champions
no_rounds lists = refl

pub champion_stands : (n : ℕ) (lists : List (List Standing)) (id : ManifestId) → In id (champions n lists) → StandsAtOne id lists
champion_stands zero lists id h = absurd (rw (no_rounds lists) at h)
champion_stands (suc n) lists id h = elim (round n lists) [
  | inl none ↦ absurd (rw none at h)
  | inr (s, first, more) ↦ elim (rw more at h) [
    | inl same ↦ subst (λ (m : ManifestId). StandsAtOne m lists) same (best_stands lists s first)
    | inr later ↦
        let rest = champion_stands n (uncovered s.id lists) id later in
        record { stood = rest.stood; listed = (uncovered_in s.id rest.stood lists rest.listed).0; stands = rest.stands }
  ]
]

pub champions_apart : (n : ℕ) (lists : List (List Standing)) → Apart same_manifest (champions n lists)
champions_apart zero lists = rw (no_rounds lists) tt
champions_apart (suc n) lists = elim (round n lists) [
  | inl none ↦ rw none tt
  | inr (s, first, more) ↦ rw more (
    (λ id later. false_from_ne_true _ (λ same.
        let rest = champion_stands n (uncovered s.id lists) id later in
        let here = subst (λ (m : ManifestId). stands_in m rest.stood ≡ true) (sym (same_manifest-true _ _ same)) rest.stands in
        both_ways _ (uncovered_in s.id rest.stood lists rest.listed).1 here)),
    champions_apart n (uncovered s.id lists),
  )
]
