-- A list of standings without some manifests, one after another or a whole session's.
use Rattle.std.proofs.Common.{◌≡◌, ℕ, Bool, true, false, ◌&&◌, ◌||◌, not, List, [], ◌∷◌, refl, sym, ap, ◌∙◌, inl, inr, eqb}
use Rattle.std.specs.List.{filter, list_any}
use Rattle.std.proofs.lemmas.Bool.{cases_Bool, eq-eqb, eqb-true, false_from_ne_true, both_ways}
use Rattle.ss_base.specs.declared.ids.ManifestId.{ManifestId}
use Rattle.ss_base.specs.declared.ids.Standing.{Standing}
use Rattle.ss_base.specs.Ids.{same_manifest, has_manifest}
use Rattle.ss_base.specs.Standings.{others_standing, without_manifest, without_session}
use Rattle.ss_base.proofs.IdLaws.{same_manifest-self, same_manifest-true}
use Rattle.ss_base.proofs.MemberLaws.{In, any_in, in_any}

-- tests that agree on the items keep the same ones
pub filter_same : {X : Type 0} (p q : X → Bool) (xs : List X) → ((x : X) → In x xs → p x ≡ q x) → filter p xs ≡ filter q xs
filter_same p q [] same = refl
filter_same p q (x ∷ xs) same =
    let rest = filter_same p q xs (λ y h. same y (inr h)) in
    elim (cases_Bool (q x)) [
      | inl yes_is ↦ rw (same x (inl refl) ∙ yes_is) (rw yes_is (ap (λ ys. x ∷ ys) rest))
      | inr no_is ↦ rw (same x (inl refl) ∙ no_is) (rw no_is rest)
    ]

-- what passes two tests, one after another
pub filter_twice : {X : Type 0} (p q : X → Bool) (xs : List X) → filter p (filter q xs) ≡ filter (λ x. q x && p x) xs
filter_twice p q [] = refl
filter_twice p q (x ∷ xs) = elim (cases_Bool (q x)) [
  | inl kept ↦ rw kept (elim (cases_Bool (p x)) [
    | inl passes ↦ rw passes (ap (λ ys. x ∷ ys) (filter_twice p q xs))
    | inr fails ↦ rw fails (filter_twice p q xs)
  ])
  | inr dropped ↦ rw dropped (filter_twice p q xs)
]

not_either : (a b : Bool) → not (a || b) ≡ (not a && not b)
not_either true b = refl
not_either false b = refl

-- without a manifest and then without others is without all of these
pub without_more : (id : ManifestId) (ids : List ManifestId) (stood : List Standing) → others_standing (id ∷ ids) stood ≡ others_standing ids (without_manifest id stood)
unfolding others_standing without_manifest has_manifest
without_more id ids stood =
    filter_same (λ (stands : Standing). not (has_manifest stands.id (id ∷ ids))) (λ (stands : Standing). not (same_manifest stands.id id) && not (has_manifest stands.id ids)) stood
    (λ stands h. not_either (same_manifest stands.id id) (list_any (same_manifest stands.id) ids))
    ∙ sym (filter_twice (λ (stands : Standing). not (has_manifest stands.id ids)) (λ (stands : Standing). not (same_manifest stands.id id)) stood)

-- without these manifests of a session is without the session, where none of its others stands
pub without_all : (session : ℕ) (ids : List ManifestId) (stood : List Standing) → ((id : ManifestId) → In id ids → id.session ≡ session) → ((stands : Standing) → In stands stood → stands.id.session ≡ session → In stands.id ids) → others_standing ids stood ≡ without_session session stood
unfolding others_standing without_session has_manifest
without_all session ids stood own all =
    filter_same (λ (stands : Standing). not (has_manifest stands.id ids)) (λ (stands : Standing). not (eqb stands.id.session session)) stood
    (λ stands h. elim (cases_Bool (eqb stands.id.session session)) [
      | inl is ↦ ap not (in_any (same_manifest stands.id) stands.id ids (all stands h (eqb-true stands.id.session session is)) (same_manifest-self stands.id) ∙ sym is)
      | inr other ↦ ap not (false_from_ne_true (has_manifest stands.id ids) (λ has.
          let found = any_in (same_manifest stands.id) ids has in
          let same : stands.id ≡ found.0 = same_manifest-true stands.id found.0 found.2 in
          let here : stands.id.session ≡ session = ap (λ (id : ManifestId). id.session) same ∙ own found.0 found.1 in
          both_ways (eqb stands.id.session session) other (eq-eqb stands.id.session session here)) ∙ sym other)
    ])
