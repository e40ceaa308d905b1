-- The containers that a legal history lists.
use Rattle.std.proofs.Common.{◌≡◌, ℕ, zero, suc, ◌<◌, ◌≤◌, ◌⊎◌, true, false, ◌&&◌, eqb, ltb, List, [], ◌∷◌, refl, sym, ◌∙◌, subst, inl, inr, arith, eqb-true}
use Rattle.std.specs.List.{Contains, list_any}
use Rattle.std.proofs.lemmas.Bool.{false≢true, and_parts, or_cases, cases_Bool}
use Rattle.ss_base.specs.declared.ids.ContainerId.{ContainerId}
use Rattle.ss_base.specs.declared.ids.ManifestId.{ManifestId}
use Rattle.ss_base.specs.Ids.{same_manifest, same_container, has_container}
use Rattle.ss_base.specs.Order.{are_ascending}
use Rattle.ss_base.proofs.IdLaws.{same_container-true}
use Rattle.ss_base.proofs.MemberLaws.{In, any_in, all_in}
use Rattle.journal_entry.specs.declared.entry.Entry.{Entry}
use Rattle.journal_entry.specs.declared.entry.Point.{Point}
use Rattle.journal_entry.specs.declared.entry.Point.TheVariants.{Commit}
use Rattle.history.specs.declared.rules.Rules.{Rules}
use Rattle.history.specs.Sessions.{has, pending_champions}
use Rattle.history.specs.OwnEnd.{greatest_by, own_end}
use Rattle.history.specs.Legal.{lists_use, is_use_of_any, is_use, are_uses, is_allowed, is_legal}
use Rattle.history_laws.specs.EntryNumbers.{uses_listed}
use Rattle.history_laws.specs.OwnUse.{UsesOwn}
use Rattle.history_laws.proofs.Allowed.{step, commit_says}
use Rattle.history_laws.proofs.OwnEndLaws.{own_end_above}

in_there : {X : Type 0} (x : X) (xs : List X) → In x xs → Contains xs x
in_there x [] h = absurd h
in_there x (y ∷ ys) (inl is) = (zero, omega arith, is)
in_there x (y ∷ ys) (inr h) = let there = in_there x ys h in (suc there.0, let below = there.1 in omega (arith, below), there.2)

container_in : (id : ContainerId) (uses : List ContainerId) → has_container id uses ≡ true → In id uses
unfolding has_container
container_in id uses h =
    let found = any_in (same_container id) uses h in
    subst (λ (c : ContainerId). In c uses) (sym (same_container-true id found.0 found.2)) found.1

listed_by : (m : ManifestId) (id : ContainerId) (point : Point) → lists_use m id point ≡ true → In id (uses_listed point)
unfolding lists_use uses_listed
listed_by m id (Commit manifest content text chunks bytes fresh fresh_bytes uses) does = container_in id uses (and_parts (same_manifest m manifest) (has_container id uses) does).1
listed_by m id _ does = absurd (false≢true does)

-- a container that some entry lists
pub record IsListed (id : ContainerId) (past : List Entry) : Type 0 where
  pub entry : Entry
  pub there : In entry past
  pub listed : In id (uses_listed entry.point)

pub use_of_any : (ms : List ManifestId) (past : List Entry) (id : ContainerId) → is_use_of_any ms past id ≡ true → IsListed id past
unfolding is_use_of_any has
use_of_any ms past id some =
    let one = any_in (λ (m : ManifestId). list_any (λ (e : Entry). lists_use m id e.point) past) ms some in
    let at = any_in (λ (e : Entry). lists_use one.0 id e.point) past one.2 in
    record { entry = at.0; there = at.1; listed = listed_by one.0 id at.0.point at.2 }

-- a use of a session that is not its own was listed before
listed_before : (s : ℕ) (ms : List ManifestId) (past : List Entry) (id : ContainerId) → eqb id.session s ≡ false → is_use s ms past id ≡ true → IsListed id past
unfolding is_use
listed_before s ms past id other use_ = elim (or_cases (eqb id.session s && ltb id.ordinal 4294967295) (is_use_of_any ms past id) use_) [
  | inl own ↦ absurd (false≢true (sym other ∙ (and_parts (eqb id.session s) (ltb id.ordinal 4294967295) own).0))
  | inr older ↦ use_of_any ms past id older
]

-- what an entry that is allowed lists: a container of its own session, or one that was listed before
newest_listed : (rules : Rules) (past : List Entry) (author : ℕ) (point : Point) (id : ContainerId) → is_allowed rules past author point ≡ true → In id (uses_listed point) → UsesOwn id.session id point ⊎ IsListed id past
unfolding uses_listed are_uses
newest_listed rules past author (Commit manifest content text chunks bytes fresh fresh_bytes uses) id allowed listed =
    let said = commit_says rules past author manifest content text chunks bytes fresh fresh_bytes uses allowed in
    let each = and_parts _ _ (and_parts (are_ascending uses) _ said.may_use).1 in
    let use_ = all_in (is_use manifest.session (pending_champions manifest.session past) past) id uses listed each.1 in
    elim (cases_Bool (eqb id.session manifest.session)) [
      | inl own ↦ inl (sym (eqb-true _ _ own), refl, in_there id uses listed)
      | inr other ↦ inr (listed_before manifest.session (pending_champions manifest.session past) past id other use_)
    ]
newest_listed rules past author _ id allowed listed = absurd listed

end_grows : (s : ℕ) (entry : Entry) (past : List Entry) → own_end s past ≤ own_end s (entry ∷ past)
unfolding own_end greatest_by
end_grows s entry past = omega arith

-- each container that a legal history lists is below its session's own end
pub listed_below : (rules : Rules) (past : List Entry) (id : ContainerId) → is_legal rules past ≡ true → IsListed id past → id.ordinal < own_end id.session past
listed_below rules [] id legal is = absurd is.there
listed_below rules (entry ∷ past) id legal is =
    let now = step rules entry past legal in
    let older : IsListed id past → id.ordinal < own_end id.session (entry ∷ past) =
    λ before. let below = listed_below rules past id now.legal before in let grows = end_grows id.session entry past in omega (arith, below, grows) in
    elim is.there [
      | inl same ↦ elim (newest_listed rules past entry.author entry.point id now.allowed (subst (λ (e : Entry). In id (uses_listed e.point)) (sym same) is.listed)) [
        | inl own ↦ own_end_above (entry ∷ past) id.session entry id (zero, omega arith, refl) own
        | inr before ↦ older before
      ]
      | inr there ↦ older (record { entry = is.entry; there = there; listed = is.listed })
    ]
