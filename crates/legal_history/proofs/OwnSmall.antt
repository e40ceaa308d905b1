-- The ordinals of the containers that a legal history uses are below 2^32 - 1.
use Rattle.std.proofs.Common.{◌≡◌, ℕ, ◌<◌, ◌≤◌, true, ◌&&◌, eqb, ltb, List, [], ◌∷◌, sym, subst, inl, inr}
use Rattle.std.specs.List.{list_any}
use Rattle.std.proofs.lemmas.Bool.{false≢true, and_parts, or_cases, ltb-true}
use Rattle.ss_base.specs.declared.ids.ContainerId.{ContainerId}
use Rattle.ss_base.specs.declared.ids.ManifestId.{ManifestId}
use Rattle.ss_base.specs.Ids.{same_manifest, same_container, has_container}
use Rattle.ss_base.specs.Order.{are_ascending}
use Rattle.ss_base.proofs.IdLaws.{same_container-true}
use Rattle.ss_base.proofs.MemberLaws.{In, any_in, all_in, in_Contains}
use Rattle.journal_entry.specs.declared.entry.Entry.{Entry}
use Rattle.journal_entry.specs.declared.entry.Point.{Point}
use Rattle.journal_entry.specs.declared.entry.Point.TheVariants.{Commit}
use Rattle.history.specs.declared.rules.Rules.{Rules}
use Rattle.history.specs.Sessions.{has, pending_champions}
use Rattle.history.specs.OwnEnd.{own_end}
use Rattle.history.specs.Legal.{lists_use, is_use_of_any, is_use, are_uses, is_allowed, is_legal}
use Rattle.history_laws.specs.EntryNumbers.{uses_listed}
use Rattle.history_laws.specs.OwnUse.{UsesOwn}
use Rattle.history_laws.proofs.Allowed.{step, commit_says}
use Rattle.history_laws.proofs.OwnEndLaws.{own_end_least}

container_in : (id : ContainerId) (uses : List ContainerId) → has_container id uses ≡ true → In id uses
unfolding has_container
container_in id uses h =
    let found = any_in (same_container id) uses h in
    subst (λ (c : ContainerId). In c uses) (sym (same_container-true id found.0 found.2)) found.1

listed_by : (m : ManifestId) (id : ContainerId) (point : Point) → lists_use m id point ≡ true → In id (uses_listed point)
unfolding lists_use uses_listed
listed_by m id (Commit manifest content text chunks bytes fresh fresh_bytes uses) does = container_in id uses (and_parts (same_manifest m manifest) (has_container id uses) does).1
listed_by m id _ does = absurd (false≢true does)

-- a container that some entry uses
record IsUsed (id : ContainerId) (past : List Entry) : Type 0 where
  pub entry : Entry
  pub there : In entry past
  pub listed : In id (uses_listed entry.point)

use_of_any : (ms : List ManifestId) (past : List Entry) (id : ContainerId) → is_use_of_any ms past id ≡ true → IsUsed id past
unfolding is_use_of_any has
use_of_any ms past id some =
    let one = any_in (λ (m : ManifestId). list_any (λ (e : Entry). lists_use m id e.point) past) ms some in
    let at = any_in (λ (e : Entry). lists_use one.0 id e.point) past one.2 in
    record { entry = at.0; there = at.1; listed = listed_by one.0 id at.0.point at.2 }

use_small : (s : ℕ) (ms : List ManifestId) (past : List Entry) (id : ContainerId) → ((c : ContainerId) → IsUsed c past → c.ordinal < 4294967295) → is_use s ms past id ≡ true → id.ordinal < 4294967295
unfolding is_use
use_small s ms past id older use_ = elim (or_cases (eqb id.session s && ltb id.ordinal 4294967295) (is_use_of_any ms past id) use_) [
  | inl own ↦ ltb-true id.ordinal 4294967295 (and_parts (eqb id.session s) (ltb id.ordinal 4294967295) own).1
  | inr other ↦ older id (use_of_any ms past id other)
]

newest_small : (rules : Rules) (past : List Entry) (author : ℕ) (point : Point) (id : ContainerId) → ((c : ContainerId) → IsUsed c past → c.ordinal < 4294967295) → is_allowed rules past author point ≡ true → In id (uses_listed point) → id.ordinal < 4294967295
unfolding uses_listed are_uses
newest_small rules past author (Commit manifest content text chunks bytes fresh fresh_bytes uses) id older allowed listed =
    let said = commit_says rules past author manifest content text chunks bytes fresh fresh_bytes uses allowed in
    let each = and_parts _ _ (and_parts (are_ascending uses) _ said.may_use).1 in
    use_small manifest.session (pending_champions manifest.session past) past id older (all_in (is_use manifest.session (pending_champions manifest.session past) past) id uses listed each.1)
newest_small rules past author _ id older allowed listed = absurd listed

used_small : (rules : Rules) (past : List Entry) → is_legal rules past ≡ true → (entry : Entry) → In entry past → (id : ContainerId) → In id (uses_listed entry.point) → id.ordinal < 4294967295
used_small rules [] legal entry there id listed = absurd there
used_small rules (e ∷ past) legal entry (inl same) id listed =
    let now = step rules e past legal in
    newest_small rules past e.author e.point id (λ c at. used_small rules past now.legal at.entry at.there c at.listed) now.allowed (subst (λ (x : Entry). In id (uses_listed x.point)) (sym same) listed)
used_small rules (e ∷ past) legal entry (inr older) id listed = used_small rules past (step rules e past legal).legal entry older id listed

own_listed : (s : ℕ) (id : ContainerId) (point : Point) → UsesOwn s id point → In id (uses_listed point)
unfolding uses_listed
own_listed s id (Commit manifest content text chunks bytes fresh fresh_bytes uses) use_ = in_Contains id uses use_.2
own_listed s id _ use_ = absurd use_

pub own_end_small : (rules : Rules) (s : ℕ) (past : List Entry) → is_legal rules past ≡ true → own_end s past ≤ 4294967295
own_end_small rules s past legal =
    own_end_least past s 4294967295 (λ entry id there use_. used_small rules past legal entry (in_Contains entry past there) id (own_listed s id entry.point use_))
