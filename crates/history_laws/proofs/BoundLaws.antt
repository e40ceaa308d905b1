-- What may be recorded has a text.
use Rattle.std.proofs.Common.{◌≡◌, ℕ, zero, suc, ◌≤◌, true, List, length, ap, inl, inr, arith}
use mathlib.Core.List.{map}
use Rattle.std.specs.List.{list_all}
use Rattle.std.proofs.lemmas.Bool.{and_parts, leb-true}
use Rattle.ss_base.specs.declared.ids.ContainerId.{ContainerId}
use Rattle.ss_base.specs.declared.ids.Standing.{Standing}
use Rattle.ss_base.specs.declared.name.Name.{Name}
use Rattle.ss_base.specs.Champions.{champions, uncovered}
use Rattle.journal_entry.specs.declared.entry.Entry.{Entry}
use Rattle.history.specs.declared.rules.Rules.{Rules}
use Rattle.journal_entry.specs.declared.entry.Point.{Point}
use Rattle.journal_entry.specs.declared.entry.Point.TheVariants.{Choose, Commit, Reclaim}
use Rattle.history.specs.Bounds.{PointIsWithinBounds}
use Rattle.history.specs.Sessions.{pending_champions}
use Rattle.history.specs.StandingList.{standing, champions_for}
use Rattle.history.specs.TotalsOf.{objects_named}
use Rattle.history.specs.Legal.{are_hooks, is_use, are_uses, is_allowed}
use Rattle.history.proofs.LegalLaws.{few_objects}
use Rattle.history_laws.proofs.Allowed.{choose_says, commit_says}
use Rattle.history_laws.proofs.ChampionLaws.{round, no_rounds}

few_champions : (n : ℕ) (lists : List (List Standing)) → length (champions n lists) ≤ n
few_champions zero lists = rw (no_rounds lists) (omega arith)
few_champions (suc n) lists = elim (round n lists) [
  | inl none ↦ rw none (omega arith)
  | inr (s, first, more) ↦ let rest = few_champions n (uncovered s.id lists) in rw more (omega (arith, rest))
]

few_hooks : (bits : ℕ) (hooks : List Name) → are_hooks bits hooks ≡ true → length hooks ≤ 4096
unfolding are_hooks
few_hooks bits hooks e =
    let parts = and_parts _ _ e in
    leb-true _ _ (and_parts _ _ parts.1).0

few_uses : (s : ℕ) (past : List Entry) (uses : List ContainerId) → are_uses s past uses ≡ true → length uses ≤ 4096
unfolding are_uses
few_uses s past uses e =
    let each = list_all (is_use s (pending_champions s past) past) uses in
    let parts = and_parts _ _ e in
    leb-true _ _ (and_parts _ _ parts.1).0

pub allowed_bounds : (rules : Rules) (past : List Entry) (author : ℕ) (point : Point) → rules.champions ≤ 255 → is_allowed rules past author point ≡ true → PointIsWithinBounds point
unfolding champions_for objects_named
allowed_bounds rules past author (Choose s hooks champions) few allowed =
    let said = choose_says rules past author s hooks champions allowed in
    let count = few_champions rules.champions (map (λ hook. standing rules.standings hook past) hooks) in
    (few_hooks rules.bits hooks said.valid, omega (arith, count, few, ap length said.greedy))
allowed_bounds rules past author (Commit id content text chunks bytes fresh fresh_bytes uses) few allowed =
    let said = commit_says rules past author id content text chunks bytes fresh fresh_bytes uses allowed in
    (said.counted, few_uses id.session past uses said.may_use)
allowed_bounds rules past author (Reclaim objects) few allowed = few_objects rules past author (Reclaim objects) allowed
allowed_bounds rules past author _ few allowed = tt
