-- What the champions of a choice list, by the numbers of their Commits.
use Rattle.std.proofs.Common.{◌≡◌, ℕ, ◌<◌, ◌≤◌, Bool, true, false, ◌&&◌, ◌||◌, ◌==◌, nat_lt, nat_le, List, [], ◌∷◌, length, get_or, reverse, slice_get, Option, Some, None, refl, sym, ap, ◌∙◌, subst, inl, inr, arith}
use Rattle.std.specs.List.{list_any, list_all, count_by}
use Rattle.std.specs.Option.{option_map_or, option_and_then}
use Rattle.std.proofs.lemmas.Bool.{cases_Bool}
use Rattle.std.proofs.lemmas.List.{reverse-reverse}
use Rattle.ss_base.specs.declared.ids.ContainerId.{ContainerId}
use Rattle.ss_base.specs.declared.ids.ManifestId.{ManifestId}
use Rattle.ss_base.specs.Ids.{has_container}
use Rattle.ss_base.specs.Order.{are_ascending}
use Rattle.ss_base.proofs.MemberLaws.{In, count_one, count_other, count_none}
use Rattle.ss_base.proofs.GetLaws.{reverse_cases}
use Rattle.journal_entry.specs.Bounds.{most_uses}
use Rattle.journal_entry.specs.declared.entry.Entry.{Entry}
use Rattle.pins_counts.specs.Counts.{one_if}
use Rattle.history.specs.declared.rules.Rules.{Rules}
use Rattle.history.specs.Need.{commits_manifest}
use Rattle.history.specs.Sessions.{has, is_pending, pending_champions}
use Rattle.history.specs.Legal.{is_legal, lists_use, is_use_of_any, is_use, are_uses}
use Rattle.history_laws.specs.EntryNumbers.{entry_at, uses_listed, manifest_of, committed_at, CommitThese, last_champions}
use Rattle.history_counts.proofs.StepLaws.{lists_once}
use Rattle.store_core.proofs.KeptLaws.{get_some, get_past, says_commit, none_is_some, committed_of}
use Rattle.store_core.proofs.PinLaws.{pending_is_last}
use Rattle.store_core.specs.Uses.{uses_at, may_lie_in, are_listed}

-- the containers that an entry lists, where there is one
abbrev uses_of : Option Entry → List ContainerId
uses_of found = option_map_or (λ (entry : Entry). uses_listed entry.point) found []

uses_at_is : (entries : List Entry) (n : ℕ) (found : Option Entry) → slice_get entries n ≡ found → uses_at (reverse entries) n ≡ uses_of found
unfolding uses_at entry_at
uses_at_is entries n found is = rw (reverse-reverse entries, is) refl

pub uses_at_some : (entries : List Entry) (n : ℕ) (entry : Entry) → n < length entries → entry ≡ get_or entries n entry → uses_at (reverse entries) n ≡ uses_listed entry.point
uses_at_some entries n entry below is = uses_at_is entries n (Some entry) (get_some entries n entry below is)

pub uses_at_none : (entries : List Entry) (n : ℕ) → length entries ≤ n → uses_at (reverse entries) n ≡ []
uses_at_none entries n past = uses_at_is entries n None (get_past entries n past)

-- ---- a manifest has one Commit

uncounted : {X : Type 0} (p : X → Bool) (xs : List X) → count_by p xs ≡ 0 → list_any p xs ≡ false
uncounted p [] none = refl
uncounted p (x ∷ xs) none = elim (cases_Bool (p x)) [
  | inl here ↦ absurd (let more = count_one p x xs here in omega (arith, none, more))
  | inr other ↦ ap (λ b. b || list_any p xs) other ∙ uncounted p xs (sym (count_other p x xs other) ∙ none)
]

counted : {X : Type 0} (p : X → Bool) (xs : List X) (b : Bool) → count_by p xs ≡ one_if b → list_any p xs ≡ b
counted p xs true one = elim (cases_Bool (list_any p xs)) [
  | inl some ↦ some
  | inr none ↦ absurd (let few = count_none p xs none in omega (arith, one, few))
]
counted p xs false none = uncounted p xs none

listed_there : (rules : Rules) (id : ManifestId) (c : ContainerId) (entry : Entry) (past : List Entry) → is_legal rules past ≡ true → In entry past → commits_manifest id entry.point ≡ true → has (lists_use id c) past ≡ has_container c (uses_listed entry.point)
unfolding has
listed_there rules id c entry past legal h does =
    counted (λ (e : Entry). lists_use id c e.point) past (has_container c (uses_listed entry.point)) (lists_once rules id c entry past legal h does)

entry_in : (past : List Entry) (n : ℕ) (entry : Entry) → slice_get (reverse past) n ≡ Some entry → In entry past
entry_in [] n entry is = absurd (cc)
entry_in (x ∷ past) n entry is = elim (reverse_cases entry x past n is) [
  | inl older ↦ inr (entry_in past n entry older)
  | inr last ↦ inl last.1
]

one_at : (rules : Rules) (id : ManifestId) (c : ContainerId) (past : List Entry) (n : ℕ) (o : Option Entry) → is_legal rules past ≡ true → entry_at n past ≡ o → option_and_then (λ (entry : Entry). manifest_of entry.point) o ≡ Some id → has_container c (uses_of o) ≡ has (lists_use id c) past
unfolding entry_at
one_at rules id c past n None legal there at = absurd (none_is_some at)
one_at rules id c past n (Some entry) legal there at =
    sym (listed_there rules id c entry past legal (entry_in past n entry there) (says_commit id entry.point at))

one_listed : (rules : Rules) (id : ManifestId) (c : ContainerId) (past : List Entry) (n : ℕ) → is_legal rules past ≡ true → committed_at past n ≡ Some id → has_container c (uses_at past n) ≡ has (lists_use id c) past
unfolding uses_at
one_listed rules id c past n legal at =
    one_at rules id c past n (entry_at n past) legal refl (sym (committed_of past n (entry_at n past) refl) ∙ at)

-- ---- what a session with a pending choice may use

any_listed : (rules : Rules) (past : List Entry) (c : ContainerId) (numbers : List ℕ) (ids : List ManifestId) → is_legal rules past ≡ true → CommitThese numbers ids past → list_any (λ n. has_container c (uses_at past n)) numbers ≡ is_use_of_any ids past c
unfolding CommitThese is_use_of_any
any_listed rules past c [] [] legal these = refl
any_listed rules past c [] (id ∷ ids) legal these = absurd (cc)
any_listed rules past c (n ∷ numbers) [] legal these = absurd (cc)
any_listed rules past c (n ∷ numbers) (id ∷ ids) legal these =
    let at : committed_at past n ≡ Some id = cc in
    ap (λ b. b || list_any (λ k. has_container c (uses_at past k)) numbers) (one_listed rules id c past n legal at)
    ∙ ap (λ b. has (lists_use id c) past || b) (any_listed rules past c numbers ids legal (cc))

all_alike : {X : Type 0} (p q : X → Bool) (xs : List X) → ((x : X) → p x ≡ q x) → list_all p xs ≡ list_all q xs
all_alike p q [] same = refl
all_alike p q (x ∷ xs) same = ap (λ b. b && list_all p xs) (same x) ∙ ap (λ b. q x && b) (all_alike p q xs same)

pub uses_are : (rules : Rules) (session : ℕ) (past : List Entry) (numbers : List ℕ) (uses : List ContainerId) → is_legal rules past ≡ true → is_pending session past ≡ true → CommitThese numbers (last_champions session past) past → are_listed session numbers past uses ≡ are_uses session past uses
unfolding are_uses is_use may_lie_in
uses_are rules session past numbers uses legal waiting these =
    let pinned = subst (λ (ids : List ManifestId). CommitThese numbers ids past) (pending_is_last session past waiting) these in
    ap (λ all. are_ascending uses && (nat_le (length uses) most_uses && all))
    (all_alike (may_lie_in session numbers past) (is_use session (pending_champions session past) past) uses
    (λ id. ap (λ b. ((id.session == session) && nat_lt id.ordinal 4294967295) || b) (any_listed rules past id numbers _ legal pinned)))
