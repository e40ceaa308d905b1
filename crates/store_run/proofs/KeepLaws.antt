-- What is kept of a run in the journal.
use Rattle.std.proofs.Common.{◌≡◌, ℕ, suc, ◌+◌, ◌≤◌, Bool, true, leb, leb-true, arith, List, [], ◌∷◌, length, take, drop, All, refl, sym, subst, inl, inr, take-append-drop, lit≤}
use Rattle.std.specs.Prelude.{MatchResult, OnOk, OnErr, Ok, Err}
use Rattle.std.proofs.lemmas.List.{reverse-reverse, length-reverse}
use Rattle.std.proofs.lemmas.Bool.{and_parts}
use Rattle.ss_base.proofs.MemberLaws.{In, in_append_right, reverse_in, All-from_in}
use Rattle.journal_entry.specs.declared.entry.Entry.{Entry}
use Rattle.journal_entry.specs.Bounds.{IsWithinBounds}
use Rattle.journal_entry.specs.EntryText.{entries_text}
use Rattle.history.specs.declared.rules.Rules.{Rules}
use Rattle.history.specs.Legal.{is_allowed, unfinished_sessions, unfinished_readings, is_within, may_follow, is_legal}
use Rattle.history_laws.proofs.Allowed.{step}
use Rattle.history_laws.proofs.BoundLaws.{allowed_bounds}
use Rattle.outside.specs.Shelf.{AppendLeaves}
use Rattle.outside.specs.Views.{ShelfView, SinkView, Takes, TakesFront}
use Rattle.journal_file.specs.Adding.{with_entries, with_write}
use Rattle.journal_file.specs.Cause.{AppendCount}
use Rattle.journal_file.specs.Header.{journal_name}
use Rattle.store_core.specs.View.{StateView, past_of, rules_of}
use Rattle.store_run.specs.JobRun.{Kept, Printed, KeepAnswer, PrintAnswer}
use Rattle.store_run.proofs.StoreLaws.{same_view}

bounded_in : (rules : Rules) (past : List Entry) (entry : Entry) → rules.champions ≤ 255 → is_legal rules past ≡ true → In entry past → IsWithinBounds entry
bounded_in rules [] entry few legal there = absurd there
bounded_in rules (newest ∷ past) entry few legal (inl same) =
    subst IsWithinBounds same (allowed_bounds rules past newest.author newest.point few (step rules newest past legal).allowed)
bounded_in rules (newest ∷ past) entry few legal (inr there) = bounded_in rules past entry few (step rules newest past legal).legal there

drop_in : {X : Type 0} (x : X) (n : ℕ) (xs : List X) → In x (drop n xs) → In x xs
drop_in x n xs there = subst (In x) (take-append-drop n xs) (in_append_right x (take n xs) (drop n xs) there)

-- a legal history has no more entries than its limits allow
legal_short : (rules : Rules) (past : List Entry) → is_legal rules past ≡ true → length past ≤ rules.limits.entries
unfolding is_legal may_follow is_within
legal_short rules [] legal = omega arith
legal_short rules (entry ∷ past) legal =
    let most : Bool = leb (suc (length past) + unfinished_sessions (entry ∷ past) + unfinished_readings (entry ∷ past)) rules.limits.entries in
    let within = and_parts (is_allowed rules past entry.author entry.point) (is_within rules.limits (entry ∷ past)) (and_parts (is_legal rules past) _ legal).1 in
    let few = leb-true _ _ (and_parts most _ within.1).0 in
    omega (arith, few)

pub few_entries : (state : StateView) → is_legal (rules_of 8 8 state) (past_of state) ≡ true → length state.entries ≤ state.limits.entries
few_entries state legal = subst (λ (n : ℕ). n ≤ state.limits.entries) (length-reverse state.entries) (legal_short (rules_of 8 8 state) (past_of state) legal)

-- the entries of a state from a number on can stand in a journal
pub bounded_from : (state : StateView) (first : ℕ) → is_legal (rules_of 8 8 state) (past_of state) ≡ true → All IsWithinBounds (drop first state.entries)
bounded_from state first legal =
    All-from_in IsWithinBounds (drop first state.entries)
    (λ entry there.
    bounded_in (rules_of 8 8 state) (past_of state) entry (lit≤ tt) legal
    (reverse_in entry (past_of state) (subst (In entry) (sym (reverse-reverse state.entries)) (drop_in entry first state.entries there))))

-- what an append did, as one equation
pub keeps_so : (before after : ShelfView) (entries : List Entry) (kept : Kept)
    → MatchResult kept (λ _. after.held ≡ with_entries before.held entries) (λ _. AppendLeaves before.held after.held journal_name (entries_text entries))
    → MatchResult kept (λ _. after.wrote ≡ with_write before.wrote entries) (λ _. after.wrote ≡ before.wrote)
    → after.gave ≡ before.gave → after.erased ≡ before.erased → after.reads ≡ before.reads → AppendCount kept before.faults after.faults
    → KeepAnswer before after entries kept
keeps_so before after entries (Ok done) held wrote gave erased reads count = same_view after (record before { held = with_entries before.held entries; wrote = with_write before.wrote entries }) held gave wrote erased reads count
keeps_so before after entries (Err fault) held wrote gave erased reads count = (held, same_view after (record before { held = after.held; faults = after.faults }) refl gave wrote erased reads refl)

-- what printing did
pub prints_so : (text : List ℕ) (sink sink' : SinkView) (printed : Printed) → OnOk printed (Takes sink sink' text) → OnErr printed (TakesFront sink sink' text) → PrintAnswer text sink sink' printed
prints_so text sink sink' (Ok done) ok err = ok
prints_so text sink sink' (Err trouble) ok err = err
