-- Entries that are taken in, one by one.
use Rattle.std.proofs.Common.{◌≡◌, ◌⊎◌, leb, ℕ, ◌+◌, ◌<◌, ◌≤◌, Bool, true, false, ◌&&◌, List, [], ◌∷◌, ◌++◌, length, take, get_or, reverse, Ok, Err, refl, sym, ap, ◌∙◌, subst, inl, inr, arith}
use Rattle.std.proofs.lemmas.Bool.{false_from_ne_true, and_parts, cases_Bool, leb-true, leb-false}
use Rattle.std.proofs.lemmas.List.{take_more, take_all, length-take, length-reverse, reverse-append}
use Rattle.journal_entry.specs.declared.entry.Entry.{Entry}
use Rattle.history.specs.declared.rules.Rules.{Rules}
use Rattle.history.specs.Sessions.{is_unfinished, is_reading, session_count, reading_count}
use Rattle.history.specs.Legal.{is_allowed, is_within, may_follow, is_legal}
use Rattle.history_laws.proofs.SessionLaws.{begun_below}
use Rattle.history_laws.proofs.BegunLaws.{looked_below}
use Rattle.store_core.specs.View.{StateView, past_of, rules_of, Adds}
use Rattle.store_core.specs.declared.fault.PointFault.{PointFault}
use Rattle.store_core.specs.declared.fault.PointFault.TheVariants.{Full, Memory}
use Rattle.store_core.specs.Answers.{AddAnswer}
use Rattle.store_core.specs.Replay.{IsFirstIllegal, TakeAnswer}
use Rattle.store_core.proofs.AllowLaws.{legal_short}

-- ---- what may follow

pub refuses : (rules : Rules) (entry : Entry) (past : List Entry) → is_allowed rules past entry.author entry.point ≡ false → may_follow rules entry past ≡ false
unfolding may_follow
refuses rules entry past refused = ap (λ b. b && is_within rules.limits (entry ∷ past)) refused

none_fits : (a b : Bool) → b ≡ false → (a && b) ≡ false
none_fits true b over = over
none_fits false b over = refl

pub overfills : (rules : Rules) (entry : Entry) (past : List Entry) → is_within rules.limits (entry ∷ past) ≡ false → may_follow rules entry past ≡ false
unfolding may_follow
overfills rules entry past over = none_fits (is_allowed rules past entry.author entry.point) _ over

-- a refusal that the limits gave
pub is_over : (old new : StateView) (entry : Entry) (fault : PointFault) → AddAnswer old new entry (Err fault) → fault ≡ Full → is_within old.limits (entry ∷ past_of old) ≡ false
is_over old new entry Full answer is = answer.over
is_over old new entry Memory answer is = absurd (cc)

-- ---- the first entries

-- a state of the first entries
abbrev pub first : StateView → ℕ → StateView
first asked n = record asked { entries = take n asked.entries }

pub first_more : (asked old new : StateView) (n : ℕ) (entry : Entry) → old ≡ first asked n → n < length asked.entries → entry ≡ get_or asked.entries n entry → Adds old new entry → new ≡ first asked (n + 1)
first_more asked old new n entry is below at adds =
    adds.added
    ∙ ap (λ (view : StateView). record view { entries = view.entries ++ entry ∷ [] }) is
    ∙ ap (λ (entries : List Entry). record asked { entries = entries }) (ap (λ e. take n asked.entries ++ e ∷ []) at ∙ sym (take_more asked.entries n entry below))

past_more : (entries : List Entry) (n : ℕ) (entry : Entry) → n < length entries → entry ≡ get_or entries n entry → reverse (take (n + 1) entries) ≡ entry ∷ reverse (take n entries)
past_more entries n entry below at =
    ap reverse (take_more entries n entry below ∙ sym (ap (λ e. take n entries ++ e ∷ []) at)) ∙ reverse-append (take n entries) (entry ∷ [])

illegal_with : (rules : Rules) (entry : Entry) (past : List Entry) → may_follow rules entry past ≡ false → is_legal rules (entry ∷ past) ≡ false
unfolding is_legal
illegal_with rules entry past refused = none_fits (is_legal rules past) _ refused

pub first_refused : (standings champions : ℕ) (asked old : StateView) (n : ℕ) (entry : Entry) → old ≡ first asked n → n < length asked.entries → entry ≡ get_or asked.entries n entry
    → is_legal (rules_of standings champions old) (past_of old) ≡ true → may_follow (rules_of standings champions old) entry (past_of old) ≡ false → IsFirstIllegal standings champions asked n
first_refused standings champions asked old n entry is below at legal refused =
    let rules = rules_of standings champions asked in
    let last = subst (λ (view : StateView). may_follow (rules_of standings champions view) entry (past_of view) ≡ false) is refused in
    record {
      within = below;
      legal = subst (λ (view : StateView). is_legal (rules_of standings champions view) (past_of view) ≡ true) is legal;
      illegal = ap (is_legal rules) (past_more asked.entries n entry below at) ∙ illegal_with rules entry (reverse (take n asked.entries)) last;
    }

pub all_first : (asked state : StateView) (n : ℕ) → state ≡ first asked n → n ≡ length asked.entries → state ≡ asked
all_first asked state n is all = is ∙ ap (λ (entries : List Entry). record asked { entries = entries }) (take_all n asked.entries (omega (arith, all)))

pub first_length : (asked state : StateView) (n : ℕ) → state ≡ first asked n → n < length asked.entries → length state.entries ≡ n
first_length asked state n is below =
    let taken = length-take n asked.entries in
    let same = ap (λ (view : StateView). length view.entries) is in
    omega (arith, taken, same, below)

pub few_taken : (standings champions : ℕ) (state : StateView) → is_legal (rules_of standings champions state) (past_of state) ≡ true → length state.entries ≤ state.limits.entries
few_taken standings champions state legal =
    let few = legal_short (rules_of standings champions state) (past_of state) legal in
    let same = length-reverse state.entries in
    omega (arith, few, same)

-- an entry that was not taken in
pub is_refused : (standings champions : ℕ) (old new : StateView) (entry : Entry) (taken : Bool) → TakeAnswer standings champions old new entry (Ok taken) → taken ≡ false → may_follow (rules_of standings champions old) entry (past_of old) ≡ false
is_refused standings champions old new entry true answer is = absurd (cc)
is_refused standings champions old new entry false answer is = answer

-- ---- sessions and readings that began

pub not_begun : (rules : Rules) (session : ℕ) (past : List Entry) → is_legal rules past ≡ true → session_count past ≤ session → is_unfinished session past ≡ false
unfolding is_unfinished
not_begun rules session past legal above =
    false_from_ne_true _ (λ is. let below = begun_below rules session past legal (and_parts _ _ is).0 in omega (arith, above, below))

pub not_looked : (rules : Rules) (reader : ℕ) (past : List Entry) → is_legal rules past ≡ true → reading_count past ≤ reader → is_reading reader past ≡ false
unfolding is_reading
not_looked rules reader past legal above =
    false_from_ne_true _ (λ is. let below = looked_below rules reader past legal (and_parts _ _ is).0 in omega (arith, above, below))

pub below_or : (n k : ℕ) → (n < k) ⊎ (k ≤ n)
below_or n k = elim (cases_Bool (leb k n)) [
  | inl is ↦ inr (leb-true k n is)
  | inr is ↦ inl (leb-false k n is)
]
