-- At most one session holds a name.
use Rattle.std.proofs.Common.{◌≡◌, ◌⊎◌, ℕ, ◌<◌, ◌≤◌, Bool, true, false, ◌||◌, cond, List, [], ◌∷◌, refl, sym, ap, ◌∙◌, subst, inl, inr, arith, Option, Some, None}
use Rattle.std.specs.List.{list_any, count_by}
use Rattle.std.specs.Str.{bytes_eq}
use Rattle.std.specs.Cmp.Lexicographic.{bytes_decides}
use Rattle.std.proofs.lemmas.Bool.{both_ways, or_cases, or_left, or_right, false_from_ne_true, cases_Bool, eq-eqb}
use Rattle.journal_entry.specs.declared.entry.Entry.{Entry}
use Rattle.history.specs.declared.rules.Rules.{Rules}
use Rattle.journal_entry.specs.declared.entry.Point.{Point}
use Rattle.journal_entry.specs.declared.entry.Point.TheVariants.{Begin}
use Rattle.history.specs.Sessions.{is_number, session_begun, session_count, session_under, sessions_under, begins, finishes, closes, deletes, has, is_unfinished, is_retained, is_held, retained}
use Rattle.history.specs.Legal.{is_legal, is_allowed}
use Rattle.ss_base.proofs.MemberLaws.{In, none_in, none_from, filter_map_in, count_one, count_other, count_at_most, count_none, find_only}
use Rattle.history_laws.proofs.Allowed.{IsStep, step, finishes_open, begins_next, begin_says}
use Rattle.history_laws.proofs.SessionLaws.{has_cases, has_parts, has_from, unfinished_is, unfinished_from, retained_parts, retained_from, begun_below}

-- a session that reserved a name holds it
abbrev pub holds : List Entry → ℕ → Bool
holds past s = is_unfinished s past || is_retained s past

-- an entry that does not begin the session does not make it hold its name again
pub holds_before : (rules : Rules) (s : ℕ) (entry : Entry) (past : List Entry) → IsStep rules entry past → begins s entry.point ≡ false → holds (entry ∷ past) s ≡ true → holds past s ≡ true
holds_before rules s entry past now other held = elim (or_cases _ _ held) [
  | inl open_after ↦
      let parts = unfinished_is _ _ open_after in
      or_left (is_unfinished s past) (is_retained s past) (unfinished_from s past (elim (has_cases (begins s) entry past parts.0) [
        | inl here ↦ absurd (both_ways _ other here)
        | inr older ↦ older
      ]) (has_parts (closes s) entry past parts.1).1)
  | inr kept ↦
      let parts = retained_parts _ _ kept in
      elim (has_cases (finishes s) entry past parts.0) [
        | inl here ↦ or_left (is_unfinished s past) (is_retained s past) (finishes_open rules past entry.author s entry.point now.allowed here)
        | inr older ↦ or_right (is_unfinished s past) (is_retained s past) (retained_from s past older (has_parts (deletes s) entry past parts.1).1)
      ]
]

chosen_some : (b : Bool) (o : Option ℕ) (s : ℕ) → cond b o None ≡ Some s → (b ≡ true) × (o ≡ Some s)
chosen_some true o s e = (refl, e)
chosen_some false o s e = absurd (cc)

under_begins : (name : List ℕ) (s : ℕ) (point : Point) → session_under name point ≡ Some s → begins s point ≡ true
unfolding session_under begins session_begun
under_begins name s (Begin other session) e =
    let is : session ≡ Some s = (chosen_some (bytes_eq name other) session s e).1 in
    ap (is_number s) is ∙ eq-eqb s s refl
under_begins name s _ e = absurd (cc)

pub in_under : (name : List ℕ) (s : ℕ) (past : List Entry) → In s (sessions_under name past) → has (begins s) past ≡ true
unfolding sessions_under
in_under name s past h =
    let found = filter_map_in (λ (entry : Entry). session_under name entry.point) s past h in
    has_from (begins s) found.0 past found.1 (under_begins name s found.0.point found.2)

pub under_free : (rules : Rules) (past : List Entry) (author : ℕ) (name : List ℕ) (s : ℕ) (point : Point) → is_allowed rules past author point ≡ true → session_under name point ≡ Some s → is_held name past ≡ false
unfolding session_under
under_free rules past author name s (Begin other None) allowed e = absurd (let is = (chosen_some (bytes_eq name other) None s e).1 in cc)
under_free rules past author name s (Begin other (Some t)) allowed e =
    let same : name ≡ other = (bytes_decides name other).0 (chosen_some (bytes_eq name other) (Some t) s e).0 in
    subst (λ n. is_held n past ≡ false) (sym same) (begin_says rules past author other t allowed).free
under_free rules past author name s _ allowed e = absurd (cc)

pub sessions_none : (name : List ℕ) → sessions_under name [] ≡ []
unfolding sessions_under
sessions_none name = refl

-- the sessions under a name after an entry that begins one, and after another
pub sessions_one : (name : List ℕ) (s : ℕ) (entry : Entry) (past : List Entry) → session_under name entry.point ≡ Some s → sessions_under name (entry ∷ past) ≡ s ∷ sessions_under name past
unfolding sessions_under
sessions_one name s entry past e = rw e refl

pub sessions_same : (name : List ℕ) (entry : Entry) (past : List Entry) → session_under name entry.point ≡ None → sessions_under name (entry ∷ past) ≡ sessions_under name past
unfolding sessions_under
sessions_same name entry past e = rw e refl

pub cases_Option : (o : Option ℕ) → (o ≡ None) ⊎ ((s : ℕ) × (o ≡ Some s))
cases_Option None = inl refl
cases_Option (Some s) = inr (s, refl)

pub free_none : (name : List ℕ) (past : List Entry) → is_held name past ≡ false → list_any (holds past) (sessions_under name past) ≡ false
unfolding is_held
free_none name past free = free

-- an entry begins no session that began before
pub begun_once : (rules : Rules) (s : ℕ) (entry : Entry) (past : List Entry) → IsStep rules entry past → has (begins s) past ≡ true → begins s entry.point ≡ false
begun_once rules s entry past now begun = false_from_ne_true _ (λ here.
    let next : s ≡ session_count past = begins_next rules past entry.author s entry.point now.allowed here in
    let below : s < session_count past = begun_below rules s past now.legal begun in
    absurd (omega (arith, next, below)))

pub held_once : (rules : Rules) (name : List ℕ) (past : List Entry) → is_legal rules past ≡ true → count_by (holds past) (sessions_under name past) ≤ 1
held_once rules name [] legal = rw (sessions_none name) (omega arith)
held_once rules name (entry ∷ past) legal =
    let now = step rules entry past legal in
    let earlier : (s : ℕ) → In s (sessions_under name past) → holds (entry ∷ past) s ≡ true → holds past s ≡ true =
    λ s h held. holds_before rules s entry past now (begun_once rules s entry past now (in_under name s past h)) held in
    elim (cases_Option (session_under name entry.point)) [
      | inl other ↦
          let fewer = count_at_most (holds (entry ∷ past)) (holds past) (sessions_under name past) earlier in
          let before = held_once rules name past now.legal in
          rw (sessions_same name entry past other) (omega (arith, fewer, before))
      | inr (s, here) ↦
          let free = free_none name past (under_free rules past entry.author name s entry.point now.allowed here) in
          let none : list_any (holds (entry ∷ past)) (sessions_under name past) ≡ false =
          none_from (holds (entry ∷ past)) (sessions_under name past) (λ t h. false_from_ne_true _ (λ held.
          both_ways _ (none_in (holds past) t (sessions_under name past) h free) (earlier t h held))) in
          let zero_left = count_none (holds (entry ∷ past)) (sessions_under name past) none in
          rw (sessions_one name s entry past here) (elim (cases_Bool (holds (entry ∷ past) s)) [
            | inl held ↦ let more = count_one (holds (entry ∷ past)) s (sessions_under name past) held in omega (arith, more, zero_left)
            | inr free_now ↦ let more = count_other (holds (entry ∷ past)) s (sessions_under name past) free_now in omega (arith, more, zero_left)
          ])
    ]

pub retained_once : (rules : Rules) (name : List ℕ) (past : List Entry) → is_legal rules past ≡ true → count_by (λ session. is_retained session past) (sessions_under name past) ≤ 1
retained_once rules name past legal =
    let fewer = count_at_most (λ session. is_retained session past) (holds past) (sessions_under name past) (λ s h kept. or_right (is_unfinished s past) (is_retained s past) kept) in
    let one = held_once rules name past legal in
    omega (arith, fewer, one)

pub retained_found : (rules : Rules) (name : List ℕ) (s : ℕ) (past : List Entry) → is_legal rules past ≡ true → In s (sessions_under name past) → is_retained s past ≡ true → retained name past ≡ Some s
unfolding retained
retained_found rules name s past legal h kept = find_only (λ session. is_retained session past) s (sessions_under name past) (retained_once rules name past legal) h kept
