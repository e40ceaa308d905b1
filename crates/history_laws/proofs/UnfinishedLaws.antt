-- How the numbers of unfinished sessions and readings change with an entry of a legal history.
use Rattle.std.proofs.Common.{◌≡◌, ℕ, ◌+◌, ◌≤◌, Bool, true, false, not, ◌&&◌, ◌||◌, eqb, cond, List, [], ◌∷◌, Option, Some, None, refl, sym, ap, ◌∙◌, subst, inl, inr, arith, eqb-true}
use Rattle.std.specs.List.{count_by}
use Rattle.std.specs.Option.{option_map, option_map_or}
use Rattle.std.proofs.lemmas.Bool.{cases_Bool, false≢true, both_ways, and_parts, or_left, or_right, and_from, and_right, not-true, not_from_true, not_from_false, false_from_ne_true, eq-eqb}
use Rattle.journal_entry.specs.declared.entry.Entry.{Entry}
use Rattle.journal_entry.specs.declared.entry.Seen.{Seen}
use Rattle.journal_entry.specs.declared.entry.Point.{Point}
use Rattle.journal_entry.specs.declared.entry.Point.TheVariants.{Begin, Finish, Abort, Look, Done}
use Rattle.history.specs.declared.rules.Rules.{Rules}
use Rattle.history.specs.Sessions.{is_number, session_begun, session_count, begins, finishes, aborts, closes, has, is_unfinished, reading_begun, reading_count, looks, ends, is_reading}
use Rattle.history.specs.Legal.{is_allowed, begins_unfinished, looks_unfinished, unfinished_sessions, unfinished_readings, is_legal}
use Rattle.ss_base.proofs.MemberLaws.{In, any_in, count_one, count_other, count_none}
use Rattle.history_laws.proofs.Allowed.{step, closes_open, begins_next}
use Rattle.history_laws.proofs.SessionLaws.{has_same, has_cases, has_now, has_older, has_none, unfinished_is, unfinished_from, closed_not_unfinished, begun_below}
use Rattle.history_laws.proofs.BegunLaws.{begun_once, looked_once, looks_next, looked_below}
use Rattle.history_laws.proofs.MovedLaws.{IsMoved, turned, sum_same, count_moved, count_level}

-- ---- how many an entry begins and ends

-- how many sessions an entry begins: 1 where a Begin has one
abbrev pub begins_of : Point → ℕ
begins_of (Begin name (Some session)) = 1
begins_of _ = 0

-- how many sessions an entry closes: 1 for a Finish or an Abort
abbrev pub closes_of : Point → ℕ
closes_of (Finish session containers) = 1
closes_of (Abort session containers texts) = 1
closes_of _ = 0

-- how many readings an entry begins: 1 where a Look has one
abbrev pub looks_of : Point → ℕ
looks_of (Look name (Some seen)) = 1
looks_of _ = 0

-- how many readings an entry ends: 1 for a Done
abbrev pub ends_of : Point → ℕ
ends_of (Done reader) = 1
ends_of _ = 0

-- ---- what an entry does

-- an entry that begins this session and closes none
record IsBegin (s : ℕ) (point : Point) : Type 0 where
  pub begun : session_begun point ≡ Some s
  pub closed : (t : ℕ) → closes t point ≡ false

-- an entry that closes this session and begins none
record IsClose (s : ℕ) (point : Point) : Type 0 where
  pub begun : session_begun point ≡ None
  pub here : closes s point ≡ true
  pub others : (t : ℕ) → eqb s t ≡ false → closes t point ≡ false

-- an entry that begins and closes none
record IsNeither (point : Point) : Type 0 where
  pub begun : session_begun point ≡ None
  pub closed : (t : ℕ) → closes t point ≡ false

data SessionStep (point : Point) : Type 0 where
  begin_step : (s : ℕ) → IsBegin s point → begins_of point ≡ 1 → closes_of point ≡ 0 → SessionStep point
  close_step : (s : ℕ) → IsClose s point → begins_of point ≡ 0 → closes_of point ≡ 1 → SessionStep point
  neither_step : IsNeither point → begins_of point ≡ 0 → closes_of point ≡ 0 → SessionStep point

session_step : (point : Point) → SessionStep point
unfolding session_begun closes finishes aborts
session_step (Begin name (Some s)) = begin_step s (record { begun = refl; closed = λ t. refl }) refl refl
session_step (Begin name None) = neither_step (record { begun = refl; closed = λ t. refl }) refl refl
session_step (Finish s containers) =
    close_step s (record { begun = refl; here = or_left (eqb s s) false (eq-eqb s s refl); others = λ t other. ap (λ b. b || false) (turned s t other) }) refl refl
session_step (Abort s containers texts) =
    close_step s (record { begun = refl; here = or_right false (eqb s s) (eq-eqb s s refl); others = λ t other. turned s t other }) refl refl
session_step _ = neither_step (record { begun = refl; closed = λ t. refl }) refl refl

-- ---- sessions

unfinished_with : (t : ℕ) (entry : Entry) (past : List Entry) → begins t entry.point ≡ false → closes t entry.point ≡ false → is_unfinished t (entry ∷ past) ≡ is_unfinished t past
unfolding is_unfinished
unfinished_with t entry past unbegun unclosed = λ i. has_same (begins t) entry past unbegun i && not (has_same (closes t) entry past unclosed i)

some_count : {X : Type 0} (p : X → Bool) (x : X) (xs : List X) → In x xs → p x ≡ true → 1 ≤ count_by p xs
some_count p x [] h e = absurd h
some_count p x (y ∷ ys) (inl same) e = let here = count_one p y ys (ap p same ∙ e) in omega (arith, here)
some_count p x (y ∷ ys) (inr later) e =
    let rest : 1 ≤ count_by p ys = some_count p x ys later e in
    elim (cases_Bool (p y)) [
      | inl passes ↦ let more = count_one p y ys passes in omega (arith, rest, more)
      | inr fails ↦ let more = count_other p y ys fails in omega (arith, rest, more)
    ]

-- a session that began in these entries began once
pub once : (rules : Rules) (s : ℕ) (past : List Entry) → is_legal rules past ≡ true → has (begins s) past ≡ true → count_by (λ (e : Entry). begins s e.point) past ≡ 1
unfolding has
once rules s past legal begun =
    let most = begun_once rules s past legal in
    let found = any_in (λ (e : Entry). begins s e.point) past begun in
    let least = some_count (λ (e : Entry). begins s e.point) found.0 past found.1 found.2 in
    omega (arith, most, least)

-- what is closed began
pub closed_begun : (rules : Rules) (s : ℕ) (past : List Entry) → is_legal rules past ≡ true → has (closes s) past ≡ true → has (begins s) past ≡ true
closed_begun rules s [] legal closed = absurd (both_ways _ (has_none (closes s)) closed)
closed_begun rules s (entry ∷ past) legal closed =
    let now = step rules entry past legal in
    has_older (begins s) entry past (elim (has_cases (closes s) entry past closed) [
      | inl here ↦ (unfinished_is s past (closes_open rules past entry.author s entry.point now.allowed here)).0
      | inr older ↦ closed_begun rules s past now.legal older
    ])

-- the number of the next session has not begun
pub next_unbegun : (rules : Rules) (s : ℕ) (past : List Entry) → is_legal rules past ≡ true → s ≡ session_count past → has (begins s) past ≡ false
next_unbegun rules s past legal next = false_from_ne_true _ (λ begun. let below = begun_below rules s past legal begun in absurd (omega (arith, below, next)))

never : (s : ℕ) (past : List Entry) → has (begins s) past ≡ false → count_by (λ (e : Entry). begins s e.point) past ≡ 0
unfolding has
never s past none = count_none (λ (e : Entry). begins s e.point) past none

unbegun_not_unfinished : (s : ℕ) (past : List Entry) → has (begins s) past ≡ false → is_unfinished s past ≡ false
unbegun_not_unfinished s past none = false_from_ne_true _ (λ open_now. both_ways _ none (unfinished_is s past open_now).0)

sessions_begin : (rules : Rules) (s : ℕ) (entry : Entry) (past : List Entry) → is_legal rules past ≡ true → is_allowed rules past entry.author entry.point ≡ true → IsBegin s entry.point → unfinished_sessions (entry ∷ past) ≡ unfinished_sessions past + 1
unfolding unfinished_sessions begins_unfinished begins
sessions_begin rules s entry past legal allowed begin =
    let here : begins s entry.point ≡ true = ap (is_number s) begin.begun ∙ eq-eqb s s refl in
    let unbegun = next_unbegun rules s past legal (begins_next rules past entry.author s entry.point allowed here) in
    let unclosed : has (closes s) past ≡ false = false_from_ne_true _ (λ closed. both_ways _ unbegun (closed_begun rules s past legal closed)) in
    let now : is_unfinished s (entry ∷ past) ≡ true =
    unfinished_from s (entry ∷ past) (has_now (begins s) entry past here) (has_same (closes s) entry past (begin.closed s) ∙ unclosed) in
    let moved : IsMoved (λ t. is_unfinished t past) (λ t. is_unfinished t (entry ∷ past)) s = record {
      without = unbegun_not_unfinished s past unbegun;
      within = now;
      others = λ t other. sym (unfinished_with t entry past (ap (is_number t) begin.begun ∙ turned s t other) (begin.closed t));
    } in
    let sums = count_moved (λ (e : Entry). session_begun e.point) (λ t. is_unfinished t past) (λ t. is_unfinished t (entry ∷ past)) s past moved in
    let none = never s past unbegun in
    let newest = count_one (λ (e : Entry). option_map_or (λ t. is_unfinished t (entry ∷ past)) (session_begun e.point) false) entry past (ap (λ o. option_map_or (λ t. is_unfinished t (entry ∷ past)) o false) begin.begun ∙ now) in
    omega (arith, sums, none, newest)

sessions_close : (rules : Rules) (s : ℕ) (entry : Entry) (past : List Entry) → is_legal rules past ≡ true → is_allowed rules past entry.author entry.point ≡ true → IsClose s entry.point → unfinished_sessions (entry ∷ past) + 1 ≡ unfinished_sessions past
unfolding unfinished_sessions begins_unfinished begins
sessions_close rules s entry past legal allowed close =
    let open_before = closes_open rules past entry.author s entry.point allowed close.here in
    let moved : IsMoved (λ t. is_unfinished t (entry ∷ past)) (λ t. is_unfinished t past) s = record {
      without = closed_not_unfinished s (entry ∷ past) (has_now (closes s) entry past close.here);
      within = open_before;
      others = λ t other. unfinished_with t entry past (ap (is_number t) close.begun) (close.others t other);
    } in
    let sums = count_moved (λ (e : Entry). session_begun e.point) (λ t. is_unfinished t (entry ∷ past)) (λ t. is_unfinished t past) s past moved in
    let one = once rules s past legal (unfinished_is s past open_before).0 in
    let newest = count_other (λ (e : Entry). option_map_or (λ t. is_unfinished t (entry ∷ past)) (session_begun e.point) false) entry past (ap (λ o. option_map_or (λ t. is_unfinished t (entry ∷ past)) o false) close.begun) in
    omega (arith, sums, one, newest)

sessions_neither : (entry : Entry) (past : List Entry) → IsNeither entry.point → unfinished_sessions (entry ∷ past) ≡ unfinished_sessions past
unfolding unfinished_sessions begins_unfinished begins
sessions_neither entry past neither =
    let sums = count_level (λ (e : Entry). session_begun e.point) (λ t. is_unfinished t (entry ∷ past)) (λ t. is_unfinished t past) past (λ t. unfinished_with t entry past (ap (is_number t) neither.begun) (neither.closed t)) in
    let newest = count_other (λ (e : Entry). option_map_or (λ t. is_unfinished t (entry ∷ past)) (session_begun e.point) false) entry past (ap (λ o. option_map_or (λ t. is_unfinished t (entry ∷ past)) o false) neither.begun) in
    omega (arith, sums, newest)

-- an entry that may follow adds the session that it begins, and takes away the one that it closes
pub sessions_more : (rules : Rules) (entry : Entry) (past : List Entry) → is_legal rules past ≡ true → is_allowed rules past entry.author entry.point ≡ true → unfinished_sessions (entry ∷ past) + closes_of entry.point ≡ unfinished_sessions past + begins_of entry.point
sessions_more rules entry past legal allowed = elim (session_step entry.point) [
  | begin_step s begin one none ↦ let law = sessions_begin rules s entry past legal allowed begin in omega (arith, law, one, none)
  | close_step s close none one ↦ let law = sessions_close rules s entry past legal allowed close in omega (arith, law, one, none)
  | neither_step neither none no_close ↦ let law = sessions_neither entry past neither in omega (arith, law, none, no_close)
]

-- ---- readings

-- an entry that begins this reading and ends none
record IsLook (seen : Seen) (point : Point) : Type 0 where
  pub begun : reading_begun point ≡ Some seen
  pub ended : (t : ℕ) → ends t point ≡ false

-- an entry that ends this reading and begins none
record IsDone (r : ℕ) (point : Point) : Type 0 where
  pub begun : reading_begun point ≡ None
  pub here : ends r point ≡ true
  pub others : (t : ℕ) → eqb r t ≡ false → ends t point ≡ false

-- an entry that begins and ends none
record IsNoReading (point : Point) : Type 0 where
  pub begun : reading_begun point ≡ None
  pub ended : (t : ℕ) → ends t point ≡ false

data ReadingStep (point : Point) : Type 0 where
  look_step : (seen : Seen) → IsLook seen point → looks_of point ≡ 1 → ends_of point ≡ 0 → ReadingStep point
  done_step : (r : ℕ) → IsDone r point → looks_of point ≡ 0 → ends_of point ≡ 1 → ReadingStep point
  other_step : IsNoReading point → looks_of point ≡ 0 → ends_of point ≡ 0 → ReadingStep point

reading_step : (point : Point) → ReadingStep point
unfolding reading_begun ends
reading_step (Look name (Some seen)) = look_step seen (record { begun = refl; ended = λ t. refl }) refl refl
reading_step (Look name None) = other_step (record { begun = refl; ended = λ t. refl }) refl refl
reading_step (Done r) = done_step r (record { begun = refl; here = eq-eqb r r refl; others = λ t other. turned r t other }) refl refl
reading_step _ = other_step (record { begun = refl; ended = λ t. refl }) refl refl

-- the number of the reading that an entry began
abbrev reader_begun : Entry → Option ℕ
reader_begun entry = option_map (λ (seen : Seen). seen.reader) (reading_begun entry.point)

reader_test : (q : ℕ → Bool) (o : Option Seen) → option_map_or (λ (seen : Seen). q seen.reader) o false ≡ option_map_or q (option_map (λ (seen : Seen). seen.reader) o) false
reader_test q None = refl
reader_test q (Some seen) = refl

-- the unfinished readings by their numbers
readings_are : (past before : List Entry) → count_by (λ (e : Entry). looks_unfinished past e.point) before ≡ count_by (λ (e : Entry). option_map_or (λ r. is_reading r past) (reader_begun e) false) before
unfolding looks_unfinished
readings_are past before =
    sum_same (λ (e : Entry). cond (looks_unfinished past e.point) 1 0) (λ (e : Entry). cond (option_map_or (λ r. is_reading r past) (reader_begun e) false) 1 0) before
    (λ (e : Entry). ap (λ b. cond b 1 0) (reader_test (λ r. is_reading r past) (reading_begun e.point)))

reading_parts : (r : ℕ) (past : List Entry) → is_reading r past ≡ true → (has (looks r) past ≡ true) × (has (ends r) past ≡ false)
unfolding is_reading
reading_parts r past open_now = let parts = and_parts (has (looks r) past) _ open_now in (parts.0, not-true (has (ends r) past) parts.1)

reading_from : (r : ℕ) (past : List Entry) → has (looks r) past ≡ true → has (ends r) past ≡ false → is_reading r past ≡ true
unfolding is_reading
reading_from r past looked open_still = and_from (has (looks r) past) _ looked (not_from_false _ open_still)

ended_not_reading : (r : ℕ) (past : List Entry) → has (ends r) past ≡ true → is_reading r past ≡ false
unfolding is_reading
ended_not_reading r past ended = and_right _ _ (not_from_true _ ended)

reading_with : (t : ℕ) (entry : Entry) (past : List Entry) → looks t entry.point ≡ false → ends t entry.point ≡ false → is_reading t (entry ∷ past) ≡ is_reading t past
unfolding is_reading
reading_with t entry past unlooked unended = λ i. has_same (looks t) entry past unlooked i && not (has_same (ends t) entry past unended i)

looks_at : (t : ℕ) (point : Point) (o : Option Seen) → reading_begun point ≡ o → looks t point ≡ is_number t (option_map (λ (seen : Seen). seen.reader) o)
unfolding looks
looks_at t point o e = ap (λ x. is_number t (option_map (λ (seen : Seen). seen.reader) x)) e

done_reading : (rules : Rules) (past : List Entry) (author r : ℕ) (point : Point) → is_allowed rules past author point ≡ true → ends r point ≡ true → is_reading r past ≡ true
unfolding is_allowed ends
done_reading rules past author r (Done t) allowed does = subst (λ n. is_reading n past ≡ true) (sym (eqb-true r t does)) (and_parts _ _ allowed).0
done_reading rules past author r _ allowed does = absurd (false≢true does)

-- what is ended began
pub ended_looked : (rules : Rules) (r : ℕ) (past : List Entry) → is_legal rules past ≡ true → has (ends r) past ≡ true → has (looks r) past ≡ true
ended_looked rules r [] legal ended = absurd (both_ways _ (has_none (ends r)) ended)
ended_looked rules r (entry ∷ past) legal ended =
    let now = step rules entry past legal in
    has_older (looks r) entry past (elim (has_cases (ends r) entry past ended) [
      | inl here ↦ (reading_parts r past (done_reading rules past entry.author r entry.point now.allowed here)).0
      | inr older ↦ ended_looked rules r past now.legal older
    ])

-- the number of the next reading has not begun
pub next_unlooked : (rules : Rules) (r : ℕ) (past : List Entry) → is_legal rules past ≡ true → r ≡ reading_count past → has (looks r) past ≡ false
next_unlooked rules r past legal next = false_from_ne_true _ (λ looked. let below = looked_below rules r past legal looked in absurd (omega (arith, below, next)))

looked_count : (rules : Rules) (r : ℕ) (past : List Entry) → is_legal rules past ≡ true → has (looks r) past ≡ true → count_by (λ (e : Entry). is_number r (reader_begun e)) past ≡ 1
unfolding has looks
looked_count rules r past legal looked =
    let most = looked_once rules r past legal in
    let found = any_in (λ (e : Entry). looks r e.point) past looked in
    let least = some_count (λ (e : Entry). looks r e.point) found.0 past found.1 found.2 in
    omega (arith, most, least)

unlooked_count : (r : ℕ) (past : List Entry) → has (looks r) past ≡ false → count_by (λ (e : Entry). is_number r (reader_begun e)) past ≡ 0
unfolding has looks
unlooked_count r past none = count_none (λ (e : Entry). looks r e.point) past none

-- what an entry itself adds to the unfinished readings
newest_reading : (entry : Entry) (past : List Entry) (o : Option Seen) → reading_begun entry.point ≡ o → looks_unfinished (entry ∷ past) entry.point ≡ option_map_or (λ (seen : Seen). is_reading seen.reader (entry ∷ past)) o false
unfolding looks_unfinished
newest_reading entry past o e = ap (λ x. option_map_or (λ (seen : Seen). is_reading seen.reader (entry ∷ past)) x false) e

readings_look : (rules : Rules) (seen : Seen) (entry : Entry) (past : List Entry) → is_legal rules past ≡ true → is_allowed rules past entry.author entry.point ≡ true → IsLook seen entry.point → unfinished_readings (entry ∷ past) ≡ unfinished_readings past + 1
unfolding unfinished_readings
readings_look rules seen entry past legal allowed look =
    let r = seen.reader in
    let here : looks r entry.point ≡ true = looks_at r entry.point (Some seen) look.begun ∙ eq-eqb r r refl in
    let unlooked = next_unlooked rules r past legal (looks_next rules past entry.author r entry.point allowed here) in
    let unended : has (ends r) past ≡ false = false_from_ne_true _ (λ ended. both_ways _ unlooked (ended_looked rules r past legal ended)) in
    let now : is_reading r (entry ∷ past) ≡ true =
    reading_from r (entry ∷ past) (has_now (looks r) entry past here) (has_same (ends r) entry past (look.ended r) ∙ unended) in
    let moved : IsMoved (λ t. is_reading t past) (λ t. is_reading t (entry ∷ past)) r = record {
      without = false_from_ne_true _ (λ open_now. both_ways _ unlooked (reading_parts r past open_now).0);
      within = now;
      others = λ t other. sym (reading_with t entry past (looks_at t entry.point (Some seen) look.begun ∙ turned r t other) (look.ended t));
    } in
    let sums = count_moved reader_begun (λ t. is_reading t past) (λ t. is_reading t (entry ∷ past)) r past moved in
    let none = unlooked_count r past unlooked in
    let before = readings_are past past in
    let after = readings_are (entry ∷ past) past in
    let newest = count_one (λ (e : Entry). looks_unfinished (entry ∷ past) e.point) entry past (newest_reading entry past (Some seen) look.begun ∙ now) in
    omega (arith, sums, none, before, after, newest)

readings_done : (rules : Rules) (r : ℕ) (entry : Entry) (past : List Entry) → is_legal rules past ≡ true → is_allowed rules past entry.author entry.point ≡ true → IsDone r entry.point → unfinished_readings (entry ∷ past) + 1 ≡ unfinished_readings past
unfolding unfinished_readings
readings_done rules r entry past legal allowed done =
    let open_before = done_reading rules past entry.author r entry.point allowed done.here in
    let moved : IsMoved (λ t. is_reading t (entry ∷ past)) (λ t. is_reading t past) r = record {
      without = ended_not_reading r (entry ∷ past) (has_now (ends r) entry past done.here);
      within = open_before;
      others = λ t other. reading_with t entry past (looks_at t entry.point None done.begun) (done.others t other);
    } in
    let sums = count_moved reader_begun (λ t. is_reading t (entry ∷ past)) (λ t. is_reading t past) r past moved in
    let one = looked_count rules r past legal (reading_parts r past open_before).0 in
    let before = readings_are past past in
    let after = readings_are (entry ∷ past) past in
    let newest = count_other (λ (e : Entry). looks_unfinished (entry ∷ past) e.point) entry past (newest_reading entry past None done.begun) in
    omega (arith, sums, one, before, after, newest)

readings_other : (entry : Entry) (past : List Entry) → IsNoReading entry.point → unfinished_readings (entry ∷ past) ≡ unfinished_readings past
unfolding unfinished_readings
readings_other entry past other =
    let sums = count_level reader_begun (λ t. is_reading t (entry ∷ past)) (λ t. is_reading t past) past (λ t. reading_with t entry past (looks_at t entry.point None other.begun) (other.ended t)) in
    let before = readings_are past past in
    let after = readings_are (entry ∷ past) past in
    let newest = count_other (λ (e : Entry). looks_unfinished (entry ∷ past) e.point) entry past (newest_reading entry past None other.begun) in
    omega (arith, sums, before, after, newest)

-- an entry that may follow adds the reading that it begins, and takes away the one that it ends
pub readings_more : (rules : Rules) (entry : Entry) (past : List Entry) → is_legal rules past ≡ true → is_allowed rules past entry.author entry.point ≡ true → unfinished_readings (entry ∷ past) + ends_of entry.point ≡ unfinished_readings past + looks_of entry.point
readings_more rules entry past legal allowed = elim (reading_step entry.point) [
  | look_step seen look one none ↦ let law = readings_look rules seen entry past legal allowed look in omega (arith, law, one, none)
  | done_step r done none one ↦ let law = readings_done rules r entry past legal allowed done in omega (arith, law, one, none)
  | other_step other none no_end ↦ let law = readings_other entry past other in omega (arith, law, none, no_end)
]

-- ---- a legal history with one entry more

pub sessions_after : (rules : Rules) (entry : Entry) (past : List Entry) → is_legal rules (entry ∷ past) ≡ true → unfinished_sessions (entry ∷ past) + closes_of entry.point ≡ unfinished_sessions past + begins_of entry.point
sessions_after rules entry past legal = let now = step rules entry past legal in sessions_more rules entry past now.legal now.allowed

pub readings_after : (rules : Rules) (entry : Entry) (past : List Entry) → is_legal rules (entry ∷ past) ≡ true → unfinished_readings (entry ∷ past) + ends_of entry.point ≡ unfinished_readings past + looks_of entry.point
readings_after rules entry past legal = let now = step rules entry past legal in readings_more rules entry past now.legal now.allowed
