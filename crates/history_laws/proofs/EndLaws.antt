-- An entry that ends an unfinished session or reading fits the limits.
use Rattle.std.proofs.Common.{◌≡◌, ℕ, ◌+◌, ◌≤◌, true, false, ◌&&◌, leb, ◌⊎◌, List, [], ◌∷◌, length, Option, Some, None, refl, sym, ap, ◌∙◌, inl, inr, arith, eqb-true}
use Rattle.std.specs.Option.{option_map, option_map_or}
use Rattle.std.proofs.lemmas.Bool.{false≢true, both_ways, and_parts, and_from, and_right, not_from_true, not_from_false, not-true, leb-true, le-leb}
use Rattle.std.proofs.lemmas.List.Sums.{sum_by-cons}
use Rattle.journal_entry.specs.declared.entry.Entry.{Entry}
use Rattle.journal_entry.specs.declared.entry.Seen.{Seen}
use Rattle.journal_entry.specs.declared.entry.Point.{Point}
use Rattle.journal_entry.specs.declared.entry.Point.TheVariants.{Finish, Abort, Done}
use Rattle.journal_entry.specs.Weight.{point_weight, weight}
use Rattle.history.specs.declared.rules.Limits.{Limits}
use Rattle.history.specs.declared.rules.Rules.{Rules}
use Rattle.history.specs.Sessions.{is_number, session_begun, begins, finishes, aborts, closes, has, is_unfinished, reading_begun, looks, ends, is_reading}
use Rattle.history.specs.Legal.{is_allowed, begins_unfinished, looks_unfinished, unfinished_sessions, unfinished_readings, is_within, may_follow, is_legal}
use Rattle.ss_base.proofs.MemberLaws.{any_in, count_other, count_at_most}
use Rattle.history_laws.proofs.SessionLaws.{has_same, has_parts, has_none, has_now, unfinished_is, unfinished_from, closed_not_unfinished}
use Rattle.history_laws.proofs.CountLaws.{count_more}

-- an entry that begins nothing and lists no names
pub record IsEnd (point : Point) : Type 0 where
  pub session : session_begun point ≡ None
  pub reading : reading_begun point ≡ None
  pub weight : point_weight point ≡ 0

pub closes_end : (s : ℕ) (point : Point) → closes s point ≡ true → IsEnd point
unfolding closes finishes aborts session_begun reading_begun point_weight
closes_end s (Finish t containers) does = record { session = refl; reading = refl; weight = refl }
closes_end s (Abort t containers texts) does = record { session = refl; reading = refl; weight = refl }
closes_end s _ does = absurd (false≢true does)

pub ends_end : (r : ℕ) (point : Point) → ends r point ≡ true → IsEnd point
unfolding ends session_begun reading_begun point_weight
ends_end r (Done t) does = record { session = refl; reading = refl; weight = refl }
ends_end r _ does = absurd (false≢true does)

-- ---- sessions

begins_none : (t : ℕ) (point : Point) → session_begun point ≡ None → begins t point ≡ false
unfolding begins
begins_none t point none = ap (is_number t) none

still_open : (t : ℕ) (entry : Entry) (past : List Entry) → session_begun entry.point ≡ None → is_unfinished t (entry ∷ past) ≡ true → is_unfinished t past ≡ true
still_open t entry past none open_now =
    let parts = unfinished_is _ _ open_now in
    unfinished_from t past (sym (has_same (begins t) entry past (begins_none t entry.point none)) ∙ parts.0) (has_parts (closes t) entry past parts.1).1

open_at : (entry : Entry) (past : List Entry) (o : Option ℕ) → session_begun entry.point ≡ None → option_map_or (λ t. is_unfinished t (entry ∷ past)) o false ≡ true → option_map_or (λ t. is_unfinished t past) o false ≡ true
open_at entry past None none e = e
open_at entry past (Some t) none e = still_open t entry past none e

number_some : (n : ℕ) (o : Option ℕ) → is_number n o ≡ true → o ≡ Some n
number_some n None e = absurd (false≢true e)
number_some n (Some m) e = ap Some (sym (eqb-true n m e))

sessions_fewer : (entry : Entry) (past : List Entry) → session_begun entry.point ≡ None → unfinished_sessions (entry ∷ past) ≤ unfinished_sessions past
unfolding unfinished_sessions begins_unfinished
sessions_fewer entry past none =
    let newer = λ (e : Entry). option_map_or (λ t. is_unfinished t (entry ∷ past)) (session_begun e.point) false in
    let older = λ (e : Entry). option_map_or (λ t. is_unfinished t past) (session_begun e.point) false in
    let same = count_other newer entry past (ap (λ o. option_map_or (λ t. is_unfinished t (entry ∷ past)) o false) none) in
    let fewer = count_at_most newer older past (λ e h is. open_at entry past (session_begun e.point) none is) in
    omega (arith, same, fewer)

session_fewer : (s : ℕ) (entry : Entry) (past : List Entry) → session_begun entry.point ≡ None → closes s entry.point ≡ true → is_unfinished s past ≡ true → 1 + unfinished_sessions (entry ∷ past) ≤ unfinished_sessions past
unfolding unfinished_sessions begins_unfinished has begins
session_fewer s entry past none ended open_before =
    let newer = λ (e : Entry). option_map_or (λ t. is_unfinished t (entry ∷ past)) (session_begun e.point) false in
    let older = λ (e : Entry). option_map_or (λ t. is_unfinished t past) (session_begun e.point) false in
    let same = count_other newer entry past (ap (λ o. option_map_or (λ t. is_unfinished t (entry ∷ past)) o false) none) in
    let begun = any_in (λ (e : Entry). is_number s (session_begun e.point)) past (unfinished_is _ _ open_before).0 in
    let is = number_some s (session_begun begun.0.point) begun.2 in
    let closed = ap (λ o. option_map_or (λ t. is_unfinished t (entry ∷ past)) o false) is ∙ closed_not_unfinished s (entry ∷ past) (has_now (closes s) entry past ended) in
    let opened = ap (λ o. option_map_or (λ t. is_unfinished t past) o false) is ∙ open_before in
    let fewer = count_more newer older begun.0 past begun.1 closed opened (λ e h is. open_at entry past (session_begun e.point) none is) in
    omega (arith, same, fewer)

-- ---- readings

pub reading_parts : (r : ℕ) (past : List Entry) → is_reading r past ≡ true → (has (looks r) past ≡ true) × (has (ends r) past ≡ false)
unfolding is_reading
reading_parts r past open_now = let parts = and_parts (has (looks r) past) _ open_now in (parts.0, not-true (has (ends r) past) parts.1)

pub reading_from : (r : ℕ) (past : List Entry) → has (looks r) past ≡ true → has (ends r) past ≡ false → is_reading r past ≡ true
unfolding is_reading
reading_from r past looked open_still = and_from (has (looks r) past) _ looked (not_from_false _ open_still)

pub ended_not_reading : (r : ℕ) (past : List Entry) → has (ends r) past ≡ true → is_reading r past ≡ false
unfolding is_reading
ended_not_reading r past ended = and_right _ _ (not_from_true _ ended)

looks_none : (r : ℕ) (point : Point) → reading_begun point ≡ None → looks r point ≡ false
unfolding looks
looks_none r point none = ap (λ o. is_number r (option_map (λ (seen : Seen). seen.reader) o)) none

still_reading : (r : ℕ) (entry : Entry) (past : List Entry) → reading_begun entry.point ≡ None → is_reading r (entry ∷ past) ≡ true → is_reading r past ≡ true
still_reading r entry past none open_now =
    let parts = reading_parts r (entry ∷ past) open_now in
    reading_from r past (sym (has_same (looks r) entry past (looks_none r entry.point none)) ∙ parts.0) (has_parts (ends r) entry past parts.1).1

reading_at : (entry : Entry) (past : List Entry) (o : Option Seen) → reading_begun entry.point ≡ None → option_map_or (λ (seen : Seen). is_reading seen.reader (entry ∷ past)) o false ≡ true → option_map_or (λ (seen : Seen). is_reading seen.reader past) o false ≡ true
reading_at entry past None none e = e
reading_at entry past (Some seen) none e = still_reading seen.reader entry past none e

readings_fewer : (entry : Entry) (past : List Entry) → reading_begun entry.point ≡ None → unfinished_readings (entry ∷ past) ≤ unfinished_readings past
unfolding unfinished_readings looks_unfinished
readings_fewer entry past none =
    let newer = λ (e : Entry). option_map_or (λ (seen : Seen). is_reading seen.reader (entry ∷ past)) (reading_begun e.point) false in
    let older = λ (e : Entry). option_map_or (λ (seen : Seen). is_reading seen.reader past) (reading_begun e.point) false in
    let same = count_other newer entry past (ap (λ o. option_map_or (λ (seen : Seen). is_reading seen.reader (entry ∷ past)) o false) none) in
    let fewer = count_at_most newer older past (λ e h is. reading_at entry past (reading_begun e.point) none is) in
    omega (arith, same, fewer)

-- the reader of a sight that the test finds
record HasReader (r : ℕ) (o : Option Seen) : Type 0 where
  pub seen : Seen
  pub is : o ≡ Some seen
  pub same : r ≡ seen.reader

reader_some : (r : ℕ) (o : Option Seen) → is_number r (option_map (λ (seen : Seen). seen.reader) o) ≡ true → HasReader r o
reader_some r None e = absurd (false≢true e)
reader_some r (Some seen) e = record { seen = seen; is = refl; same = eqb-true r seen.reader e }

reading_fewer : (r : ℕ) (entry : Entry) (past : List Entry) → reading_begun entry.point ≡ None → ends r entry.point ≡ true → is_reading r past ≡ true → 1 + unfinished_readings (entry ∷ past) ≤ unfinished_readings past
unfolding unfinished_readings looks_unfinished has looks
reading_fewer r entry past none ended open_before =
    let newer = λ (e : Entry). option_map_or (λ (seen : Seen). is_reading seen.reader (entry ∷ past)) (reading_begun e.point) false in
    let older = λ (e : Entry). option_map_or (λ (seen : Seen). is_reading seen.reader past) (reading_begun e.point) false in
    let same = count_other newer entry past (ap (λ o. option_map_or (λ (seen : Seen). is_reading seen.reader (entry ∷ past)) o false) none) in
    let begun = any_in (λ (e : Entry). is_number r (option_map (λ (seen : Seen). seen.reader) (reading_begun e.point))) past (reading_parts r past open_before).0 in
    let at = reader_some r (reading_begun begun.0.point) begun.2 in
    let closed = ap (λ o. option_map_or (λ (seen : Seen). is_reading seen.reader (entry ∷ past)) o false) at.is
    ∙ ap (λ n. is_reading n (entry ∷ past)) (sym at.same)
    ∙ ended_not_reading r (entry ∷ past) (has_now (ends r) entry past ended) in
    let opened = ap (λ o. option_map_or (λ (seen : Seen). is_reading seen.reader past) o false) at.is ∙ ap (λ n. is_reading n past) (sym at.same) ∙ open_before in
    let fewer = count_more newer older begun.0 past begun.1 closed opened (λ e h is. reading_at entry past (reading_begun e.point) none is) in
    omega (arith, same, fewer)

-- ---- limits

fits : (limits : Limits) (entry : Entry) (past : List Entry) → point_weight entry.point ≡ 0 → is_within limits past ≡ true → 1 + unfinished_sessions (entry ∷ past) + unfinished_readings (entry ∷ past) ≤ unfinished_sessions past + unfinished_readings past → is_within limits (entry ∷ past) ≡ true
unfolding is_within weight
fits limits entry past none within fewer =
    let parts = and_parts (leb (length past + unfinished_sessions past + unfinished_readings past) limits.entries) (leb (weight past) limits.weight) within in
    let room = leb-true (length past + unfinished_sessions past + unfinished_readings past) limits.entries parts.0 in
    let heavy = leb-true (weight past) limits.weight parts.1 in
    let more = sum_by-cons (λ (e : Entry). point_weight e.point) entry past in
    and_from (leb (length (entry ∷ past) + unfinished_sessions (entry ∷ past) + unfinished_readings (entry ∷ past)) limits.entries) (leb (weight (entry ∷ past)) limits.weight)
    (le-leb (length (entry ∷ past) + unfinished_sessions (entry ∷ past) + unfinished_readings (entry ∷ past)) limits.entries (omega (arith, room, fewer)))
    (le-leb (weight (entry ∷ past)) limits.weight (omega (arith, heavy, more, none)))

legal_within : (rules : Rules) (past : List Entry) → is_legal rules past ≡ true → (past ≡ []) ⊎ (is_within rules.limits past ≡ true)
unfolding is_legal may_follow
legal_within rules [] legal = inl refl
legal_within rules (entry ∷ past) legal =
    let parts = and_parts (is_legal rules past) (is_allowed rules past entry.author entry.point && is_within rules.limits (entry ∷ past)) legal in
    inr (and_parts (is_allowed rules past entry.author entry.point) (is_within rules.limits (entry ∷ past)) parts.1).1

pub end_of_session_fits : (rules : Rules) (s : ℕ) (entry : Entry) (past : List Entry) → is_legal rules past ≡ true → is_unfinished s past ≡ true → closes s entry.point ≡ true → is_within rules.limits (entry ∷ past) ≡ true
end_of_session_fits rules s entry past legal open_now ended =
    let end = closes_end s entry.point ended in
    let sessions = session_fewer s entry past end.session ended open_now in
    let readings = readings_fewer entry past end.reading in
    elim (legal_within rules past legal) [
      | inl none ↦ absurd (both_ways _ (ap (has (begins s)) none ∙ has_none (begins s)) (unfinished_is _ _ open_now).0)
      | inr within ↦ fits rules.limits entry past end.weight within (omega (arith, sessions, readings))
    ]

pub end_of_reading_fits : (rules : Rules) (r : ℕ) (entry : Entry) (past : List Entry) → is_legal rules past ≡ true → is_reading r past ≡ true → ends r entry.point ≡ true → is_within rules.limits (entry ∷ past) ≡ true
end_of_reading_fits rules r entry past legal open_now ended =
    let end = ends_end r entry.point ended in
    let sessions = sessions_fewer entry past end.session in
    let readings = reading_fewer r entry past end.reading ended open_now in
    elim (legal_within rules past legal) [
      | inl none ↦ absurd (both_ways _ (ap (has (looks r)) none ∙ has_none (looks r)) (reading_parts r past open_now).0)
      | inr within ↦ fits rules.limits entry past end.weight within (omega (arith, sessions, readings))
    ]
