-- Where an entry has no room, the journal is nearly full.
use Rattle.std.proofs.Common.{◌≡◌, ◌⊎◌, ℕ, ◌+◌, ◌≤◌, ◌<◌, Bool, true, false, eqb, leb, leb-false, List, ◌∷◌, length, Option, Some, None, refl, sym, ap, ◌∙◌, subst, inl, inr, arith}
use Rattle.std.specs.Option.{option_eq, option_map_or}
use Rattle.std.specs.Prelude.{Ok, Err}
use Rattle.std.proofs.lemmas.Bool.{cases_Bool, both_ways, and_from, false_from_ne_true, eq-eqb}
use Rattle.std.proofs.lemmas.List.{length-reverse}
use Rattle.std.proofs.lemmas.List.Sums.{sum_by-cons}
use Rattle.ss_base.proofs.MemberLaws.{none_from, count_none, count_other}
use Rattle.outside.specs.Views.{SinkView}
use Rattle.journal_entry.specs.declared.entry.Entry.{Entry}
use Rattle.journal_entry.specs.declared.entry.Seen.{Seen}
use Rattle.journal_entry.specs.declared.entry.Point.{Point}
use Rattle.journal_entry.specs.declared.entry.Point.TheVariants.{Begin, Finish, Abort, Look, Done}
use Rattle.journal_entry.specs.Weight.{point_weight, weight}
use Rattle.history.specs.declared.rules.Limits.{Limits}
use Rattle.history.specs.declared.rules.Rules.{Rules}
use Rattle.history.specs.Sessions.{session_begun, reading_begun, begins, finishes, aborts, closes, looks, ends, has, is_unfinished, is_reading}
use Rattle.history.specs.Legal.{reply_to_begin, reply_to_look, same_seen, is_allowed, is_legal, is_within, unfinished_sessions, unfinished_readings, begins_unfinished, looks_unfinished}
use Rattle.history_laws.proofs.UnfinishedLaws.{begins_of, looks_of, sessions_more, readings_more, sessions_after, readings_after}
use Rattle.history_calls.proofs.TurnLaws.{past_added}
use Rattle.store_core.specs.Replay.{NoneIs, has_session, has_reading}
use Rattle.store_core.specs.View.{StateView, past_of, rules_of, made, Adds, IsFull}
use Rattle.restore.specs.Copies.{Shelves}
use Rattle.job_script.specs.declared.job.JobKind.{JobKind}
use Rattle.store_run.specs.JobRun.{HasDoneJob}
use Rattle.store_run.specs.Opening.{IsLegal, store_limits, Reading, FollowsFrom}
use Rattle.run_streams.specs.Answered.{IsNearlyFull}
use Rattle.run_streams.proofs.ClosedLaws.{closed_run}
use Rattle.run_streams.proofs.WholeRunLaws.{weight_reversed}

-- ---- nothing is unfinished

none_at : {X : Type 0} (test : X → Bool) (found : Option X) → ((x : X) → test x ≡ false) → option_map_or test found false ≡ false
none_at test None none = refl
none_at test (Some x) none = none x

pub no_sessions : (past : List Entry) → NoneIs (λ session. is_unfinished session past) → unfinished_sessions past ≡ 0
unfolding unfinished_sessions begins_unfinished
no_sessions past none =
    count_none (λ (e : Entry). option_map_or (λ session. is_unfinished session past) (session_begun e.point) false) past
    (none_from _ past (λ entry there. none_at (λ session. is_unfinished session past) (session_begun entry.point) none))

pub no_readings : (past : List Entry) → NoneIs (λ reader. is_reading reader past) → unfinished_readings past ≡ 0
unfolding unfinished_readings looks_unfinished
no_readings past none =
    count_none (λ (e : Entry). option_map_or (λ (seen : Seen). is_reading seen.reader past) (reading_begun e.point) false) past
    (none_from _ past (λ entry there. none_at (λ (seen : Seen). is_reading seen.reader past) (reading_begun entry.point) (λ seen. none seen.reader)))

-- ---- what an entry begins

-- the unfinished sessions and readings
abbrev pub open_in : List Entry → ℕ
open_in past = unfinished_sessions past + unfinished_readings past

-- an entry that begins and ends nothing
abbrev pub IsPlain : Point → Type 0
IsPlain (Begin name session) = ⊥
IsPlain (Finish session containers) = ⊥
IsPlain (Abort session containers texts) = ⊥
IsPlain (Look name seen) = ⊥
IsPlain (Done reader) = ⊥
IsPlain _ = Unit {0}

level : (author : ℕ) (point : Point) (past : List Entry) → IsPlain point → open_in (made author point ∷ past) ≡ open_in past
unfolding unfinished_sessions unfinished_readings begins_unfinished looks_unfinished session_begun reading_begun is_unfinished is_reading has begins closes finishes aborts looks ends
level author (Begin name session) past plain = absurd plain
level author (Finish session containers) past plain = absurd plain
level author (Abort session containers texts) past plain = absurd plain
level author (Look name seen) past plain = absurd plain
level author (Done reader) past plain = absurd plain
level author point past plain =
    let entry : Entry = made author point in
    let one = count_other (λ (e : Entry). begins_unfinished (entry ∷ past) e.point) entry past refl in
    let other = count_other (λ (e : Entry). looks_unfinished (entry ∷ past) e.point) entry past refl in
    λ i. one i + other i

-- a Begin and a Look begin one thing at most
same_number : (o : Option ℕ) → option_eq (λ a b. eqb a b) o o ≡ true
same_number None = refl
same_number (Some n) = eq-eqb n n refl

same_sight : (o : Option Seen) → option_eq same_seen o o ≡ true
same_sight None = refl
same_sight (Some seen) = and_from _ _ (eq-eqb seen.reader seen.reader refl) (eq-eqb seen.session seen.session refl)

begin_allowed : (rules : Rules) (past : List Entry) (author : ℕ) (name : List ℕ) → is_allowed rules past author (Begin name (reply_to_begin name past)) ≡ true
unfolding is_allowed
begin_allowed rules past author name = same_number (reply_to_begin name past)

look_allowed : (rules : Rules) (past : List Entry) (author : ℕ) (name : List ℕ) → is_allowed rules past author (Look name (reply_to_look name past)) ≡ true
unfolding is_allowed
look_allowed rules past author name = same_sight (reply_to_look name past)

begins_one : (point : Point) → begins_of point + looks_of point ≤ 1
begins_one (Begin name (Some session)) = omega arith
begins_one (Begin name None) = omega arith
begins_one (Look name (Some seen)) = omega arith
begins_one (Look name None) = omega arith
begins_one _ = omega arith

one_more : (rules : Rules) (entry : Entry) (past : List Entry) → is_legal rules past ≡ true → is_allowed rules past entry.author entry.point ≡ true → open_in (entry ∷ past) ≤ open_in past + 1
one_more rules entry past legal allowed =
    let sessions = sessions_more rules entry past legal allowed in
    let readings = readings_more rules entry past legal allowed in
    let one = begins_one entry.point in
    omega (arith, sessions, readings, one)

-- ---- an entry that does not fit

-- one that would have this weight, with so many unfinished
pub over_limits : (limits : Limits) (entry : Entry) (past : List Entry) (most : ℕ) → point_weight entry.point ≤ 4096 → open_in (entry ∷ past) ≤ most → is_within limits (entry ∷ past) ≡ false
    → (limits.entries ≤ length past + most) ⊎ (limits.weight < weight past + 4096)
unfolding is_within weight
over_limits limits entry past most few still over =
    let count = length (entry ∷ past) + unfinished_sessions (entry ∷ past) + unfinished_readings (entry ∷ past) in
    let sum = sum_by-cons (λ (e : Entry). point_weight e.point) entry past in
    elim (cases_Bool (leb count limits.entries)) [
      | inl fits ↦
          let heavy = leb-false (weight (entry ∷ past)) limits.weight (false_from_ne_true _ (λ rest. both_ways _ over (and_from _ _ fits rest))) in
          inr (omega (arith, heavy, sum, few))
      | inr many ↦ let above = leb-false count limits.entries many in inl (omega (arith, above, still))
    ]

-- ---- a store that a run leaves

pub record IsClosed (store : StateView) : Type 0 where
  pub legal : IsLegal store
  pub limits : store.limits ≡ store_limits
  pub no_session : NoneIs (has_session store)
  pub no_reading : NoneIs (has_reading store)

limits_of : (reading : Reading) (store : StateView) → FollowsFrom reading (Ok store) → store.limits ≡ store_limits
limits_of (Ok found) store is = ap (λ (s : StateView). s.limits) is.0
limits_of (Err fault) store is = absurd (cc)

pub left_closed : (kind : JobKind) (before after : Shelves) (sink sink' : SinkView) (status : ℕ) (done : HasDoneJob kind before after sink sink' status) → IsClosed done.new
left_closed kind before after sink sink' status done =
    let closed = closed_run kind before after sink sink' status done in
    record {
      legal = done.legal;
      limits = ap (λ (s : StateView). s.limits) done.added ∙ limits_of done.opens.reads.reading done.store done.opens.reads.follows;
      no_session = closed.0;
      no_reading = closed.1;
    }

-- the numbers of the entries, in their order
pub nearly_from : (store : StateView) → store.limits ≡ store_limits → (store.limits.entries ≤ length (past_of store) + 1) ⊎ (store.limits.weight < weight (past_of store) + 4096) → IsNearlyFull store
nearly_from store limits is =
    let count = length-reverse store.entries in
    let heavy = weight_reversed store.entries in
    let entries_most = ap (λ (l : Limits). l.entries) limits in
    let weight_most = ap (λ (l : Limits). l.weight) limits in
    elim is [
      | inl many ↦ inl (omega (arith, many, count, entries_most))
      | inr much ↦ inr (omega (arith, much, heavy, weight_most))
    ]

-- an entry that had no room in a closed store
nearly : (old new : StateView) (entry : Entry) → IsClosed new → (IsClosed old → open_in (entry ∷ past_of old) ≤ 1) → point_weight entry.point ≤ 4096 → IsFull old new entry → IsNearlyFull new
nearly old new entry closed most light full =
    let was = subst IsClosed full.same closed in
    subst IsNearlyFull (sym full.same) (nearly_from old was.limits (over_limits old.limits entry (past_of old) 1 light (most was) full.over))

none_open : (store : StateView) → IsClosed store → open_in (past_of store) ≡ 0
none_open store closed =
    let sessions = no_sessions (past_of store) closed.no_session in
    let readings = no_readings (past_of store) closed.no_reading in
    omega (arith, sessions, readings)

pub plain_full : (old new : StateView) (author : ℕ) (point : Point) → IsClosed new → IsPlain point → point_weight point ≤ 4096 → IsFull old new (made author point) → IsNearlyFull new
plain_full old new author point closed plain light full =
    nearly old new (made author point) closed
    (λ was. let same = level author point (past_of old) plain in let none = none_open old was in omega (arith, same, none)) light full

pub begin_full : (old new : StateView) (author : ℕ) (name : List ℕ) → IsClosed new → IsFull old new (made author (Begin name (reply_to_begin name (past_of old)))) → IsNearlyFull new
unfolding point_weight
begin_full old new author name closed full =
    let entry : Entry = made author (Begin name (reply_to_begin name (past_of old))) in
    nearly old new entry closed
    (λ was. let more = one_more (rules_of 8 8 old) entry (past_of old) was.legal (begin_allowed (rules_of 8 8 old) (past_of old) author name) in let none = none_open old was in omega (arith, more, none)) (omega arith) full

pub look_full : (old new : StateView) (author : ℕ) (name : List ℕ) → IsClosed new → IsFull old new (made author (Look name (reply_to_look name (past_of old)))) → IsNearlyFull new
unfolding point_weight
look_full old new author name closed full =
    let entry : Entry = made author (Look name (reply_to_look name (past_of old))) in
    nearly old new entry closed
    (λ was. let more = one_more (rules_of 8 8 old) entry (past_of old) was.legal (look_allowed (rules_of 8 8 old) (past_of old) author name) in let none = none_open old was in omega (arith, more, none)) (omega arith) full

-- of a session that is given up for it
pub given_up_full : (seen back new : StateView) (author : ℕ) (point : Point) (by session containers texts : ℕ) → IsClosed new → IsPlain point → point_weight point ≤ 4096 → IsFull seen back (made author point) → Adds back new (made by (Abort session containers texts)) → IsNearlyFull new
unfolding weight point_weight
given_up_full seen back new author point by session containers texts closed plain light full adds =
    let entry : Entry = made author point in
    let last : Entry = made by (Abort session containers texts) in
    let added : Adds seen new last = subst (λ (b : StateView). Adds b new last) full.same adds in
    let past_is = past_added seen new last added in
    let legal = subst (λ (past : List Entry). is_legal (rules_of 8 8 new) past ≡ true) past_is closed.legal in
    let sessions : unfinished_sessions (last ∷ past_of seen) + 1 ≡ unfinished_sessions (past_of seen) + 0 = sessions_after (rules_of 8 8 new) last (past_of seen) legal in
    let readings : unfinished_readings (last ∷ past_of seen) + 0 ≡ unfinished_readings (past_of seen) + 0 = readings_after (rules_of 8 8 new) last (past_of seen) legal in
    let none = subst (λ (past : List Entry). open_in past ≡ 0) past_is (none_open new closed) in
    let still = level author point (past_of seen) plain in
    let limits : new.limits ≡ seen.limits = ap (λ (s : StateView). s.limits) added.added in
    let over = over_limits seen.limits entry (past_of seen) 1 light (omega (arith, sessions, readings, none, still)) full.over in
    let count = ap length past_is in
    let heavy = ap weight past_is in
    let sum = sum_by-cons (λ (e : Entry). point_weight e.point) last (past_of seen) in
    let weightless : point_weight (Abort session containers texts) ≡ 0 = refl in
    let entries_same = ap (λ (l : Limits). l.entries) limits in
    let weight_same = ap (λ (l : Limits). l.weight) limits in
    nearly_from new closed.limits (elim over [
      | inl many ↦ inl (omega (arith, many, count, entries_same))
      | inr much ↦ inr (omega (arith, much, heavy, sum, weightless, weight_same))
    ])
