-- What one entry more does to what is kept of all sessions.
use Rattle.std.proofs.Common.{◌≡◌, ◌⊎◌, ℕ, ◌+◌, ◌<◌, ◌≤◌, true, false, eqb, List, [], ◌∷◌, ◌++◌, length, map, slice_set, get_or, Option, Some, None, is_some, unwrap_or, zero, suc, refl, sym, ap, ◌∙◌, subst, inl, inr, arith, eqb-true, length-append, length-set}
use Rattle.std.proofs.lemmas.Bool.{false≢true, eqb-false, eq-eqb, cases_Bool}
use Rattle.std.proofs.lemmas.Option.{slice_get-get_or}
use Rattle.ss_base.specs.declared.ids.ManifestId.{ManifestId}
use Rattle.ss_base.specs.Ids.{same_manifest, has_manifest}
use Rattle.ss_base.proofs.MemberLaws.{In, in_any, count_one, count_other}
use Rattle.ss_base.proofs.IdLaws.{same_manifest-self}
use Rattle.journal_entry.specs.declared.entry.Entry.{Entry}
use Rattle.journal_entry.specs.declared.entry.Point.{Point}
use Rattle.journal_entry.specs.declared.entry.Point.TheVariants.{Begin, Choose, Commit, Finish, Abort, Delete}
use Rattle.history.specs.declared.rules.Rules.{Rules}
use Rattle.history.specs.Sessions.{is_number, session_begun, begins_some, session_count, commits, finishes, aborts, has, newest, pending, is_pending, is_unfinished, is_retained, commits_of, champions_chosen}
use Rattle.history.specs.OwnEnd.{greatest_by, end_among, own_end}
use Rattle.history.specs.Need.{commits_manifest}
use Rattle.history.specs.Legal.{is_legal, is_allowed}
use Rattle.history_laws.specs.EntryNumbers.{numbers_of, committed_at, last_champions, CommitThese}
use Rattle.history_laws.proofs.Allowed.{IsStep, step, begin_says, choose_says, commit_says, finishes_open, aborts_open, delete_says, retained_is}
use Rattle.history_laws.proofs.SessionLaws.{unfinished_is, retained_parts, begun_below, committed_below}
use Rattle.history_laws.proofs.NumberLaws.{numbers_length, commits_at}
use Rattle.history_laws.proofs.NeedLaws.{chosen_somewhere}
use Rattle.history_laws.proofs.LiveLaws.{somewhere_committed}
use Rattle.history_laws.proofs.StandingLaws.{made}
use Rattle.legal_history.specs.declared.stage.Stage.{Stage}
use Rattle.legal_history.specs.declared.stage.Stage.TheVariants.{Unfinished, Retained, Aborted, Deleted}
use Rattle.legal_history.specs.Rows.{Row, no_row, row_at, begun, chosen, committed, finished, aborted, deleted, commit_number, noted}
use Rattle.legal_history.specs.Agrees.{IsSession, AreSessions, was_closed, was_finished, was_deleted}
use Rattle.legal_history.proofs.PlaceLaws.{set_here, set_other, push_here, push_other, past_end}
use Rattle.legal_history.proofs.SessionSteps.{concerned, others, other_kept, begin_noted, choose_noted, commit_noted, finish_noted, abort_noted, delete_noted}

-- ---- stages

pub open_stage : (stage : Stage) → was_closed stage ≡ false → stage ≡ Unfinished
open_stage Unfinished e = refl
open_stage Retained e = absurd (false≢true (sym e))
open_stage Aborted e = absurd (false≢true (sym e))
open_stage Deleted e = absurd (false≢true (sym e))

pub kept_stage : (stage : Stage) → was_finished stage ≡ true → was_deleted stage ≡ false → stage ≡ Retained
kept_stage Unfinished e f = absurd (false≢true e)
kept_stage Retained e f = refl
kept_stage Aborted e f = absurd (false≢true e)
kept_stage Deleted e f = absurd (false≢true (sym f))

-- an unfinished session's row, and a retained one's
pub record HasRow (s : ℕ) (stage : Stage) (rows : List Row) : Type 0 where
  pub below : s < length rows
  pub is : (row_at s rows).stage ≡ stage

pub unfinished_row : (rules : Rules) (s : ℕ) (past : List Entry) (rows : List Row) → is_legal rules past ≡ true → AreSessions rows past → is_unfinished s past ≡ true → HasRow s Unfinished rows
unfinished_row rules s past rows legal are open_now =
    let parts = unfinished_is s past open_now in
    let below = begun_below rules s past legal parts.0 in
    record { below = omega (arith, below, are.count); is = open_stage (row_at s rows).stage ((are.each s).closed ∙ parts.1) }

below_cases : (s n : ℕ) → (s < n) ⊎ (n ≤ s)
below_cases s zero = inr (omega arith)
below_cases zero (suc n) = inl (omega arith)
below_cases (suc s) (suc n) = elim (below_cases s n) [ inl below ↦ inl (omega arith) | inr over ↦ inr (omega arith) ]

pub retained_row : (s : ℕ) (past : List Entry) (rows : List Row) → AreSessions rows past → is_retained s past ≡ true → HasRow s Retained rows
retained_row s past rows are kept =
    let parts = retained_parts s past kept in
    let is = kept_stage (row_at s rows).stage ((are.each s).finished ∙ parts.0) ((are.each s).deleted ∙ parts.1) in
    elim (below_cases s (length rows)) [
      | inl below ↦ record { below = below; is = is }
      | inr over ↦ absurd (false≢true (ap (λ (r : Row). was_finished r.stage) (sym (past_end no_row rows s over)) ∙ (are.each s).finished ∙ parts.0))
    ]

-- ---- one row is changed, or one more is there

same_count : (entry : Entry) (past : List Entry) → session_begun entry.point ≡ None → session_count (entry ∷ past) ≡ session_count past
unfolding session_count begins_some
same_count entry past none = count_other (λ (e : Entry). begins_some e.point) entry past (ap is_some none)

more_count : (s : ℕ) (entry : Entry) (past : List Entry) → session_begun entry.point ≡ Some s → session_count (entry ∷ past) ≡ 1 + session_count past
unfolding session_count begins_some
more_count s entry past one = count_one (λ (e : Entry). begins_some e.point) entry past (ap is_some one)

apart : (s t : ℕ) → (s ≡ t) ⊎ (eqb s t ≡ false)
apart s t = elim (cases_Bool (eqb s t)) [ inl same ↦ inl (eqb-true s t same) | inr other ↦ inr other ]

none_noted : (rows : List Row) (entry : Entry) (past : List Entry) → concerned entry.point ≡ None → session_begun entry.point ≡ None → AreSessions rows past → AreSessions rows (entry ∷ past)
none_noted rows entry past none nothing are = record {
  each = λ s. other_kept (row_at s rows) s entry past (others s entry.point (ap (is_number s) none)) (are.each s);
  count = are.count ∙ sym (same_count entry past nothing);
}

one_noted : (rows : List Row) (t : ℕ) (row : Row) (entry : Entry) (past : List Entry) → t < length rows → concerned entry.point ≡ Some t → session_begun entry.point ≡ None → AreSessions rows past → IsSession row t (entry ∷ past) → AreSessions (slice_set rows t row) (entry ∷ past)
one_noted rows t row entry past below one nothing are is = record {
  each = λ s. elim (apart s t) [
    | inl same ↦ subst (λ n. IsSession (row_at n (slice_set rows t row)) n (entry ∷ past)) (sym same) (subst (λ (r : Row). IsSession r t (entry ∷ past)) (sym (set_here no_row rows t row below)) is)
    | inr other ↦ subst (λ (r : Row). IsSession r s (entry ∷ past)) (sym (set_other no_row rows s t row (eqb-false s t other)))
        (other_kept (row_at s rows) s entry past (others s entry.point (ap (is_number s) one ∙ other)) (are.each s))
  ];
  count = length-set rows t row ∙ are.count ∙ sym (same_count entry past nothing);
}

new_noted : (rows : List Row) (row : Row) (entry : Entry) (past : List Entry) → session_begun entry.point ≡ Some (length rows) → concerned entry.point ≡ Some (length rows) → AreSessions rows past → IsSession row (length rows) (entry ∷ past) → AreSessions (rows ++ row ∷ []) (entry ∷ past)
new_noted rows row entry past one concerns are is = record {
  each = λ s. elim (apart s (length rows)) [
    | inl same ↦ subst (λ n. IsSession (row_at n (rows ++ row ∷ [])) n (entry ∷ past)) (sym same) (subst (λ (r : Row). IsSession r (length rows) (entry ∷ past)) (sym (push_here no_row rows row)) is)
    | inr other ↦ subst (λ (r : Row). IsSession r s (entry ∷ past)) (sym (push_other no_row rows s row (eqb-false s (length rows) other)))
        (other_kept (row_at s rows) s entry past (others s entry.point (ap (is_number s) concerns ∙ other)) (are.each s))
  ];
  count = let longer = length-append rows (row ∷ []) in let more = more_count (length rows) entry past one in omega (arith, longer, more, are.count);
}

-- ---- champions

number_known : (rules : Rules) (past : List Entry) (rows : List Row) (id : ManifestId) → is_legal rules past ≡ true → AreSessions rows past → has (commits_manifest id) past ≡ true → committed_at past (commit_number rows id) ≡ Some id
unfolding commits_of
number_known rules past rows id legal are committed =
    let ns = numbers_of (commits id.session) past in
    let fewer = committed_below rules id past legal committed in
    let below : id.seq < length ns = omega (arith, fewer, numbers_length (commits id.session) past) in
    ap (λ l. committed_at past (get_or l id.seq 0)) (are.each id.session).committed
    ∙ commits_at rules id.session past id.seq (get_or ns id.seq 0) legal (slice_get-get_or ns id.seq 0 below)

numbers_known : (rules : Rules) (past : List Entry) (rows : List Row) (ids : List ManifestId) → is_legal rules past ≡ true → AreSessions rows past → ((id : ManifestId) → In id ids → has (commits_manifest id) past ≡ true) → CommitThese (map (commit_number rows) ids) ids past
unfolding CommitThese
numbers_known rules past rows [] legal are each = refl
numbers_known rules past rows (id ∷ ids) legal are each =
    let first = number_known rules past rows id legal are (each id (inl refl)) in
    let rest = numbers_known rules past rows ids legal are (λ i h. each i (inr h)) in
    λ j. first j ∷ rest j

champions_known : (rules : Rules) (past : List Entry) (author : ℕ) (point : Point) (rows : List Row) (ids : List ManifestId) → is_legal rules past ≡ true → AreSessions rows past → is_allowed rules past author point ≡ true → champions_chosen point ≡ Some ids → CommitThese (map (commit_number rows) ids) ids past
unfolding has_manifest
champions_known rules past author point rows ids legal are allowed chosen =
    numbers_known rules past rows ids legal are (λ id h.
    somewhere_committed rules id past legal (chosen_somewhere rules past author id point allowed
    (ap (λ (o : Option (List ManifestId)). has_manifest id (unwrap_or o [])) chosen ∙ in_any (same_manifest id) id ids h (same_manifest-self id))))

-- ---- every entry

noted_at : (rules : Rules) (author : ℕ) (point : Point) (past : List Entry) (rows : List Row) → IsStep rules (made author point) past → AreSessions rows past → AreSessions (noted (length past) point rows) (made author point ∷ past)
unfolding session_begun finishes aborts champions_chosen
noted_at rules author (Begin name (Some s)) past rows now are =
    let said = begin_says rules past author name s now.allowed in
    let next : s ≡ length rows = said.next ∙ sym are.count in
    let none = past_end no_row rows (length rows) (omega arith) in
    subst (λ n. AreSessions (rows ++ begun (length past) ∷ []) (made author (Begin name (Some n)) ∷ past)) (sym next)
    (new_noted rows (begun (length past)) (made author (Begin name (Some (length rows)))) past refl refl are
    (begin_noted author past (row_at (length rows) rows) (length rows) (are.each (length rows)) name none))
noted_at rules author (Begin name None) past rows now are = none_noted rows (made author (Begin name None)) past refl refl are
noted_at rules author (Choose s hooks champions) past rows now are =
    let said = choose_says rules past author s hooks champions now.allowed in
    let at = unfinished_row rules s past rows now.legal are said.unfinished in
    let numbers = map (commit_number rows) champions in
    one_noted rows s (chosen (length past) numbers (row_at s rows)) (made author (Choose s hooks champions)) past at.below refl refl are
    (choose_noted author past (row_at s rows) s (are.each s) hooks champions numbers (champions_known rules past author (Choose s hooks champions) rows champions now.legal are now.allowed refl))
noted_at rules author (Commit id content text chunks bytes fresh fresh_bytes uses) past rows now are =
    let said = commit_says rules past author id content text chunks bytes fresh fresh_bytes uses now.allowed in
    let at = unfinished_row rules id.session past rows now.legal are said.unfinished in
    one_noted rows id.session (committed (length past) (end_among id.session uses) (row_at id.session rows)) (made author (Commit id content text chunks bytes fresh fresh_bytes uses)) past at.below refl refl are
    (commit_noted author past (row_at id.session rows) id.session (are.each id.session) id content text chunks bytes fresh fresh_bytes uses refl)
noted_at rules author (Finish s containers) past rows now are =
    let at = unfinished_row rules s past rows now.legal are (finishes_open rules past author s (Finish s containers) now.allowed (eq-eqb s s refl)) in
    one_noted rows s (finished (row_at s rows)) (made author (Finish s containers)) past at.below refl refl are (finish_noted author past (row_at s rows) s (are.each s) containers at.is)
noted_at rules author (Abort s containers texts) past rows now are =
    let at = unfinished_row rules s past rows now.legal are (aborts_open rules past author s (Abort s containers texts) now.allowed (eq-eqb s s refl)) in
    one_noted rows s (aborted (row_at s rows)) (made author (Abort s containers texts)) past at.below refl refl are (abort_noted author past (row_at s rows) s (are.each s) containers texts at.is)
noted_at rules author (Delete name (Some s)) past rows now are =
    let at = retained_row s past rows are (retained_is name s past (delete_says rules past author name s now.allowed)).1 in
    one_noted rows s (deleted (row_at s rows)) (made author (Delete name (Some s))) past at.below refl refl are (delete_noted author past (row_at s rows) s (are.each s) name at.is)
noted_at rules author (Delete name None) past rows now are = none_noted rows (made author (Delete name None)) past refl refl are
noted_at rules author point past rows now are = none_noted rows (made author point) past refl refl are

-- what is kept of the sessions is so again after one entry more
pub sessions_noted : (rules : Rules) (entry : Entry) (past : List Entry) (rows : List Row) → is_legal rules (entry ∷ past) ≡ true → AreSessions rows past → AreSessions (noted (length past) entry.point rows) (entry ∷ past)
sessions_noted rules entry past rows legal are = noted_at rules entry.author entry.point past rows (step rules entry past legal) are

pub sessions_first : AreSessions [] []
unfolding has numbers_of session_count last_champions CommitThese newest is_pending pending own_end greatest_by
sessions_first = record {
  each = λ s. record { begun = refl; closed = refl; finished = refl; deleted = refl; chosen = refl; committed = refl; settled = refl; known = refl; used = refl };
  count = refl;
}
