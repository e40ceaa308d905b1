-- How streams and their bytes change with an entry of a legal history.
use Rattle.std.proofs.Common.{◌≡◌, ℕ, ◌+◌, true, false, not, ◌&&◌, eqb, cond, List, [], ◌∷◌, Option, Some, None, refl, sym, ap, ◌∙◌, arith, reverse}
use Rattle.std.specs.List.{sum_by, count_by}
use Rattle.std.specs.Option.{option_map_or}
use Rattle.std.proofs.lemmas.Bool.{false≢true, both_ways, and_right, and_from, not_from_true, not_from_false, false_from_ne_true, eq-eqb}
use Rattle.std.proofs.lemmas.List.Sums.{sum_by-cons}
use Rattle.journal_entry.specs.declared.entry.Entry.{Entry}
use Rattle.journal_entry.specs.declared.entry.Point.{Point}
use Rattle.journal_entry.specs.declared.entry.Point.TheVariants.{Commit, Finish, Delete}
use Rattle.history.specs.declared.rules.Rules.{Rules}
use Rattle.history.specs.Sessions.{is_number, session_begun, begins, commits, finishes, deletes, has, is_unfinished, is_retained}
use Rattle.history.specs.TotalsOf.{stream_began, bytes_retained, totals}
use Rattle.history.specs.Legal.{is_allowed, is_legal}
use Rattle.ss_base.proofs.MemberLaws.{count_other}
use Rattle.history_laws.specs.EntryNumbers.{numbers_of}
use Rattle.history_laws.proofs.Allowed.{finishes_open, deletes_retained, begins_next, commit_says}
use Rattle.history_laws.proofs.SessionLaws.{has_same, has_now, unfinished_is, retained_parts, finished_closed, unfinished_undeleted}
use Rattle.history_laws.proofs.UnfinishedLaws.{closed_begun, next_unbegun, once}
use Rattle.history_laws.proofs.MovedLaws.{IsMoved, turned, counted, sum_moved, sum_level, count_moved, count_level}
use Rattle.history_totals.specs.Parts.{gives_stream, takes_stream, bytes_committed, bytes_at}
use Rattle.history_totals.specs.TallyOf.{stream_settled, commits_settled}
use Rattle.history_totals.proofs.CommitLaws.{bytes_by_numbers, session_committed, sum_retained, sum_commits}

-- ---- what an entry does to streams

-- an entry begins no session, commits nothing and settles this stream
record Settles (s : ℕ) (point : Point) : Type 0 where
  pub begun : session_begun point ≡ None
  pub committed : session_committed point ≡ None
  pub settled : stream_settled point ≡ Some s

record IsGift (s : ℕ) (point : Point) : Type 0 where
  pub settles : Settles s point
  pub here : finishes s point ≡ true
  pub others : (t : ℕ) → eqb s t ≡ false → finishes t point ≡ false
  pub undeleted : (t : ℕ) → deletes t point ≡ false

record IsTaking (s : ℕ) (point : Point) : Type 0 where
  pub settles : Settles s point
  pub here : deletes s point ≡ true
  pub others : (t : ℕ) → eqb s t ≡ false → deletes t point ≡ false
  pub unfinished : (t : ℕ) → finishes t point ≡ false

record IsNone (point : Point) : Type 0 where
  pub unfinished : (t : ℕ) → finishes t point ≡ false
  pub undeleted : (t : ℕ) → deletes t point ≡ false

gift : (point : Point) → gives_stream point ≡ true → (s : ℕ) × IsGift s point
unfolding gives_stream session_begun finishes deletes stream_settled
gift (Finish s containers) does =
    (s, record { settles = record { begun = refl; committed = refl; settled = refl }; here = eq-eqb s s refl; others = λ t other. turned s t other; undeleted = λ t. refl })
gift _ does = absurd (false≢true does)

taking : (point : Point) → takes_stream point ≡ true → (s : ℕ) × IsTaking s point
unfolding takes_stream session_begun finishes deletes stream_settled
taking (Delete name (Some s)) does =
    (s, record { settles = record { begun = refl; committed = refl; settled = refl }; here = eq-eqb s s refl; others = λ t other. turned s t other; unfinished = λ t. refl })
taking (Delete name None) does = absurd (false≢true does)
taking _ does = absurd (false≢true does)

neither : (point : Point) → gives_stream point ≡ false → takes_stream point ≡ false → IsNone point
unfolding gives_stream takes_stream finishes deletes
neither (Finish s containers) ungiven untaken = absurd (false≢true (sym ungiven))
neither (Delete name (Some s)) ungiven untaken = absurd (false≢true (sym untaken))
neither (Delete name None) ungiven untaken = record { unfinished = λ t. refl; undeleted = λ t. refl }
neither _ ungiven untaken = record { unfinished = λ t. refl; undeleted = λ t. refl }

retained_with : (t : ℕ) (entry : Entry) (past : List Entry) → finishes t entry.point ≡ false → deletes t entry.point ≡ false → is_retained t (entry ∷ past) ≡ is_retained t past
unfolding is_retained
retained_with t entry past unfinished undeleted = λ i. has_same (finishes t) entry past unfinished i && not (has_same (deletes t) entry past undeleted i)

retained_from : (s : ℕ) (past : List Entry) → has (finishes s) past ≡ true → has (deletes s) past ≡ false → is_retained s past ≡ true
unfolding is_retained
retained_from s past finished undeleted = and_from (has (finishes s) past) (not (has (deletes s) past)) finished (not_from_false _ undeleted)

deleted_not_retained : (s : ℕ) (past : List Entry) → has (deletes s) past ≡ true → is_retained s past ≡ false
unfolding is_retained
deleted_not_retained s past deleted = and_right _ _ (not_from_true _ deleted)

unfinished_not_retained : (s : ℕ) (past : List Entry) → is_unfinished s past ≡ true → is_retained s past ≡ false
unfinished_not_retained s past open_now =
    false_from_ne_true _ (λ kept. both_ways _ (unfinished_is s past open_now).1 (finished_closed s past (retained_parts s past kept).0))

given : (rules : Rules) (s : ℕ) (entry : Entry) (past : List Entry) → is_legal rules past ≡ true → is_allowed rules past entry.author entry.point ≡ true → IsGift s entry.point → IsMoved (λ t. is_retained t past) (λ t. is_retained t (entry ∷ past)) s
given rules s entry past legal allowed gives =
    let open_before = finishes_open rules past entry.author s entry.point allowed gives.here in
    record {
      without = unfinished_not_retained s past open_before;
      within = retained_from s (entry ∷ past) (has_now (finishes s) entry past gives.here) (has_same (deletes s) entry past (gives.undeleted s) ∙ unfinished_undeleted rules s past legal open_before);
      others = λ t other. sym (retained_with t entry past (gives.others t other) (gives.undeleted t));
    }

taken : (rules : Rules) (s : ℕ) (entry : Entry) (past : List Entry) → is_allowed rules past entry.author entry.point ≡ true → IsTaking s entry.point → IsMoved (λ t. is_retained t (entry ∷ past)) (λ t. is_retained t past) s
taken rules s entry past allowed takes = record {
  without = deleted_not_retained s (entry ∷ past) (has_now (deletes s) entry past takes.here);
  within = deletes_retained rules past entry.author s entry.point allowed takes.here;
  others = λ t other. retained_with t entry past (takes.unfinished t) (takes.others t other);
}

-- ---- how many streams

streams : List Entry → List Entry → ℕ
streams past before = count_by (λ (e : Entry). stream_began past e.point) before

began_at : (past : List Entry) (point : Point) (o : Option ℕ) → session_begun point ≡ o → stream_began past point ≡ option_map_or (λ t. is_retained t past) o false
unfolding stream_began
began_at past point o e = ap (λ x. option_map_or (λ t. is_retained t past) x false) e

-- where the entry itself began no stream
streams_cons : (entry : Entry) (past : List Entry) → stream_began (entry ∷ past) entry.point ≡ false → streams (entry ∷ past) (entry ∷ past) ≡ streams (entry ∷ past) past
unfolding streams
streams_cons entry past none = count_other (λ (e : Entry). stream_began (entry ∷ past) e.point) entry past none

once_begun : (rules : Rules) (s : ℕ) (past : List Entry) → is_legal rules past ≡ true → has (begins s) past ≡ true → count_by (λ (e : Entry). is_number s (session_begun e.point)) past ≡ 1
unfolding begins
once_begun rules s past legal begun = once rules s past legal begun

streams_given : (rules : Rules) (s : ℕ) (entry : Entry) (past : List Entry) → is_legal rules past ≡ true → is_allowed rules past entry.author entry.point ≡ true → IsGift s entry.point → streams (entry ∷ past) (entry ∷ past) ≡ streams past past + 1
unfolding streams stream_began
streams_given rules s entry past legal allowed gives =
    let sums = count_moved (λ (e : Entry). session_begun e.point) (λ t. is_retained t past) (λ t. is_retained t (entry ∷ past)) s past (given rules s entry past legal allowed gives) in
    let one = once_begun rules s past legal (unfinished_is s past (finishes_open rules past entry.author s entry.point allowed gives.here)).0 in
    let newest = streams_cons entry past (began_at (entry ∷ past) entry.point None gives.settles.begun) in
    omega (arith, sums, one, newest)

finished_begun : (rules : Rules) (s : ℕ) (past : List Entry) → is_legal rules past ≡ true → is_retained s past ≡ true → has (begins s) past ≡ true
finished_begun rules s past legal kept = closed_begun rules s past legal (finished_closed s past (retained_parts s past kept).0)

streams_taken : (rules : Rules) (s : ℕ) (entry : Entry) (past : List Entry) → is_legal rules past ≡ true → is_allowed rules past entry.author entry.point ≡ true → IsTaking s entry.point → streams (entry ∷ past) (entry ∷ past) + 1 ≡ streams past past
unfolding streams stream_began
streams_taken rules s entry past legal allowed takes =
    let sums = count_moved (λ (e : Entry). session_begun e.point) (λ t. is_retained t (entry ∷ past)) (λ t. is_retained t past) s past (taken rules s entry past allowed takes) in
    let one = once_begun rules s past legal (finished_begun rules s past legal (deletes_retained rules past entry.author s entry.point allowed takes.here)) in
    let newest = streams_cons entry past (began_at (entry ∷ past) entry.point None takes.settles.begun) in
    omega (arith, sums, one, newest)

-- an entry that gives no stream began none
begun_none : (rules : Rules) (entry : Entry) (past : List Entry) (o : Option ℕ) → is_legal rules past ≡ true → is_allowed rules past entry.author entry.point ≡ true → IsNone entry.point → session_begun entry.point ≡ o → stream_began (entry ∷ past) entry.point ≡ false
unfolding begins
begun_none rules entry past None legal allowed none e = began_at (entry ∷ past) entry.point None e
begun_none rules entry past (Some s) legal allowed none e =
    let here : begins s entry.point ≡ true = ap (is_number s) e ∙ eq-eqb s s refl in
    let unbegun = next_unbegun rules s past legal (begins_next rules past entry.author s entry.point allowed here) in
    began_at (entry ∷ past) entry.point (Some s) e
    ∙ retained_with s entry past (none.unfinished s) (none.undeleted s)
    ∙ false_from_ne_true _ (λ kept. both_ways _ unbegun (finished_begun rules s past legal kept))

streams_level : (rules : Rules) (entry : Entry) (past : List Entry) → is_legal rules past ≡ true → is_allowed rules past entry.author entry.point ≡ true → IsNone entry.point → streams (entry ∷ past) (entry ∷ past) ≡ streams past past
unfolding streams stream_began
streams_level rules entry past legal allowed none =
    let sums = count_level (λ (e : Entry). session_begun e.point) (λ t. is_retained t (entry ∷ past)) (λ t. is_retained t past) past (λ t. retained_with t entry past (none.unfinished t) (none.undeleted t)) in
    let newest = streams_cons entry past (begun_none rules entry past (session_begun entry.point) legal allowed none refl) in
    omega (arith, sums, newest)

-- ---- their bytes

bytes : List Entry → List Entry → ℕ
bytes past before = sum_by (λ (e : Entry). bytes_retained past e.point) before

bytes_are : (past before : List Entry) → bytes past before ≡ sum_by (λ (e : Entry). counted (λ t. is_retained t past) (session_committed e.point) (bytes_committed e.point)) before
unfolding bytes
bytes_are past before = sum_retained past before

bytes_cons : (entry : Entry) (past : List Entry) → bytes_retained (entry ∷ past) entry.point ≡ 0 → bytes (entry ∷ past) (entry ∷ past) ≡ bytes (entry ∷ past) past
unfolding bytes
bytes_cons entry past none = let more = sum_by-cons (λ (e : Entry). bytes_retained (entry ∷ past) e.point) entry past in omega (arith, more, none)

uncommitted : (past : List Entry) (point : Point) → session_committed point ≡ None → bytes_retained past point ≡ 0
unfolding bytes_retained
uncommitted past (Commit manifest content text chunks bytes fresh fresh_bytes uses) none = absurd (cc)
uncommitted past _ none = refl

settled_bytes : (s : ℕ) (point : Point) (past : List Entry) → stream_settled point ≡ Some s → sum_by (bytes_at (reverse past)) (commits_settled point past) ≡ sum_by (λ (e : Entry). counted (λ t. eqb s t) (session_committed e.point) (bytes_committed e.point)) past
unfolding commits_settled
settled_bytes s point past settled =
    ap (λ o. sum_by (bytes_at (reverse past)) (option_map_or (λ session. numbers_of (commits session) past) o [])) settled
    ∙ bytes_by_numbers s past
    ∙ sum_commits s past

bytes_given : (rules : Rules) (s : ℕ) (entry : Entry) (past : List Entry) → is_legal rules past ≡ true → is_allowed rules past entry.author entry.point ≡ true → IsGift s entry.point → bytes (entry ∷ past) (entry ∷ past) ≡ bytes past past + sum_by (bytes_at (reverse past)) (commits_settled entry.point past)
bytes_given rules s entry past legal allowed gives =
    let sums = sum_moved (λ (e : Entry). session_committed e.point) (λ (e : Entry). bytes_committed e.point) (λ t. is_retained t past) (λ t. is_retained t (entry ∷ past)) s past (given rules s entry past legal allowed gives) in
    let older = bytes_are past past in
    let newer = bytes_are (entry ∷ past) past in
    let part = settled_bytes s entry.point past gives.settles.settled in
    let newest = bytes_cons entry past (uncommitted (entry ∷ past) entry.point gives.settles.committed) in
    omega (arith, sums, older, newer, part, newest)

bytes_taken : (rules : Rules) (s : ℕ) (entry : Entry) (past : List Entry) → is_legal rules past ≡ true → is_allowed rules past entry.author entry.point ≡ true → IsTaking s entry.point → bytes (entry ∷ past) (entry ∷ past) + sum_by (bytes_at (reverse past)) (commits_settled entry.point past) ≡ bytes past past
bytes_taken rules s entry past legal allowed takes =
    let sums = sum_moved (λ (e : Entry). session_committed e.point) (λ (e : Entry). bytes_committed e.point) (λ t. is_retained t (entry ∷ past)) (λ t. is_retained t past) s past (taken rules s entry past allowed takes) in
    let older = bytes_are past past in
    let newer = bytes_are (entry ∷ past) past in
    let part = settled_bytes s entry.point past takes.settles.settled in
    let newest = bytes_cons entry past (uncommitted (entry ∷ past) entry.point takes.settles.committed) in
    omega (arith, sums, older, newer, part, newest)

-- a Commit counts for nothing yet
commit_none : (rules : Rules) (author : ℕ) (point : Point) (past newer : List Entry) → is_allowed rules past author point ≡ true → ((t : ℕ) → is_retained t newer ≡ is_retained t past) → bytes_retained newer point ≡ 0
unfolding bytes_retained
commit_none rules author (Commit manifest content text chunks bytes fresh fresh_bytes uses) past newer allowed level =
    let said = commit_says rules past author manifest content text chunks bytes fresh fresh_bytes uses allowed in
    ap (λ b. cond b bytes 0) (level manifest.session ∙ unfinished_not_retained manifest.session past said.unfinished)
commit_none rules author _ past newer allowed level = refl

bytes_level : (rules : Rules) (entry : Entry) (past : List Entry) → is_allowed rules past entry.author entry.point ≡ true → IsNone entry.point → bytes (entry ∷ past) (entry ∷ past) ≡ bytes past past
bytes_level rules entry past allowed none =
    let level : (t : ℕ) → is_retained t (entry ∷ past) ≡ is_retained t past = λ t. retained_with t entry past (none.unfinished t) (none.undeleted t) in
    let sums = sum_level (λ (e : Entry). session_committed e.point) (λ (e : Entry). bytes_committed e.point) (λ t. is_retained t (entry ∷ past)) (λ t. is_retained t past) past level in
    let older = bytes_are past past in
    let newer = bytes_are (entry ∷ past) past in
    let newest = bytes_cons entry past (commit_none rules entry.author entry.point past (entry ∷ past) allowed level) in
    omega (arith, sums, older, newer, newest)

-- ---- the totals

-- what an entry that gives a stream, takes one, or does neither does to the totals of streams
pub record GivesStream (entry : Entry) (past : List Entry) : Type 0 where
  pub streams : (totals (entry ∷ past)).streams ≡ (totals past).streams + 1
  pub bytes : (totals (entry ∷ past)).bytes ≡ (totals past).bytes + sum_by (bytes_at (reverse past)) (commits_settled entry.point past)

pub record TakesStream (entry : Entry) (past : List Entry) : Type 0 where
  pub streams : (totals (entry ∷ past)).streams + 1 ≡ (totals past).streams
  pub bytes : (totals (entry ∷ past)).bytes + sum_by (bytes_at (reverse past)) (commits_settled entry.point past) ≡ (totals past).bytes

pub record KeepsStreams (entry : Entry) (past : List Entry) : Type 0 where
  pub streams : (totals (entry ∷ past)).streams ≡ (totals past).streams
  pub bytes : (totals (entry ∷ past)).bytes ≡ (totals past).bytes

pub gives : (rules : Rules) (entry : Entry) (past : List Entry) → is_legal rules past ≡ true → is_allowed rules past entry.author entry.point ≡ true → gives_stream entry.point ≡ true → GivesStream entry past
unfolding totals streams bytes
gives rules entry past legal allowed does =
    let found = gift entry.point does in
    record {
      streams = streams_given rules found.0 entry past legal allowed found.1;
      bytes = bytes_given rules found.0 entry past legal allowed found.1;
    }

pub takes : (rules : Rules) (entry : Entry) (past : List Entry) → is_legal rules past ≡ true → is_allowed rules past entry.author entry.point ≡ true → takes_stream entry.point ≡ true → TakesStream entry past
unfolding totals streams bytes
takes rules entry past legal allowed does =
    let found = taking entry.point does in
    record {
      streams = streams_taken rules found.0 entry past legal allowed found.1;
      bytes = bytes_taken rules found.0 entry past legal allowed found.1;
    }

pub keeps : (rules : Rules) (entry : Entry) (past : List Entry) → is_legal rules past ≡ true → is_allowed rules past entry.author entry.point ≡ true → gives_stream entry.point ≡ false → takes_stream entry.point ≡ false → KeepsStreams entry past
unfolding totals streams bytes
keeps rules entry past legal allowed ungiven untaken =
    let none = neither entry.point ungiven untaken in
    record {
      streams = streams_level rules entry past legal allowed none;
      bytes = bytes_level rules entry past allowed none;
    }
