-- Laws of the sessions of a legal history.
use Rattle.std.proofs.Common.{◌≡◌, ◌⊎◌, ℕ, ◌<◌, ◌≤◌, Bool, true, false, not, ◌||◌, List, [], ◌∷◌, refl, ap, ◌∙◌, inl, inr, arith, Option, Some, None, is_some}
use Rattle.std.specs.List.{count_by}
use Rattle.std.proofs.lemmas.Bool.{false≢true, both_ways, and_parts, and_from, and_right, or_cases, or_left, or_right, or_parts, not-true, not_from_true, not_from_false, false_from_ne_true, cases_Bool}
use Rattle.ss_base.specs.declared.ids.ManifestId.{ManifestId}
use Rattle.journal_entry.specs.declared.entry.Entry.{Entry}
use Rattle.history.specs.declared.rules.Rules.{Rules}
use Rattle.journal_entry.specs.declared.entry.Point.{Point}
use Rattle.journal_entry.specs.declared.entry.Point.TheVariants.{Commit}
use Rattle.history.specs.Sessions.{is_number, session_begun, session_count, begins_some, begins, commits, finishes, aborts, closes, deletes, has, is_unfinished, is_retained, commits_of}
use Rattle.history.specs.Need.{commits_manifest}
use Rattle.history.specs.Legal.{is_legal}
use Rattle.ss_base.proofs.MemberLaws.{In, any_in, in_any, count_one, count_other}
use Rattle.history_laws.proofs.Allowed.{step, deletes_retained, begins_next, commits_next}

-- ---- some entry does it

-- the newest entry does it, or an older one
pub has_cases : (does : Point → Bool) (entry : Entry) (past : List Entry) → has does (entry ∷ past) ≡ true → (does entry.point ≡ true) ⊎ (has does past ≡ true)
unfolding has
has_cases does entry past some = or_cases _ _ some

pub has_now : (does : Point → Bool) (entry : Entry) (past : List Entry) → does entry.point ≡ true → has does (entry ∷ past) ≡ true
unfolding has
has_now does entry past here = or_left (does entry.point) (has does past) here

pub has_older : (does : Point → Bool) (entry : Entry) (past : List Entry) → has does past ≡ true → has does (entry ∷ past) ≡ true
unfolding has
has_older does entry past older = or_right (does entry.point) (has does past) older

pub has_same : (does : Point → Bool) (entry : Entry) (past : List Entry) → does entry.point ≡ false → has does (entry ∷ past) ≡ has does past
unfolding has
has_same does entry past other = ap (λ b. b || has does past) other

pub has_none : (does : Point → Bool) → has does [] ≡ false
unfolding has
has_none does = refl

pub has_not : (does : Point → Bool) (entry : Entry) (past : List Entry) → does entry.point ≡ false → has does past ≡ false → has does (entry ∷ past) ≡ false
has_not does entry past other none = has_same does entry past other ∙ none

pub has_parts : (does : Point → Bool) (entry : Entry) (past : List Entry) → has does (entry ∷ past) ≡ false → (does entry.point ≡ false) × (has does past ≡ false)
unfolding has
has_parts does entry past none = or_parts _ _ none

-- an entry of the history does it
pub has_from : (does : Point → Bool) (entry : Entry) (past : List Entry) → In entry past → does entry.point ≡ true → has does past ≡ true
unfolding has
has_from does entry past h here = in_any (λ (e : Entry). does e.point) entry past h here

pub has_weaker : (p q : Point → Bool) (past : List Entry) → ((point : Point) → p point ≡ true → q point ≡ true) → has p past ≡ true → has q past ≡ true
unfolding has
has_weaker p q past implies some =
    let found = any_in (λ (entry : Entry). p entry.point) past some in
    in_any (λ (entry : Entry). q entry.point) found.0 past found.1 (implies found.0.point found.2)

-- ---- open, closed, retained

pub unfinished_is : (s : ℕ) (past : List Entry) → is_unfinished s past ≡ true → (has (begins s) past ≡ true) × (has (closes s) past ≡ false)
unfolding is_unfinished
unfinished_is s past open_now =
    let parts = and_parts _ _ open_now in
    (parts.0, not-true _ parts.1)

pub unfinished_from : (s : ℕ) (past : List Entry) → has (begins s) past ≡ true → has (closes s) past ≡ false → is_unfinished s past ≡ true
unfolding is_unfinished
unfinished_from s past begun open_still = and_from (has (begins s) past) (not (has (closes s) past)) begun (not_from_false _ open_still)

pub closed_not_unfinished : (s : ℕ) (past : List Entry) → has (closes s) past ≡ true → is_unfinished s past ≡ false
unfolding is_unfinished
closed_not_unfinished s past closed = and_right _ _ (not_from_true _ closed)

pub retained_parts : (s : ℕ) (past : List Entry) → is_retained s past ≡ true → (has (finishes s) past ≡ true) × (has (deletes s) past ≡ false)
unfolding is_retained
retained_parts s past kept =
    let parts = and_parts _ _ kept in
    (parts.0, not-true _ parts.1)

pub retained_from : (s : ℕ) (past : List Entry) → has (finishes s) past ≡ true → has (deletes s) past ≡ false → is_retained s past ≡ true
unfolding is_retained
retained_from s past finished undeleted = and_from (has (finishes s) past) (not (has (deletes s) past)) finished (not_from_false _ undeleted)

finishes_closes : (s : ℕ) (point : Point) → finishes s point ≡ true → closes s point ≡ true
unfolding closes
finishes_closes s point finish = or_left (finishes s point) (aborts s point) finish

aborts_closes : (s : ℕ) (point : Point) → aborts s point ≡ true → closes s point ≡ true
unfolding closes
aborts_closes s point abort = or_right (finishes s point) (aborts s point) abort

pub finished_closed : (s : ℕ) (past : List Entry) → has (finishes s) past ≡ true → has (closes s) past ≡ true
finished_closed s past finished = has_weaker (finishes s) (closes s) past (finishes_closes s) finished

pub aborted_closed : (s : ℕ) (past : List Entry) → has (aborts s) past ≡ true → has (closes s) past ≡ true
aborted_closed s past aborted = has_weaker (aborts s) (closes s) past (aborts_closes s) aborted

-- a session that is not retained and is closed was aborted or deleted, and so never has a stream again
pub closed_cases : (s : ℕ) (past : List Entry) → has (closes s) past ≡ true → (has (finishes s) past ≡ true) ⊎ (has (aborts s) past ≡ true)
unfolding has closes
closed_cases s past closed =
    let found = any_in (λ (entry : Entry). closes s entry.point) past closed in
    elim (or_cases _ _ found.2) [
      | inl finish ↦ inl (in_any (λ (entry : Entry). finishes s entry.point) found.0 past found.1 finish)
      | inr abort ↦ inr (in_any (λ (entry : Entry). aborts s entry.point) found.0 past found.1 abort)
    ]

-- ---- what holds in every legal history

pub deleted_finished : (rules : Rules) (s : ℕ) (past : List Entry) → is_legal rules past ≡ true → has (deletes s) past ≡ true → has (finishes s) past ≡ true
deleted_finished rules s [] legal deleted = absurd (both_ways _ (has_none (deletes s)) deleted)
deleted_finished rules s (entry ∷ past) legal deleted =
    let now = step rules entry past legal in
    has_older (finishes s) entry past (elim (has_cases (deletes s) entry past deleted) [
      | inl here ↦ (retained_parts _ _ (deletes_retained rules past entry.author s entry.point now.allowed here)).0
      | inr older ↦ deleted_finished rules s past now.legal older
    ])

-- what is unfinished is not deleted
pub unfinished_undeleted : (rules : Rules) (s : ℕ) (past : List Entry) → is_legal rules past ≡ true → is_unfinished s past ≡ true → has (deletes s) past ≡ false
unfinished_undeleted rules s past legal open_now =
    false_from_ne_true _ (λ deleted.
    both_ways _ (unfinished_is _ _ open_now).1 (finished_closed s past (deleted_finished rules s past legal deleted)))

pub unfinished_unaborted : (s : ℕ) (past : List Entry) → is_unfinished s past ≡ true → has (aborts s) past ≡ false
unfinished_unaborted s past open_now =
    false_from_ne_true _ (λ aborted. both_ways _ (unfinished_is _ _ open_now).1 (aborted_closed s past aborted))

-- ---- numbers

some_number : (n : ℕ) (o : Option ℕ) → is_number n o ≡ true → is_some o ≡ true
some_number n None e = e
some_number n (Some m) e = refl

begins_begins_some : (s : ℕ) (point : Point) → begins s point ≡ true → begins_some point ≡ true
unfolding begins begins_some
begins_begins_some s point does = some_number s (session_begun point) does

commits_manifest_commits : (id : ManifestId) (point : Point) → commits_manifest id point ≡ true → commits id.session point ≡ true
unfolding commits_manifest commits
commits_manifest_commits id (Commit other content text chunks bytes fresh fresh_bytes uses) does = (and_parts _ _ does).0
commits_manifest_commits id _ does = absurd (false≢true does)

count_older : (p : Entry → Bool) (entry : Entry) (past : List Entry) → count_by p past ≤ count_by p (entry ∷ past)
count_older p entry past = elim (cases_Bool (p entry)) [
  | inl here ↦ let more = count_one p entry past here in omega (arith, more)
  | inr other ↦ let same = count_other p entry past other in omega (arith, same)
]

-- sessions have the numbers below their count
pub begun_below : (rules : Rules) (s : ℕ) (past : List Entry) → is_legal rules past ≡ true → has (begins s) past ≡ true → s < session_count past
unfolding session_count
begun_below rules s [] legal begun = absurd (both_ways _ (has_none (begins s)) begun)
begun_below rules s (entry ∷ past) legal begun =
    let now = step rules entry past legal in
    elim (has_cases (begins s) entry past begun) [
      | inl here ↦
          let next : s ≡ session_count past = begins_next rules past entry.author s entry.point now.allowed here in
          let more = count_one (λ (e : Entry). begins_some e.point) entry past (begins_begins_some s entry.point here) in
          omega (arith, next, more)
      | inr older ↦
          let below : s < session_count past = begun_below rules s past now.legal older in
          let more = count_older (λ (e : Entry). begins_some e.point) entry past in
          omega (arith, below, more)
    ]

-- the manifests that a session committed have the numbers below their count
pub committed_below : (rules : Rules) (id : ManifestId) (past : List Entry) → is_legal rules past ≡ true → has (commits_manifest id) past ≡ true → id.seq < commits_of id.session past
unfolding commits_of
committed_below rules id [] legal committed = absurd (both_ways _ (has_none (commits_manifest id)) committed)
committed_below rules id (entry ∷ past) legal committed =
    let now = step rules entry past legal in
    elim (has_cases (commits_manifest id) entry past committed) [
      | inl here ↦
          let next : id.seq ≡ commits_of id.session past = (commits_next rules past entry.author id entry.point now.allowed here).1 in
          let more = count_one (λ (e : Entry). commits id.session e.point) entry past (commits_manifest_commits id entry.point here) in
          omega (arith, next, more)
      | inr older ↦
          let below : id.seq < commits_of id.session past = committed_below rules id past now.legal older in
          let more = count_older (λ (e : Entry). commits id.session e.point) entry past in
          omega (arith, below, more)
    ]

pub committed_begun : (rules : Rules) (id : ManifestId) (past : List Entry) → is_legal rules past ≡ true → has (commits_manifest id) past ≡ true → has (begins id.session) past ≡ true
committed_begun rules id [] legal committed = absurd (both_ways _ (has_none (commits_manifest id)) committed)
committed_begun rules id (entry ∷ past) legal committed =
    let now = step rules entry past legal in
    has_older (begins id.session) entry past (elim (has_cases (commits_manifest id) entry past committed) [
      | inl here ↦ (unfinished_is _ _ (commits_next rules past entry.author id entry.point now.allowed here).0).0
      | inr older ↦ committed_begun rules id past now.legal older
    ])
