-- A retained stream has all its segments committed, and each was chosen for.
use Rattle.std.proofs.Common.{◌≡◌, ℕ, ◌+◌, ◌≤◌, true, false, List, [], ◌∷◌, Option, Some, None, is_some, refl, sym, ◌∙◌, subst, inl, inr, arith, eqb-true}
use Rattle.std.specs.List.{count_by}
use Rattle.std.proofs.lemmas.Bool.{false≢true, both_ways, cases_Bool, and_parts, or_left, or_right, false_from_ne_true}
use Rattle.ss_base.specs.declared.profile.Numbers.{Numbers}
use Rattle.ss_base.proofs.MemberLaws.{count_one, count_other}
use Rattle.journal_entry.specs.declared.entry.Entry.{Entry}
use Rattle.journal_entry.specs.declared.entry.Point.{Point}
use Rattle.journal_entry.specs.declared.entry.Point.TheVariants.{Choose, Commit, Finish, Abort}
use Rattle.history.specs.declared.rules.Rules.{Rules}
use Rattle.history.specs.Sessions.{has, newest, chooses, commits, finishes, aborts, settles, is_unfinished, commits_of, champions_chosen, pending, is_pending}
use Rattle.history.specs.Legal.{is_allowed, is_legal}
use Rattle.history_laws.proofs.Allowed.{step, commit_says}
use Rattle.history_laws.proofs.SessionLaws.{has_cases, has_none, unfinished_is, finished_closed}
use Rattle.stored_streams.specs.Streams.{Streams, segment_count}
use Rattle.stored_streams.specs.OfStreams.{IsComplete, EachEntry}

-- ---- a finished session has all its segments

finish_commits_none : (s : ℕ) (point : Point) → finishes s point ≡ true → commits s point ≡ false
unfolding finishes commits
finish_commits_none s (Finish other containers) does = refl
finish_commits_none s _ does = absurd (false≢true does)

finish_complete : (n : Numbers) (streams : Streams) (past : List Entry) (s : ℕ) (point : Point) → finishes s point ≡ true → IsComplete n streams past point → commits_of s past ≡ segment_count n streams s
unfolding finishes
finish_complete n streams past s (Finish other containers) does all = subst (λ (t : ℕ). commits_of t past ≡ segment_count n streams t) (sym (eqb-true _ _ does)) all
finish_complete n streams past s _ does all = absurd (false≢true does)

commits_open : (rules : Rules) (past : List Entry) (author s : ℕ) (point : Point) → is_allowed rules past author point ≡ true → commits s point ≡ true → is_unfinished s past ≡ true
unfolding commits
commits_open rules past author s (Commit id content text chunks bytes fresh fresh_bytes uses) allowed does =
    subst (λ (t : ℕ). is_unfinished t past ≡ true) (sym (eqb-true _ _ does)) (commit_says rules past author id content text chunks bytes fresh fresh_bytes uses allowed).unfinished
commits_open rules past author s _ allowed does = absurd (false≢true does)

pub commits_same : (s : ℕ) (entry : Entry) (past : List Entry) → commits s entry.point ≡ false → commits_of s (entry ∷ past) ≡ commits_of s past
unfolding commits_of
commits_same s entry past other = count_other (λ (e : Entry). commits s e.point) entry past other

pub commits_more : (s : ℕ) (entry : Entry) (past : List Entry) → commits s entry.point ≡ true → commits_of s (entry ∷ past) ≡ 1 + commits_of s past
unfolding commits_of
commits_more s entry past here = count_one (λ (e : Entry). commits s e.point) entry past here

pub finished_complete : (n : Numbers) (streams : Streams) (rules : Rules) (past : List Entry) (s : ℕ) → is_legal rules past ≡ true → EachEntry (IsComplete n streams) past → has (finishes s) past ≡ true → commits_of s past ≡ segment_count n streams s
finished_complete n streams rules [] s legal complete done = absurd (both_ways _ (has_none (finishes s)) done)
finished_complete n streams rules (entry ∷ past) s legal complete done =
    let now = step rules entry past legal in
    elim (has_cases (finishes s) entry past done) [
      | inl here ↦ commits_same s entry past (finish_commits_none s entry.point here) ∙ finish_complete n streams past s entry.point here complete.1
      | inr older ↦
          let closed = finished_closed s past older in
          let other : commits s entry.point ≡ false = false_from_ne_true _ (λ does. both_ways _ (unfinished_is s past (commits_open rules past entry.author s entry.point now.allowed does)).1 closed) in
          commits_same s entry past other ∙ finished_complete n streams rules past s now.legal complete.0 older
    ]

-- ---- as many choices as commits, and one more where one is pending

record AreChosen (s : ℕ) (past : List Entry) : Type 0 where
  all : commits_of s past ≤ count_by (λ (e : Entry). chooses s e.point) past
  more : is_pending s past ≡ true → commits_of s past + 1 ≤ count_by (λ (e : Entry). chooses s e.point) past

pending_none : (s : ℕ) → is_pending s [] ≡ false
unfolding is_pending pending newest
pending_none s = refl

pending_same : (s : ℕ) (entry : Entry) (past : List Entry) → settles s entry.point ≡ false → is_pending s (entry ∷ past) ≡ is_pending s past
unfolding is_pending pending newest
pending_same s entry past other = rw other refl

pending_now : (s : ℕ) (entry : Entry) (past : List Entry) → settles s entry.point ≡ true → is_pending s (entry ∷ past) ≡ is_some (champions_chosen entry.point)
unfolding is_pending pending newest
pending_now s entry past here = rw here refl

no_commits : (s : ℕ) → commits_of s [] ≡ 0
unfolding commits_of
no_commits s = refl

-- what each kind of entry says of the choices of a session
choose_pending : (rules : Rules) (past : List Entry) (author s : ℕ) (point : Point) → is_allowed rules past author point ≡ true → chooses s point ≡ true → commits s point ≡ false
unfolding chooses commits
choose_pending rules past author s (Choose other hooks champions) allowed does = refl
choose_pending rules past author s _ allowed does = absurd (false≢true does)

commit_pending : (rules : Rules) (past : List Entry) (author s : ℕ) (point : Point) → is_allowed rules past author point ≡ true → commits s point ≡ true → (is_pending s past ≡ true) × (chooses s point ≡ false) × (champions_chosen point ≡ None)
unfolding commits chooses champions_chosen is_allowed
commit_pending rules past author s (Commit id content text chunks bytes fresh fresh_bytes uses) allowed does =
    let waits = (and_parts _ _ (and_parts _ _ allowed).1).0 in
    (subst (λ (t : ℕ). is_pending t past ≡ true) (sym (eqb-true _ _ does)) waits, refl, refl)
commit_pending rules past author s _ allowed does = absurd (false≢true does)

abort_ends : (s : ℕ) (point : Point) → aborts s point ≡ true → champions_chosen point ≡ None
unfolding aborts champions_chosen
abort_ends s (Abort other containers texts) does = refl
abort_ends s _ does = absurd (false≢true does)

none_is : {X : Type 0} (o : Option X) → o ≡ None → is_some o ≡ true → ⊥
none_is None e some = false≢true some
none_is (Some x) e some = cc

chosen_step : (rules : Rules) (s : ℕ) (entry : Entry) (past : List Entry) → is_allowed rules past entry.author entry.point ≡ true → AreChosen s past → AreChosen s (entry ∷ past)
unfolding settles
chosen_step rules s entry past allowed before =
    let old = before.all in
    let chose = λ (e : Entry). chooses s e.point in
    elim (cases_Bool (chooses s entry.point)) [
      | inl here ↦
          let more = count_one chose entry past here in
          let same = commits_same s entry past (choose_pending rules past entry.author s entry.point allowed here) in
          record { all = omega (arith, more, same, old); more = λ _. omega (arith, more, same, old) }
      | inr unchosen ↦
          let count = count_other chose entry past unchosen in
          elim (cases_Bool (commits s entry.point)) [
            | inl here ↦
                let says = commit_pending rules past entry.author s entry.point allowed here in
                let waits = before.more says.0 in
                let more = commits_more s entry past here in
                record {
                  all = omega (arith, more, count, waits);
                  more = λ is. absurd (none_is (champions_chosen entry.point) says.2 (sym (pending_now s entry past (or_right _ _ (or_left _ _ here))) ∙ is));
                }
            | inr uncommitted ↦
                let same = commits_same s entry past uncommitted in
                elim (cases_Bool (aborts s entry.point)) [
                  | inl here ↦ record {
                    all = omega (arith, same, count, old);
                    more = λ is. absurd (none_is (champions_chosen entry.point) (abort_ends s entry.point here) (sym (pending_now s entry past (or_right _ _ (or_right _ _ here))) ∙ is));
                  }
                  | inr unaborted ↦
                      let unsettled : settles s entry.point ≡ false = rw unchosen (rw uncommitted unaborted) in
                      record {
                        all = omega (arith, same, count, old);
                        more = λ is. let waits = before.more (sym (pending_same s entry past unsettled) ∙ is) in omega (arith, same, count, waits);
                      }
                ]
          ]
    ]

are_chosen : (rules : Rules) (s : ℕ) (past : List Entry) → is_legal rules past ≡ true → AreChosen s past
are_chosen rules s [] legal = record { all = let none = no_commits s in omega (arith, none); more = λ is. absurd (both_ways _ (pending_none s) is) }
are_chosen rules s (entry ∷ past) legal =
    let now = step rules entry past legal in
    chosen_step rules s entry past now.allowed (are_chosen rules s past now.legal)

-- a segment that is committed was chosen for
pub commits_chosen : (rules : Rules) (s : ℕ) (past : List Entry) → is_legal rules past ≡ true → commits_of s past ≤ count_by (λ (e : Entry). chooses s e.point) past
commits_chosen rules s past legal = (are_chosen rules s past legal).all
