-- A session as its caller knows it, entry by entry.
use Rattle.std.proofs.Common.{◌≡◌, ◌≢◌, ℕ, suc, ◌+◌, ◌<◌, ◌≤◌, Bool, true, false, ◌&&◌, ◌||◌, eqb, cond, max, List, [], ◌∷◌, ◌++◌, reverse, Option, Some, None, All, refl, sym, ap, ◌∙◌, subst, inl, inr, arith, eqb-true}
use Rattle.std.specs.Option.{option_map, option_and_then}
use Rattle.std.specs.List.{Contains}
use Rattle.std.proofs.lemmas.Bool.{false≢true, and_parts, or_parts, both_ways, false_from_ne_true, eq-eqb, and_from, or_left, or_right, or_from}
use Rattle.std.proofs.lemmas.List.{append_assoc, reverse-append}
use Rattle.ss_base.specs.declared.ids.ContainerId.{ContainerId}
use Rattle.ss_base.specs.declared.ids.ManifestId.{ManifestId}
use Rattle.ss_base.specs.declared.name.Name.{Name}
use Rattle.ss_base.proofs.MemberLaws.{in_Contains, count_one, count_other, count_none}
use Rattle.journal_entry.specs.declared.entry.Entry.{Entry}
use Rattle.journal_entry.specs.declared.entry.Point.{Point}
use Rattle.journal_entry.specs.declared.entry.Point.TheVariants.{Begin, Choose, Commit, Finish, Abort}
use Rattle.history.specs.declared.rules.Rules.{Rules}
use Rattle.history.specs.OwnEnd.{greatest_by, end_used, own_end}
use Rattle.history.specs.Sessions.{is_number, session_begun, begins, chooses, commits, finishes, aborts, closes, deletes, settles, has, newest, author_of, is_unfinished, is_begun_by, is_held, session_count, champions_chosen, pending, commits_of}
use Rattle.history.specs.Legal.{is_open_to, reply_to_begin, is_allowed, is_legal}
use Rattle.history.proofs.LegalLaws.{is_legal-older}
use Rattle.history_laws.specs.OwnUse.{UsesOwn}
use Rattle.history_laws.proofs.Allowed.{step, begins_next, deletes_retained}
use Rattle.history_laws.proofs.SessionLaws.{has_same, has_now, has_none, has_not, has_parts, has_from, unfinished_is, unfinished_from, retained_parts, finished_closed, begun_below}
use Rattle.history_laws.proofs.OtherLaws.{IsOther, unfinished_same, author_same, commits_same, pending_kept, ends_same}
use Rattle.history_laws.proofs.UnfinishedLaws.{closed_begun, next_unbegun}
use Rattle.history_laws.proofs.OwnEndLaws.{own_end_least}
use Rattle.history_laws.proofs.StandingLaws.{made}
use Rattle.history_calls.specs.OpenAt.{IsOpenAt}

module _ (s : ℕ) (past : List Entry) where
  -- ---- entries of others

  open_parts : (author : ℕ) → is_open_to author s past ≡ true → (is_unfinished s past ≡ true) × (is_begun_by author s past ≡ true)
  unfolding is_open_to
  open_parts author open_to = and_parts _ _ open_to

  same_number : (a b : ℕ) (o : Option ℕ) → is_number a o ≡ true → is_number b o ≡ true → a ≡ b
  same_number a b (Some n) is is' = eqb-true _ _ is ∙ sym (eqb-true _ _ is')
  same_number a b None is is' = absurd (false≢true is)

  -- a session is open to its author alone
  one_author : (a b : ℕ) → is_open_to a s past ≡ true → is_open_to b s past ≡ true → a ≡ b
  unfolding is_begun_by
  one_author a b open_a open_b = same_number a b (author_of (begins s) past) (open_parts a open_a).1 (open_parts b open_b).1

  at_number : (a t : ℕ) → eqb s t ≡ true → is_open_to a t past ≡ true → is_open_to a s past ≡ true
  at_number a t same open_to = subst (λ n. is_open_to a n past ≡ true) (sym (eqb-true _ _ same)) open_to

  -- an entry that is allowed chooses for a session, commits or closes it only where it is open to the entry's author
  chooses_open : (rules : Rules) (a : ℕ) (point : Point) → is_allowed rules past a point ≡ true → chooses s point ≡ true → is_open_to a s past ≡ true
  unfolding is_allowed chooses
  chooses_open rules a (Choose t hooks champions) allowed does = at_number a t does (and_parts _ _ allowed).0
  chooses_open rules a _ allowed does = absurd (false≢true does)

  commits_open : (rules : Rules) (a : ℕ) (point : Point) → is_allowed rules past a point ≡ true → commits s point ≡ true → is_open_to a s past ≡ true
  unfolding is_allowed commits
  commits_open rules a (Commit id content text chunks bytes fresh fresh_bytes uses) allowed does = at_number a id.session does (and_parts _ _ allowed).0
  commits_open rules a _ allowed does = absurd (false≢true does)

  finishes_open : (rules : Rules) (a : ℕ) (point : Point) → is_allowed rules past a point ≡ true → finishes s point ≡ true → is_open_to a s past ≡ true
  unfolding is_allowed finishes
  finishes_open rules a (Finish t containers) allowed does = at_number a t does (and_parts _ _ allowed).0
  finishes_open rules a _ allowed does = absurd (false≢true does)

  aborts_open : (rules : Rules) (a : ℕ) (point : Point) → is_allowed rules past a point ≡ true → aborts s point ≡ true → is_open_to a s past ≡ true
  unfolding is_allowed aborts
  aborts_open rules a (Abort t containers texts) allowed does = at_number a t does (and_parts _ _ allowed).0
  aborts_open rules a _ allowed does = absurd (false≢true does)

  module _ (rules : Rules) (author : ℕ) (entry : Entry) (legal : is_legal rules (entry ∷ past) ≡ true) (other : entry.author ≢ author) (open_to : is_open_to author s past ≡ true) where
    is_own : is_open_to entry.author s past ≡ true → ⊥
    is_own open_too = other (one_author entry.author author open_too open_to)

    not_begun : begins s entry.point ≡ false
    not_begun = false_from_ne_true _ (λ does.
        let now = step rules entry past legal in
        let next = begins_next rules past entry.author s entry.point now.allowed does in
        let below = begun_below rules s past now.legal (unfinished_is s past (open_parts author open_to).0).0 in
        absurd (omega (arith, next, below)))

    not_chosen : chooses s entry.point ≡ false
    not_chosen = false_from_ne_true _ (λ does. is_own (chooses_open rules entry.author entry.point (step rules entry past legal).allowed does))

    not_committed : commits s entry.point ≡ false
    not_committed = false_from_ne_true _ (λ does. is_own (commits_open rules entry.author entry.point (step rules entry past legal).allowed does))

    not_finished : finishes s entry.point ≡ false
    not_finished = false_from_ne_true _ (λ does. is_own (finishes_open rules entry.author entry.point (step rules entry past legal).allowed does))

    not_aborted : aborts s entry.point ≡ false
    not_aborted = false_from_ne_true _ (λ does. is_own (aborts_open rules entry.author entry.point (step rules entry past legal).allowed does))

    not_deleted : deletes s entry.point ≡ false
    not_deleted = false_from_ne_true _ (λ does.
        let kept = deletes_retained rules past entry.author s entry.point (step rules entry past legal).allowed does in
        both_ways _ (unfinished_is s past (open_parts author open_to).0).1 (finished_closed s past (retained_parts s past kept).0))

    pub is_other : IsOther s entry.point
    unfolding settles closes
    is_other = record {
      begun = not_begun;
      chosen = not_chosen;
      committed = not_committed;
      aborted = not_aborted;
      finished = not_finished;
      settled = rw (not_chosen, not_committed, not_aborted) refl;
      closed = rw (not_finished, not_aborted) refl;
      deleted = not_deleted;
    }

  -- ---- any entry that is another's

  open_same : (author : ℕ) (entry : Entry) → IsOther s entry.point → is_open_to author s (entry ∷ past) ≡ is_open_to author s past
  unfolding is_open_to
  open_same author entry other = λ i. unfinished_same s entry past other i && author_same author s entry past other i

  pub other_keeps : (author : ℕ) (choice : Option (List ManifestId)) (commit_count containers : ℕ) (entry : Entry) → IsOther s entry.point → IsOpenAt author s choice commit_count containers past → IsOpenAt author s choice commit_count containers (entry ∷ past)
  other_keeps author choice commit_count containers entry other at = record {
    open_to = open_same author entry other ∙ at.open_to;
    choice_is = pending_kept s entry past other ∙ at.choice_is;
    commit_count = commits_same s entry past other ∙ at.commit_count;
    used = let same = ends_same s entry past other in let used = at.used in omega (arith, same, used);
  }

module _ (rules : Rules) (author s : ℕ) (choice : Option (List ManifestId)) (commit_count containers : ℕ) where
  one_more : (entry : Entry) (came past : List Entry) → reverse (entry ∷ came) ++ past ≡ reverse came ++ (entry ∷ past)
  one_more entry came past = ap (λ xs. xs ++ past) (reverse-append (entry ∷ []) came) ∙ append_assoc (reverse came) (entry ∷ []) past

  -- what others add leaves the caller's session as it was
  pub still_open : (came past : List Entry) → is_legal rules (reverse came ++ past) ≡ true → All (λ (entry : Entry). entry.author ≢ author) came → IsOpenAt author s choice commit_count containers past → IsOpenAt author s choice commit_count containers (reverse came ++ past)
  still_open [] past legal others at = at
  still_open (entry ∷ came) past legal others at =
      let whole = one_more entry came past in
      let legal' : is_legal rules (reverse came ++ (entry ∷ past)) ≡ true = subst (λ xs. is_legal rules xs ≡ true) whole legal in
      let older = is_legal-older rules (reverse came) (entry ∷ past) legal' in
      let at' = other_keeps s past author choice commit_count containers entry (is_other s past rules author entry older (others 0 entry (omega arith)) at.open_to) at in
      subst (λ xs. IsOpenAt author s choice commit_count containers xs) (sym whole) (still_open came (entry ∷ past) legal' (λ k d below. others (suc k) d (omega (arith, below))) at')

-- ---- the caller's own entries

self : (s : ℕ) → eqb s s ≡ true
self s = eq-eqb s s refl

newest_now : (does : Point → Bool) (entry : Entry) (past : List Entry) → does entry.point ≡ true → newest does (entry ∷ past) ≡ Some entry
unfolding newest
newest_now does entry past here = rw here refl

newest_same : (does : Point → Bool) (entry : Entry) (past : List Entry) → does entry.point ≡ false → newest does (entry ∷ past) ≡ newest does past
unfolding newest
newest_same does entry past other = rw other refl

newest_none : (does : Point → Bool) (past : List Entry) → has does past ≡ false → newest does past ≡ None
unfolding has newest
newest_none does [] none = refl
newest_none does (entry ∷ past) none =
    let parts = or_parts (does entry.point) (has does past) none in
    rw parts.0 (newest_none does past parts.1)

still_open_to : (author s : ℕ) (entry : Entry) (past : List Entry) → begins s entry.point ≡ false → closes s entry.point ≡ false → is_open_to author s past ≡ true → is_open_to author s (entry ∷ past) ≡ true
unfolding is_open_to is_begun_by author_of
still_open_to author s entry past not_begun not_closed open_to =
    let parts = and_parts _ _ open_to in
    let ends = unfinished_is s past parts.0 in
    let unfinished = unfinished_from s (entry ∷ past) (has_same (begins s) entry past not_begun ∙ ends.0) (has_same (closes s) entry past not_closed ∙ ends.1) in
    let begun = ap (λ o. is_number author (option_map (λ (e : Entry). e.author) o)) (newest_same (begins s) entry past not_begun) ∙ parts.1 in
    and_from _ _ unfinished begun

pending_at : (s : ℕ) (entry : Entry) (past : List Entry) → settles s entry.point ≡ true → pending s (entry ∷ past) ≡ champions_chosen entry.point
unfolding pending
pending_at s entry past here = ap (λ o. option_and_then (λ (e : Entry). champions_chosen e.point) o) (newest_now (settles s) entry past here)

most_max : (a b n : ℕ) → a ≤ n → b ≤ n → max a b ≤ n
most_max a b n first second = omega (arith, first, second)

-- a choice is pending behind it
pub chosen_at : (author s commit_count containers : ℕ) (hooks : List Name) (champions : List ManifestId) (past : List Entry) → IsOpenAt author s None commit_count containers past → IsOpenAt author s (Some champions) commit_count containers (made author (Choose s hooks champions) ∷ past)
unfolding begins session_begun chooses commits finishes aborts closes settles champions_chosen commits_of own_end greatest_by end_used
chosen_at author s commit_count containers hooks champions past at =
    let e : Entry = made author (Choose s hooks champions) in
    record {
      open_to = still_open_to author s e past refl refl at.open_to;
      choice_is = pending_at s e past (or_left _ _ (self s));
      commit_count = count_other (λ (x : Entry). commits s x.point) e past refl ∙ at.commit_count;
      used = most_max 0 (own_end s past) containers (omega arith) at.used;
    }

only : (entry e : Entry) → Contains (entry ∷ []) e → e ≡ entry
only entry e there = elim (in_Contains e (entry ∷ []) there) [ inl is ↦ sym is | inr none ↦ absurd none ]

-- the containers of one entry
one_end : (s n : ℕ) (entry : Entry) → ((id : ContainerId) → UsesOwn s id entry.point → id.ordinal < n) → end_used s entry.point ≤ n
unfolding own_end greatest_by
one_end s n entry each =
    let most = own_end_least (entry ∷ []) s n (λ e id there use_. each id (subst (λ (x : Entry). UsesOwn s id x.point) (only entry e there) use_)) in
    omega (arith, most)

-- a commit ends it, and is one more
pub committed_at : (author s k n n' : ℕ) (champions : List ManifestId) (content text : Name) (chunks bytes fresh fresh_bytes : ℕ) (uses : List ContainerId) (past : List Entry)
    → n ≤ n' → ((id : ContainerId) → Contains uses id → id.session ≡ s → id.ordinal < n')
    → IsOpenAt author s (Some champions) k n past
    → IsOpenAt author s None (k + 1) n' (made author (Commit (record { session = s; seq = k }) content text chunks bytes fresh fresh_bytes uses) ∷ past)
unfolding begins session_begun chooses commits finishes aborts closes settles champions_chosen commits_of own_end greatest_by
committed_at author s k n n' champions content text chunks bytes fresh fresh_bytes uses past more each at =
    let e : Entry = made author (Commit (record { session = s; seq = k }) content text chunks bytes fresh fresh_bytes uses) in
    let count = count_one (λ (x : Entry). commits s x.point) e past (self s) in
    let counted = at.commit_count in
    record {
      open_to = still_open_to author s e past refl refl at.open_to;
      choice_is = pending_at s e past (or_right (chooses s e.point) (commits s e.point || aborts s e.point) (or_left (commits s e.point) (aborts s e.point) (self s)));
      commit_count = omega (arith, count, counted);
      used = let used = at.used in most_max (end_used s e.point) (own_end s past) n' (one_end s n' e (λ id use_. each id use_.2 use_.1)) (omega (arith, used, more));
    }

-- ---- a session that begins

unsettled : (s : ℕ) (point : Point) → chooses s point ≡ false → commits s point ≡ false → aborts s point ≡ false → settles s point ≡ false
unfolding settles
unsettled s point not_chosen not_committed not_aborted = or_from _ _ not_chosen (or_from _ _ not_committed not_aborted)

uses_commit : (s : ℕ) (id : ContainerId) (point : Point) → UsesOwn s id point → commits s point ≡ true
unfolding commits
uses_commit s id (Commit manifest content text chunks bytes fresh fresh_bytes uses) use_ = eq-eqb _ _ (sym use_.0)
uses_commit s id _ use_ = absurd use_

next_of : (held : Bool) (s n : ℕ) → cond held None (Some n) ≡ Some s → s ≡ n
next_of true s n e = absurd (cc)
next_of false s n e = cc

next_is : (name : List ℕ) (s : ℕ) (past : List Entry) → reply_to_begin name past ≡ Some s → s ≡ session_count past
unfolding reply_to_begin
next_is name s past reply = next_of (is_held name past) s (session_count past) reply

unbegun_idle : (rules : Rules) (s : ℕ) (past : List Entry) → is_legal rules past ≡ true → has (begins s) past ≡ false → (has (settles s) past ≡ false) × (has (commits s) past ≡ false)
unbegun_idle rules s [] legal none = (has_none (settles s), has_none (commits s))
unbegun_idle rules s (entry ∷ past) legal none =
    let now = step rules entry past legal in
    let parts = has_parts (begins s) entry past none in
    let older = unbegun_idle rules s past now.legal parts.1 in
    let never : (is_open_to entry.author s past ≡ true) → ⊥ = λ open_to. both_ways _ parts.1 (unfinished_is s past (open_parts s past entry.author open_to).0).0 in
    let not_chosen : chooses s entry.point ≡ false = false_from_ne_true _ (λ does. never (chooses_open s past rules entry.author entry.point now.allowed does)) in
    let not_committed : commits s entry.point ≡ false = false_from_ne_true _ (λ does. never (commits_open s past rules entry.author entry.point now.allowed does)) in
    let not_aborted : aborts s entry.point ≡ false = false_from_ne_true _ (λ does. never (aborts_open s past rules entry.author entry.point now.allowed does)) in
    (has_not (settles s) entry past (unsettled s entry.point not_chosen not_committed not_aborted) older.0, has_not (commits s) entry past not_committed older.1)

never_closed : (rules : Rules) (s : ℕ) (past : List Entry) → is_legal rules past ≡ true → has (begins s) past ≡ false → has (closes s) past ≡ false
never_closed rules s past legal none = false_from_ne_true _ (λ closed. both_ways _ none (closed_begun rules s past legal closed))

unused : (s : ℕ) (past : List Entry) → has (commits s) past ≡ false → own_end s past ≤ 0
unused s past none = own_end_least past s 0 (λ e id there use_. absurd (both_ways _ none (has_from (commits s) e past (in_Contains e past there) (uses_commit s id e.point use_))))

-- nothing is committed or chosen for behind its Begin
pub begun_at : (rules : Rules) (author s : ℕ) (name : List ℕ) (past : List Entry) → is_legal rules past ≡ true → reply_to_begin name past ≡ Some s → IsOpenAt author s None 0 0 (made author (Begin name (Some s)) ∷ past)
unfolding begins session_begun chooses commits finishes aborts closes settles commits_of own_end greatest_by end_used is_open_to is_begun_by author_of pending has
begun_at rules author s name past legal reply =
    let e : Entry = made author (Begin name (Some s)) in
    let unbegun = next_unbegun rules s past legal (next_is name s past reply) in
    let idle = unbegun_idle rules s past legal unbegun in
    let open_now = unfinished_from s (e ∷ past) (has_now (begins s) e past (self s)) (has_not (closes s) e past refl (never_closed rules s past legal unbegun)) in
    record {
      open_to = and_from _ _ open_now (ap (λ o. is_number author (option_map (λ (x : Entry). x.author) o)) (newest_now (begins s) e past (self s)) ∙ self author);
      choice_is = ap (λ o. option_and_then (λ (x : Entry). champions_chosen x.point) o) (newest_same (settles s) e past refl ∙ newest_none (settles s) past idle.0);
      commit_count = count_other (λ (x : Entry). commits s x.point) e past refl ∙ count_none (λ (x : Entry). commits s x.point) past idle.1;
      used = let none = unused s past idle.1 in most_max 0 (own_end s past) 0 (omega arith) none;
    }
