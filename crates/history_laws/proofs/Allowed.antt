-- What an allowed entry says of the entries before it.
use Rattle.std.proofs.Common.{◌≡◌, ℕ, Bool, true, false, ◌&&◌, eqb, cond, List, ◌∷◌, Option, Some, None, refl, sym, ap, ◌∙◌, subst, inl, inr, eqb-true}
use Rattle.std.specs.Option.{option_eq, option_map}
use Rattle.std.proofs.lemmas.Bool.{false≢true, and_parts, or_cases}
use Rattle.ss_base.specs.declared.ids.ContainerId.{ContainerId}
use Rattle.ss_base.specs.declared.ids.ManifestId.{ManifestId}
use Rattle.ss_base.specs.declared.name.Name.{Name}
use Rattle.ss_base.specs.Ids.{same_manifest}
use Rattle.journal_entry.specs.declared.entry.Entry.{Entry}
use Rattle.journal_entry.specs.declared.entry.Seen.{Seen}
use Rattle.history.specs.declared.rules.Rules.{Rules}
use Rattle.journal_entry.specs.declared.entry.Point.{Point}
use Rattle.journal_entry.specs.declared.entry.Point.TheVariants.{Begin, Choose, Commit, Finish, Abort, Delete, Look}
use Rattle.history.specs.Sessions.{session_begun, session_count, sessions_under, reading_count, begins, finishes, aborts, closes, deletes, is_unfinished, is_retained, is_held, retained, commits_of}
use Rattle.history.specs.Bounds.{are_counts}
use Rattle.history.specs.StandingList.{champions_for}
use Rattle.history.specs.Need.{commits_manifest}
use Rattle.history.specs.Legal.{is_open_to, reply_to_begin, reply_to_look, same_seen, are_hooks, are_uses, is_allowed, may_follow, is_legal}
use Rattle.ss_base.proofs.MemberLaws.{In, find_in}
use Rattle.ss_base.proofs.IdLaws.{same_manifest-true, pointwise-true}

-- an entry that may follow the entries of a legal history
pub record IsStep (rules : Rules) (entry : Entry) (past : List Entry) : Type 0 where
  pub legal : is_legal rules past ≡ true
  pub allowed : is_allowed rules past entry.author entry.point ≡ true

pub step : (rules : Rules) (entry : Entry) (past : List Entry) → is_legal rules (entry ∷ past) ≡ true → IsStep rules entry past
unfolding is_legal may_follow
step rules entry past legal =
    let parts = and_parts _ _ legal in
    record {
      legal = parts.0;
      allowed = (and_parts _ _ parts.1).0;
    }

-- ---- the ends of a session

open_unfinished : (author s : ℕ) (past : List Entry) → is_open_to author s past ≡ true → is_unfinished s past ≡ true
unfolding is_open_to
open_unfinished author s past open_to = (and_parts _ _ open_to).0

same_unfinished : (author s t : ℕ) (past : List Entry) → eqb s t ≡ true → is_open_to author t past ≡ true → is_unfinished s past ≡ true
same_unfinished author s t past same open_to = subst (λ n. is_unfinished n past ≡ true) (sym (eqb-true _ _ same)) (open_unfinished author t past open_to)

pub finishes_open : (rules : Rules) (past : List Entry) (author s : ℕ) (point : Point) → is_allowed rules past author point ≡ true → finishes s point ≡ true → is_unfinished s past ≡ true
unfolding is_allowed finishes
finishes_open rules past author s (Finish t containers) allowed does =
    same_unfinished author s t past does (and_parts _ _ allowed).0
finishes_open rules past author s _ allowed does = absurd (false≢true does)

pub aborts_open : (rules : Rules) (past : List Entry) (author s : ℕ) (point : Point) → is_allowed rules past author point ≡ true → aborts s point ≡ true → is_unfinished s past ≡ true
unfolding is_allowed aborts
aborts_open rules past author s (Abort t containers texts) allowed does =
    same_unfinished author s t past does (and_parts _ _ allowed).0
aborts_open rules past author s _ allowed does = absurd (false≢true does)

pub closes_open : (rules : Rules) (past : List Entry) (author s : ℕ) (point : Point) → is_allowed rules past author point ≡ true → closes s point ≡ true → is_unfinished s past ≡ true
unfolding closes
closes_open rules past author s point allowed does = elim (or_cases _ _ does) [
  | inl finish ↦ finishes_open rules past author s point allowed finish
  | inr abort ↦ aborts_open rules past author s point allowed abort
]

-- ---- replies

same_reply : (s : ℕ) (o : Option ℕ) → option_eq (λ a b. eqb a b) (Some s) o ≡ true → o ≡ Some s
same_reply s None e = absurd (false≢true e)
same_reply s (Some t) e = ap Some (sym (eqb-true _ _ e))

-- the stream that stands under a name is retained, and its session reserved the name
pub retained_is : (name : List ℕ) (s : ℕ) (past : List Entry) → retained name past ≡ Some s → In s (sessions_under name past) × (is_retained s past ≡ true)
unfolding retained
retained_is name s past e = find_in (λ session. is_retained session past) (sessions_under name past) s e

pub delete_says : (rules : Rules) (past : List Entry) (author : ℕ) (name : List ℕ) (s : ℕ) → is_allowed rules past author (Delete name (Some s)) ≡ true → retained name past ≡ Some s
unfolding is_allowed
delete_says rules past author name s allowed = same_reply s (retained name past) allowed

pub deletes_retained : (rules : Rules) (past : List Entry) (author s : ℕ) (point : Point) → is_allowed rules past author point ≡ true → deletes s point ≡ true → is_retained s past ≡ true
unfolding deletes
deletes_retained rules past author s (Delete name (Some t)) allowed does =
    subst (λ n. is_retained n past ≡ true) (sym (eqb-true _ _ does)) (retained_is name t past (delete_says rules past author name t allowed)).1
deletes_retained rules past author s (Delete name None) allowed does = absurd (false≢true does)
deletes_retained rules past author s _ allowed does = absurd (false≢true does)

-- a Begin with a session: the name is free, and the session is the next
pub record IsBegun (name : List ℕ) (s : ℕ) (past : List Entry) : Type 0 where
  pub free : is_held name past ≡ false
  pub next : s ≡ session_count past

next_if_free : (held : Bool) (s n : ℕ) → cond held None (Some n) ≡ Some s → (held ≡ false) × (s ≡ n)
next_if_free true s n e = absurd (cc)
next_if_free false s n e = (refl, cc)

pub begin_says : (rules : Rules) (past : List Entry) (author : ℕ) (name : List ℕ) (s : ℕ) → is_allowed rules past author (Begin name (Some s)) ≡ true → IsBegun name s past
unfolding is_allowed reply_to_begin
begin_says rules past author name s allowed =
    let parts = next_if_free (is_held name past) s (session_count past) (same_reply s (reply_to_begin name past) allowed) in
    record { free = parts.0; next = parts.1 }

pub begins_next : (rules : Rules) (past : List Entry) (author s : ℕ) (point : Point) → is_allowed rules past author point ≡ true → begins s point ≡ true → s ≡ session_count past
unfolding begins session_begun
begins_next rules past author s (Begin name None) allowed does = absurd (false≢true does)
begins_next rules past author s (Begin name (Some t)) allowed does = eqb-true _ _ does ∙ (begin_says rules past author name t allowed).next
begins_next rules past author s _ allowed does = absurd (false≢true does)

same_sight : (seen : Seen) (reader : ℕ) (found : Option ℕ) → option_eq same_seen (Some seen) (option_map (λ session. record { reader = reader; session = session }) found) ≡ true → found ≡ Some seen.session
same_sight seen reader None e = absurd (false≢true e)
same_sight seen reader (Some s) e = ap Some (sym (eqb-true _ _ (and_parts _ _ e).1))

-- a Look with a stream: it is the one under the name
pub look_says : (rules : Rules) (past : List Entry) (author : ℕ) (name : List ℕ) (seen : Seen) → is_allowed rules past author (Look name (Some seen)) ≡ true → retained name past ≡ Some seen.session
unfolding is_allowed reply_to_look
look_says rules past author name seen allowed = same_sight seen (reading_count past) (retained name past) allowed

-- ---- segments

-- a Choose
pub record IsChosen (rules : Rules) (s : ℕ) (hooks : List Name) (champions : List ManifestId) (past : List Entry) : Type 0 where
  pub unfinished : is_unfinished s past ≡ true
  pub valid : are_hooks rules.bits hooks ≡ true
  pub greedy : champions ≡ champions_for rules hooks past

pub choose_says : (rules : Rules) (past : List Entry) (author s : ℕ) (hooks : List Name) (champions : List ManifestId) → is_allowed rules past author (Choose s hooks champions) ≡ true → IsChosen rules s hooks champions past
unfolding is_allowed
choose_says rules past author s hooks champions allowed =
    let found = champions_for rules hooks past in
    let first = and_parts _ _ allowed in
    let second = and_parts _ _ first.1 in
    let third = and_parts _ _ second.1 in
    record { unfinished = open_unfinished author s past first.0; valid = third.0; greedy = pointwise-true same_manifest same_manifest-true _ _ third.1 }

-- a Commit
pub record IsCommitted (id : ManifestId) (chunks bytes fresh fresh_bytes : ℕ) (uses : List ContainerId) (past : List Entry) : Type 0 where
  pub unfinished : is_unfinished id.session past ≡ true
  pub next : id.seq ≡ commits_of id.session past
  pub counted : are_counts chunks bytes fresh fresh_bytes ≡ true
  pub may_use : are_uses id.session past uses ≡ true

pub commit_says : (rules : Rules) (past : List Entry) (author : ℕ) (id : ManifestId) (content text : Name) (chunks bytes fresh fresh_bytes : ℕ) (uses : List ContainerId) → is_allowed rules past author (Commit id content text chunks bytes fresh fresh_bytes uses) ≡ true → IsCommitted id chunks bytes fresh fresh_bytes uses past
unfolding is_allowed
commit_says rules past author id content text chunks bytes fresh fresh_bytes uses allowed =
    let counts = are_counts chunks bytes fresh fresh_bytes && are_uses id.session past uses in
    let first = and_parts _ _ allowed in
    let second = and_parts _ _ first.1 in
    let third = and_parts _ _ second.1 in
    let fourth = and_parts _ _ third.1 in
    record {
      unfinished = open_unfinished author id.session past first.0;
      next = eqb-true _ _ third.0;
      counted = fourth.0;
      may_use = fourth.1;
    }

-- what an entry that commits a manifest says
pub commits_next : (rules : Rules) (past : List Entry) (author : ℕ) (id : ManifestId) (point : Point) → is_allowed rules past author point ≡ true → commits_manifest id point ≡ true → (is_unfinished id.session past ≡ true) × (id.seq ≡ commits_of id.session past)
unfolding commits_manifest
commits_next rules past author id (Commit other content text chunks bytes fresh fresh_bytes uses) allowed does =
    let said = commit_says rules past author other content text chunks bytes fresh fresh_bytes uses allowed in
    let same : id ≡ other = same_manifest-true _ _ does in
    subst (λ (m : ManifestId). (is_unfinished m.session past ≡ true) × (m.seq ≡ commits_of m.session past)) (sym same) (said.unfinished, said.next)
commits_next rules past author id _ allowed does = absurd (false≢true does)
