-- An entry leaves as they were the sessions and readings that it does not concern.
use Rattle.std.proofs.Common.{◌≡◌, ℕ, Bool, false, not, ◌&&◌, eqb, cond, List, [], ◌∷◌, refl, sym, ap, ◌∙◌, max, arith, eqb-true}
use Rattle.std.specs.Option.{option_map, option_and_then, unwrap_or}
use Rattle.std.proofs.lemmas.Bool.{or_parts, false_from_ne_true, both_ways, eq-eqb}
use Rattle.journal_entry.specs.declared.entry.Entry.{Entry}
use Rattle.journal_entry.specs.declared.entry.Point.{Point}
use Rattle.journal_entry.specs.declared.entry.Point.TheVariants.{Commit}
use Rattle.history.specs.Sessions.{is_number, begins, chooses, commits, finishes, aborts, closes, deletes, settles, newest, author_of, is_unfinished, is_retained, is_begun_by, commits_of, hooks_chosen, champions_chosen, last_hooks, pending, looks, ends, is_reading, is_looked_by}
use Rattle.history.specs.OwnEnd.{greatest_by, end_among, end_used, own_end}
use Rattle.ss_base.proofs.MemberLaws.{count_other}
use Rattle.history_laws.specs.Concerns.{concerns_session, concerns_reading}
use Rattle.history_laws.proofs.SessionLaws.{has_same}

-- what an entry does not do, where it does not concern the session
pub record IsOther (s : ℕ) (point : Point) : Type 0 where
  pub begun : begins s point ≡ false
  pub chosen : chooses s point ≡ false
  pub committed : commits s point ≡ false
  pub aborted : aborts s point ≡ false
  pub finished : finishes s point ≡ false
  pub settled : settles s point ≡ false
  pub closed : closes s point ≡ false
  pub deleted : deletes s point ≡ false

pub other_session : (s : ℕ) (point : Point) → concerns_session s point ≡ false → IsOther s point
unfolding concerns_session settles closes
other_session s point none =
    let first = or_parts _ _ none in
    let second = or_parts _ _ first.1 in
    let third = or_parts _ _ second.1 in
    let settle = or_parts _ _ second.0 in
    let commit = or_parts _ _ settle.1 in
    let close = or_parts _ _ third.0 in
    record { begun = first.0; chosen = settle.0; committed = commit.0; aborted = commit.1; finished = close.0; settled = second.0; closed = third.0; deleted = third.1 }

newest_same : (does : Point → Bool) (entry : Entry) (past : List Entry) → does entry.point ≡ false → newest does (entry ∷ past) ≡ newest does past
unfolding newest
newest_same does entry past other = rw other refl

pub unfinished_same : (s : ℕ) (entry : Entry) (past : List Entry) → IsOther s entry.point → is_unfinished s (entry ∷ past) ≡ is_unfinished s past
unfolding is_unfinished
unfinished_same s entry past other = λ i. has_same (begins s) entry past other.begun i && not (has_same (closes s) entry past other.closed i)

pub retained_same : (s : ℕ) (entry : Entry) (past : List Entry) → IsOther s entry.point → is_retained s (entry ∷ past) ≡ is_retained s past
unfolding is_retained
retained_same s entry past other = λ i. has_same (finishes s) entry past other.finished i && not (has_same (deletes s) entry past other.deleted i)

pub author_same : (a s : ℕ) (entry : Entry) (past : List Entry) → IsOther s entry.point → is_begun_by a s (entry ∷ past) ≡ is_begun_by a s past
unfolding is_begun_by author_of
author_same a s entry past other = ap (λ o. is_number a (option_map (λ (e : Entry). e.author) o)) (newest_same (begins s) entry past other.begun)

pub commits_same : (s : ℕ) (entry : Entry) (past : List Entry) → IsOther s entry.point → commits_of s (entry ∷ past) ≡ commits_of s past
unfolding commits_of
commits_same s entry past other = count_other (λ (e : Entry). commits s e.point) entry past other.committed

pub hooks_same : (s : ℕ) (entry : Entry) (past : List Entry) → IsOther s entry.point → last_hooks s (entry ∷ past) ≡ last_hooks s past
unfolding last_hooks
hooks_same s entry past other = ap (λ o. unwrap_or (option_map (λ (e : Entry). hooks_chosen e.point) o) []) (newest_same (chooses s) entry past other.chosen)

pub pending_kept : (s : ℕ) (entry : Entry) (past : List Entry) → IsOther s entry.point → pending s (entry ∷ past) ≡ pending s past
unfolding pending
pending_kept s entry past other = ap (λ o. option_and_then (λ (e : Entry). champions_chosen e.point) o) (newest_same (settles s) entry past other.settled)

turned : (a b : ℕ) → eqb b a ≡ false → eqb a b ≡ false
turned a b other = false_from_ne_true _ (λ same. both_ways _ other (eq-eqb b a (sym (eqb-true _ _ same))))

least_max : (n : ℕ) → max 0 n ≡ n
least_max n = omega arith

no_use : (s : ℕ) (point : Point) → commits s point ≡ false → end_used s point ≡ 0
unfolding commits end_used
no_use s (Commit id content text chunks bytes fresh fresh_bytes uses) other = ap (λ b. cond b (end_among s uses) 0) (turned id.session s other)
no_use s _ other = refl

pub ends_same : (s : ℕ) (entry : Entry) (past : List Entry) → IsOther s entry.point → own_end s (entry ∷ past) ≡ own_end s past
unfolding own_end greatest_by
ends_same s entry past other = ap (λ n. max n (own_end s past)) (no_use s entry.point other.committed) ∙ least_max (own_end s past)

-- ---- readings

pub other_reading : (r : ℕ) (point : Point) → concerns_reading r point ≡ false → (looks r point ≡ false) × (ends r point ≡ false)
unfolding concerns_reading
other_reading r point none = or_parts _ _ none

pub reading_same : (r : ℕ) (entry : Entry) (past : List Entry) → concerns_reading r entry.point ≡ false → is_reading r (entry ∷ past) ≡ is_reading r past
unfolding is_reading
reading_same r entry past none =
    let parts = other_reading r entry.point none in
    λ i. has_same (looks r) entry past parts.0 i && not (has_same (ends r) entry past parts.1 i)

pub reader_same : (a r : ℕ) (entry : Entry) (past : List Entry) → concerns_reading r entry.point ≡ false → is_looked_by a r (entry ∷ past) ≡ is_looked_by a r past
unfolding is_looked_by author_of
reader_same a r entry past none = ap (λ o. is_number a (option_map (λ (e : Entry). e.author) o)) (newest_same (looks r) entry past (other_reading r entry.point none).0)
