-- A turn from its begin to its end.
use Rattle.std.proofs.Common.{◌≡◌, ℕ, true, List, Result, Ok, Err, refl, sym, ap, ◌∙◌, subst, inl, inr, Vec}
use Rattle.std.specs.declared.alloc.Global.{Global}
use Rattle.atomic_table.specs.Seated.{TableId}
use Rattle.ss_base.specs.declared.name.Name.{Name}
use Rattle.ss_base.specs.declared.object.Object.{Object}
use Rattle.ss_base.specs.declared.profile.Profile.{Profile}
use Rattle.journal_entry.specs.declared.entry.Entry.{Entry}
use Rattle.journal_entry.specs.declared.entry.Totals.{Totals}
use Rattle.history.specs.Legal.{is_legal}
use Rattle.store_core.specs.declared.fault.BeginFault.{BeginFault}
use Rattle.store_core.specs.declared.fault.BeginFault.TheVariants as begin
use Rattle.store_core.specs.declared.fault.PointFault.{PointFault}
use Rattle.store_core.specs.declared.fault.PointFault.TheVariants as point
use Rattle.store_core.specs.declared.fault.NameFault.{NameFault}
use Rattle.store_core.specs.declared.fault.NameFault.TheVariants as name
use Rattle.store_core.specs.declared.values.Choice.{Choice}
use Rattle.store_core.specs.declared.values.Looked.{Looked}
use Rattle.store_core.specs.declared.values.Stored.{Stored}
use Rattle.store_core.specs.View.{StateView, past_of, rules_of, Adds}
use Rattle.store_core.specs.Answers.{BeginAnswer, ChooseAnswer, CommitAnswer, DeleteAnswer, LookAnswer, ReclaimAnswer, StatAnswer}
use Rattle.turn_lock.specs.Seen.{IsTurnOf}
use Rattle.turn_lock.specs.Passes.{PassView}
use Rattle.history_calls.specs.Turn.{IsTurn}
use Rattle.store_shared.specs.Sight.{base_of, base_profile, seen_by, AreByOthers, HasSeen}
use Rattle.store_shared.specs.Tokens.{SessionToken}
use Rattle.store_shared.specs.Took.{TookTurn, IsOneMore, CanLeave}

-- ---- what a state's calls add

pub added_one : (author : ℕ) (old new : StateView) (entry : Entry) → entry.author ≡ author → Adds old new entry → IsOneMore author old new
added_one author old new entry own adds = inr (entry, adds.added, own)

module _ (author : ℕ) (old new : StateView) where
  pub begun_one : (asked : List ℕ) (answer : Result ℕ BeginFault) → BeginAnswer old new author asked answer → IsOneMore author old new
  begun_one asked (Ok session) did = added_one author old new _ refl did.1
  begun_one asked (Err begin.Taken) did = added_one author old new _ refl did.1
  begun_one asked (Err begin.Full) did = inl did.same
  begun_one asked (Err begin.Memory) did = inl did

  pub chosen_one : (standings champions session : ℕ) (hooks : List Name) (answer : Result Choice PointFault) → ChooseAnswer standings champions old new author session hooks answer → IsOneMore author old new
  chosen_one standings champions session hooks (Ok choice) did = added_one author old new _ refl did.2
  chosen_one standings champions session hooks (Err point.Full) did = inl did.same
  chosen_one standings champions session hooks (Err point.Memory) did = inl did

  pub committed_one : (session : ℕ) (stored : Stored) (answer : Result _ PointFault) → CommitAnswer old new author session stored answer → IsOneMore author old new
  committed_one session stored (Ok id) did = added_one author old new _ refl did.1
  committed_one session stored (Err point.Full) did = inl did.same
  committed_one session stored (Err point.Memory) did = inl did

  pub deleted_one : (asked : List ℕ) (answer : Result ℕ NameFault) → DeleteAnswer old new author asked answer → IsOneMore author old new
  deleted_one asked (Ok session) did = added_one author old new _ refl did.1
  deleted_one asked (Err name.NoStream) did = added_one author old new _ refl did.1
  deleted_one asked (Err name.Full) did = inl did.same
  deleted_one asked (Err name.Memory) did = inl did

  pub looked_one : (asked : List ℕ) (answer : Result Looked NameFault) → LookAnswer old new author asked answer → IsOneMore author old new
  looked_one asked (Ok looked) did = added_one author old new _ refl did.2
  looked_one asked (Err name.NoStream) did = added_one author old new _ refl did.1
  looked_one asked (Err name.Full) did = inl did.same
  looked_one asked (Err name.Memory) did = inl did

  pub reclaimed_one : (answer : Result (Vec Object Global) PointFault) → ReclaimAnswer old new author answer → IsOneMore author old new
  reclaimed_one (Ok removals) did = added_one author old new _ refl did.1
  reclaimed_one (Err point.Full) did = inl did.same
  reclaimed_one (Err point.Memory) did = inl did

  pub counted_one : (answer : Result Totals PointFault) → StatAnswer old new author answer → IsOneMore author old new
  counted_one (Ok totals) did = added_one author old new _ refl did.1
  counted_one (Err point.Full) did = inl did.same
  counted_one (Err point.Memory) did = inl did

-- ---- how a turn ends

base_same : (author : ℕ) (old new : StateView) → IsOneMore author old new → base_of new ≡ base_of old
base_same author old new (inl same) = ap base_of same
base_same author old new (inr more) = ap base_of more.1

turn_same : (author : ℕ) (old new : StateView) → IsOneMore author old new → IsTurnOf author old.entries new.entries
turn_same author old new (inl same) = inl (ap (λ (s : StateView). s.entries) same)
turn_same author old new (inr more) = inr (more.0, ap (λ (s : StateView). s.entries) more.1, more.2)

-- behind at most one entry of the pass its turn may end
pub can_leave : (id : TableId) (p p' : PassView) (author : ℕ) (old new : StateView) → p.turns ≡ id → author ≡ p.number → p' ≡ record p { seen = old.entries } → base_of old ≡ p.base → IsOneMore author old new → CanLeave id p' new
can_leave id p p' author old new turns own entered base more =
    let more' = subst (λ a. IsOneMore a old new) own more in
    subst (λ (q : PassView). CanLeave id q new) (sym entered)
    (record { turns_are = turns; base_is = base_same p.number old new more' ∙ base; entries_are = turn_same p.number old new more' })

-- so the pass took a turn
module _ (standings champions : ℕ) (p p' q : PassView) (author : ℕ) (old new : StateView) (own : author ≡ p.number)
    (entered : p' ≡ record p { seen = old.entries }) (is_turn : IsTurn (AreByOthers p) standings champions p.number (seen_by p) old)
    (left : q ≡ record p' { seen = new.entries }) (seen : HasSeen standings champions q new) where
  base_kept : q.base ≡ p.base
  base_kept = ap (λ (r : PassView). r.base) left ∙ ap (λ (r : PassView). r.base) entered

  -- what a token keeps of the profile
  pub profile_kept : (profile : Profile) → profile ≡ base_profile p.base → profile ≡ base_profile q.base
  profile_kept profile told = told ∙ ap base_profile (sym base_kept)

  pub took : (does : ℕ → StateView → StateView → Type 0) → does author old new → TookTurn standings champions p q (λ turn after. does p.number turn after)
  took does did = record {
    same = left ∙ (λ i. record (entered i) { seen = new.entries }) ∙ (λ i. record p { seen = sym (ap (λ (r : PassView). r.seen) left) i });
    legal = subst (λ (s : StateView). is_legal (rules_of standings champions s) (past_of s) ≡ true) (sym seen.is) seen.legal;
    at_turn = record { turn = old; is_turn = is_turn; done = subst (λ (s : StateView). does p.number old s) (sym seen.is) (subst (λ a. does a old new) own did) };
  }

  -- the same of a token that owned the pass
  pub token_took : (tp : PassView) (n ts : ℕ) (does : ℕ → ℕ → StateView → StateView → Type 0) → p ≡ tp → n ≡ ts → does author n old new
      → TookTurn standings champions tp q (λ turn after. does tp.number ts turn after)
  token_took tp n ts does pass_is session_is did =
      subst (λ (x : PassView). TookTurn standings champions x q (λ turn after. does x.number ts turn after)) pass_is
      (took (λ a turn after. does a ts turn after) (subst (λ m. does author m old new) session_is did))

  -- and of one that owns it again
  pub session_took : (tp : PassView) (n ts : ℕ) (t : SessionToken) (does : ℕ → ℕ → StateView → StateView → Type 0) → p ≡ tp → n ≡ ts → t ≡ record { pass = q; session = n } → does author n old new
      → (t.session ≡ ts) × TookTurn standings champions tp t.pass (λ turn after. does tp.number ts turn after)
  session_took tp n ts t does pass_is session_is made did = (
    ap (λ (u : SessionToken). u.session) made ∙ session_is,
    subst (λ (x : PassView). TookTurn standings champions tp x (λ turn after. does tp.number ts turn after)) (sym (ap (λ (u : SessionToken). u.pass) made))
        (token_took tp n ts does pass_is session_is did),
  )
