-- What each call of a session asks and does (this project's own).
use Rattle.std.specs.Prelude.{ℕ, ◌≡◌, ◌+◌, ◌*◌, ◌≤◌, true, false, List, Ok, Err}
use Rattle.ss_base.specs.declared.name.Name.{Name}
use Rattle.ss_base.specs.Profile.{numbers_of}
use Rattle.journal_entry.specs.declared.entry.Entry.{Entry}
use Rattle.journal_entry.specs.declared.entry.Point.TheVariants.{Finish, Abort}
use Rattle.history.specs.Bounds.{are_counts}
use Rattle.history.specs.OwnEnd.{own_end}
use Rattle.history.specs.Sessions.{is_pending}
use Rattle.history.specs.Legal.{is_open_to, are_hooks, are_uses, are_texts}
use Rattle.store_core.specs.declared.fault.BeginFault.{BeginFault}
use Rattle.store_core.specs.declared.fault.PointFault.{PointFault}
use Rattle.store_core.specs.declared.values.Stored.{Stored}
use Rattle.store_core.specs.View.{past_of, made, Adds}
use Rattle.store_core.specs.Answers.{BeginAnswer, ChooseAnswer, CommitAnswer, commit_entry}
use Rattle.depot.specs.Tokens.{WrittenView}
use Rattle.history_calls.specs.Tokens.{IdleView, OpenView, ChosenView}
use Rattle.history_calls.specs.Turn.{AtTurn}

-- ---- what a call asks

-- to choose: an open session without a pending choice, and hooks of an entry
pub record CanChoose (open_to : OpenView) (hooks : List Name) : Type 0 where
  pub author : is_open_to open_to.author open_to.session (past_of open_to.seen) ≡ true
  pub idle : is_pending open_to.session (past_of open_to.seen) ≡ false
  pub valid : are_hooks (numbers_of open_to.seen.profile).bits hooks ≡ true

-- to commit: a pending choice, the numbers of an entry, and that the manifest of the choice was written with this text,
-- behind puts of at least the fresh chunks' records
pub record CanCommit (chosen : ChosenView) (stored : Stored) (written : WrittenView) : Type 0 where
  pub author : is_open_to chosen.author chosen.session (past_of chosen.seen) ≡ true
  pub waiting : is_pending chosen.session (past_of chosen.seen) ≡ true
  pub counts : are_counts stored.chunks stored.bytes stored.fresh stored.fresh_bytes ≡ true
  pub uses : are_uses chosen.session (past_of chosen.seen) stored.uses.items ≡ true
  pub manifest : written.id ≡ chosen.choice.manifest
  pub text : written.text ≡ stored.text
  pub sum : 36 * stored.fresh + stored.fresh_bytes ≤ written.sum

-- to finish: an open session without a pending choice, and a count above each own ordinal that it used
pub record CanFinish (open_to : OpenView) (containers : ℕ) : Type 0 where
  pub author : is_open_to open_to.author open_to.session (past_of open_to.seen) ≡ true
  pub idle : is_pending open_to.session (past_of open_to.seen) ≡ false
  pub above : own_end open_to.session (past_of open_to.seen) ≤ containers

-- to give up: an open session, such a count, and as many texts as commits, or one more where a choice is pending
pub record CanAbort (open_to : OpenView) (containers texts : ℕ) : Type 0 where
  pub author : is_open_to open_to.author open_to.session (past_of open_to.seen) ≡ true
  pub above : own_end open_to.session (past_of open_to.seen) ≤ containers
  pub written : are_texts open_to.session texts (past_of open_to.seen) ≡ true

pub record CanAbortChosen (chosen : ChosenView) (containers texts : ℕ) : Type 0 where
  pub author : is_open_to chosen.author chosen.session (past_of chosen.seen) ≡ true
  pub above : own_end chosen.session (past_of chosen.seen) ≤ containers
  pub written : are_texts chosen.session texts (past_of chosen.seen) ≡ true

-- ---- what a call does: it keeps the caller and its session, and at its turn does what a state's call does

pub record HasBegun (others : List Entry → Type 0) (standings champions : ℕ) (before : IdleView) (name : List ℕ) (after : OpenView) : Type 0 where
  pub author : after.author ≡ before.author
  pub at_turn : AtTurn others standings champions before.author before.seen (λ turn. BeginAnswer turn after.seen before.author name (Ok after.session))

pub record HasNotBegun (others : List Entry → Type 0) (standings champions : ℕ) (before : IdleView) (name : List ℕ) (after : IdleView) (fault : BeginFault) : Type 0 where
  pub author : after.author ≡ before.author
  pub at_turn : AtTurn others standings champions before.author before.seen (λ turn. BeginAnswer turn after.seen before.author name (Err fault))

pub record HasChosen (others : List Entry → Type 0) (standings champions : ℕ) (before : OpenView) (hooks : List Name) (after : ChosenView) : Type 0 where
  pub author : after.author ≡ before.author
  pub session : after.session ≡ before.session
  pub at_turn : AtTurn others standings champions before.author before.seen
      (λ turn. ChooseAnswer standings champions turn after.seen before.author before.session hooks (Ok after.choice))

pub record HasNotChosen (others : List Entry → Type 0) (standings champions : ℕ) (before : OpenView) (hooks : List Name) (after : OpenView) (fault : PointFault) : Type 0 where
  pub author : after.author ≡ before.author
  pub session : after.session ≡ before.session
  pub at_turn : AtTurn others standings champions before.author before.seen
      (λ turn. ChooseAnswer standings champions turn after.seen before.author before.session hooks (Err fault))

pub record HasCommitted (others : List Entry → Type 0) (standings champions : ℕ) (before : ChosenView) (stored : Stored) (after : OpenView) : Type 0 where
  pub author : after.author ≡ before.author
  pub session : after.session ≡ before.session
  pub at_turn : AtTurn others standings champions before.author before.seen
      (λ turn. Adds turn after.seen (commit_entry turn before.author before.session stored))

pub record HasNotCommitted (others : List Entry → Type 0) (standings champions : ℕ) (before : ChosenView) (stored : Stored) (after : ChosenView) (fault : PointFault) : Type 0 where
  pub author : after.author ≡ before.author
  pub session : after.session ≡ before.session
  pub choice : after.choice ≡ before.choice
  pub at_turn : AtTurn others standings champions before.author before.seen
      (λ turn. CommitAnswer turn after.seen before.author before.session stored (Err fault))

pub record HasFinished (others : List Entry → Type 0) (standings champions : ℕ) (before : OpenView) (containers : ℕ) (after : IdleView) : Type 0 where
  pub author : after.author ≡ before.author
  pub at_turn : AtTurn others standings champions before.author before.seen
      (λ turn. Adds turn after.seen (made before.author (Finish before.session containers)))

pub record HasAborted (others : List Entry → Type 0) (standings champions : ℕ) (before : OpenView) (containers texts : ℕ) (after : IdleView) : Type 0 where
  pub author : after.author ≡ before.author
  pub at_turn : AtTurn others standings champions before.author before.seen
      (λ turn. Adds turn after.seen (made before.author (Abort before.session containers texts)))

pub record HasAbortedChosen (others : List Entry → Type 0) (standings champions : ℕ) (before : ChosenView) (containers texts : ℕ) (after : IdleView) : Type 0 where
  pub author : after.author ≡ before.author
  pub at_turn : AtTurn others standings champions before.author before.seen
      (λ turn. Adds turn after.seen (made before.author (Abort before.session containers texts)))
