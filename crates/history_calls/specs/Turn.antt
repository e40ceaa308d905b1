-- The history that a caller meets at its turn (this project's own).
use Rattle.std.specs.Prelude.{ℕ, ◌≡◌, ◌≢◌, true, List, ◌++◌}
use Rattle.std.specs.List.{All}
use Rattle.journal_entry.specs.declared.entry.Entry.{Entry}
use Rattle.history.specs.Legal.{is_legal}
use Rattle.store_core.specs.View.{StateView, past_of, rules_of}

-- what the caller had seen, and behind it what others have added since; it is legal
pub record IsTurn (others : List Entry → Type 0) (standings champions author : ℕ) (seen turn : StateView) : Type 0 where
  pub came : List Entry
  pub by_others : others came
  pub not_own : All (λ (entry : Entry). entry.author ≢ author) came
  pub turn_is : turn ≡ record seen { entries = seen.entries ++ came }
  pub legal : is_legal (rules_of standings champions turn) (past_of turn) ≡ true

-- a call of the caller did so at its turn
pub record AtTurn (others : List Entry → Type 0) (standings champions author : ℕ) (seen : StateView) (does : StateView → Type 0) : Type 0 where
  pub turn : StateView
  pub is_turn : IsTurn others standings champions author seen turn
  pub done : does turn
