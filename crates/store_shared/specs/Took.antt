-- What a call does (this project's own).
use Rattle.std.specs.Prelude.{ℕ, ◌≡◌, ◌⊎◌, true, [], ◌∷◌, ◌++◌}
use Rattle.atomic_table.specs.Seated.{TableId}
use Rattle.journal_entry.specs.declared.entry.Entry.{Entry}
use Rattle.history.specs.Legal.{is_legal}
use Rattle.store_core.specs.View.{StateView, past_of, rules_of}
use Rattle.turn_lock.specs.Seen.{IsTurnOf}
use Rattle.turn_lock.specs.Passes.{PassView}
use Rattle.history_calls.specs.Turn.{AtTurn}
use Rattle.store_shared.specs.Sight.{base_of, seen_by, AreByOthers}

-- A pass took one turn, and there did so: the state that it met goes on from what it had seen by entries of none of its
-- numbers, and is legal. It has seen what it left, which is legal, and is as it was in all else.
pub record TookTurn (standings champions : ℕ) (before after : PassView) (does : StateView → StateView → Type 0) : Type 0 where
  pub same : after ≡ record before { seen = after.seen }
  pub legal : is_legal (rules_of standings champions (seen_by after)) (past_of (seen_by after)) ≡ true
  pub at_turn : AtTurn (AreByOthers before) standings champions before.number (seen_by before) (λ turn. does turn (seen_by after))

-- the state is as it was, or has one entry more, by this author
abbrev pub IsOneMore : ℕ → StateView → StateView → Type 0
IsOneMore author old new = (new ≡ old) ⊎ ((e : Entry) × (new ≡ record old { entries = old.entries ++ e ∷ [] }) × (e.author ≡ author))

-- how a turn may end
pub record CanLeave (turns : TableId) (p : PassView) (state : StateView) : Type 0 where
  pub turns_are : p.turns ≡ turns
  pub base_is : base_of state ≡ p.base
  pub entries_are : IsTurnOf p.number p.seen state.entries
