-- What each call of a reading asks and does (this project's own).
use Rattle.std.specs.Prelude.{ℕ, ◌≡◌, true, List, Ok, Err}
use Rattle.journal_entry.specs.declared.entry.Entry.{Entry}
use Rattle.journal_entry.specs.declared.entry.Point.TheVariants.{Done}
use Rattle.history.specs.Sessions.{is_reading, is_looked_by}
use Rattle.store_core.specs.declared.fault.NameFault.{NameFault}
use Rattle.store_core.specs.View.{past_of, made, Adds}
use Rattle.store_core.specs.Answers.{LookAnswer}
use Rattle.history_calls.specs.Tokens.{IdleView, ReadingView}
use Rattle.history_calls.specs.Turn.{AtTurn}

-- to end a reading: it is the caller's, and unfinished
pub record CanEnd (reading : ReadingView) : Type 0 where
  pub unfinished : is_reading reading.looked.reader (past_of reading.seen) ≡ true
  pub author : is_looked_by reading.author reading.looked.reader (past_of reading.seen) ≡ true

pub record HasLooked (others : List Entry → Type 0) (standings champions : ℕ) (before : IdleView) (name : List ℕ) (after : ReadingView) : Type 0 where
  pub author : after.author ≡ before.author
  pub at_turn : AtTurn others standings champions before.author before.seen (λ turn. LookAnswer turn after.seen before.author name (Ok after.looked))

pub record HasNotLooked (others : List Entry → Type 0) (standings champions : ℕ) (before : IdleView) (name : List ℕ) (after : IdleView) (fault : NameFault) : Type 0 where
  pub author : after.author ≡ before.author
  pub at_turn : AtTurn others standings champions before.author before.seen (λ turn. LookAnswer turn after.seen before.author name (Err fault))

pub record HasEnded (others : List Entry → Type 0) (standings champions : ℕ) (before : ReadingView) (after : IdleView) : Type 0 where
  pub author : after.author ≡ before.author
  pub at_turn : AtTurn others standings champions before.author before.seen
      (λ turn. Adds turn after.seen (made before.author (Done before.looked.reader)))
