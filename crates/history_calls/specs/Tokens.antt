-- What a caller's tokens stand for (this project's own).
use Rattle.std.specs.Prelude.{ℕ}
use Rattle.store_core.specs.View.{StateView}
use Rattle.store_core.specs.declared.values.Choice.{Choice}
use Rattle.store_core.specs.declared.values.Looked.{Looked}

-- a caller with nothing begun: its number, and what it has seen of the history
pub record IdleView : Type 0 where
  pub author : ℕ
  pub seen : StateView

-- a caller in a session without a pending choice
pub record OpenView : Type 0 where
  pub author : ℕ
  pub seen : StateView
  pub session : ℕ

-- a caller in a session with a pending choice
pub record ChosenView : Type 0 where
  pub author : ℕ
  pub seen : StateView
  pub session : ℕ
  pub choice : Choice

-- a caller that reads a stream
pub record ReadingView : Type 0 where
  pub author : ℕ
  pub seen : StateView
  pub looked : Looked
