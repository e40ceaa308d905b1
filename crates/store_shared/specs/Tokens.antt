-- What contracts see of the tokens (this project's own).
use Rattle.std.specs.Prelude.{ℕ}
use Rattle.store_core.specs.declared.values.Choice.{Choice}
use Rattle.store_core.specs.declared.values.Looked.{Looked}
use Rattle.turn_lock.specs.Passes.{PassView}
use Rattle.history_calls.specs.Tokens.{IdleView, OpenView, ChosenView, ReadingView}
use Rattle.store_shared.specs.Sight.{seen_by}

-- a pass in a session without a pending choice
pub record SessionToken : Type 0 where
  pub pass : PassView
  pub session : ℕ

-- a pass in a session with a pending choice
pub record ChosenToken : Type 0 where
  pub pass : PassView
  pub session : ℕ
  pub choice : Choice

-- a pass that reads a stream
pub record ReadingToken : Type 0 where
  pub pass : PassView
  pub looked : Looked

-- the caller that each stands for, with what it has seen
abbrev pub idle_of : PassView → IdleView
idle_of p = record { author = p.number; seen = seen_by p }

abbrev pub open_of : SessionToken → OpenView
open_of t = record { author = t.pass.number; seen = seen_by t.pass; session = t.session }

abbrev pub chosen_of : ChosenToken → ChosenView
chosen_of t = record { author = t.pass.number; seen = seen_by t.pass; session = t.session; choice = t.choice }

abbrev pub reading_of : ReadingToken → ReadingView
reading_of t = record { author = t.pass.number; seen = seen_by t.pass; looked = t.looked }
