-- A source in memory, as contracts see it (this project's own).
use Rattle.std.specs.Prelude.{ℕ, List}
use Rattle.outside.specs.CallPlan.{Plan}

-- the bytes still to come, and which calls fail
pub record SourceState : Type 0 where
  pub left : List ℕ
  pub plan : Plan
