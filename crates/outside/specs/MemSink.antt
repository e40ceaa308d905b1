-- A sink in memory, as contracts see it (this project's own).
use Rattle.std.specs.Prelude.{ℕ, List}
use Rattle.outside.specs.CallPlan.{Plan}

-- the bytes written so far, and which calls fail
pub record SinkState : Type 0 where
  pub written : List ℕ
  pub plan : Plan
