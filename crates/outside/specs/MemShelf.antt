-- A shelf in memory, as contracts see it (this project's own).
use Rattle.std.specs.Prelude.{ℕ, refl}
use Rattle.std.specs.Coded.{Coded, code_by, coded×, coded_list, coded_ℕ}
use Rattle.std.specs.FinMap.{code}
use Rattle.outside.specs.CallPlan.{Plan, plan_code}
use Rattle.outside.specs.Shelf.{Objects}

-- the objects, how many reads were made, and which calls fail
pub record ShelfState : Type 0 where
  pub held : Objects
  pub reads : ℕ
  pub plan : Plan

-- a state is stored as the pair of its fields
abbrev pub state_code : Coded ShelfState
state_code =
    code_by (Objects × (ℕ × Plan)) (coded× (code (coded_list coded_ℕ) (coded_list coded_ℕ)) (coded× coded_ℕ plan_code))
    (λ s. (s.held, (s.reads, s.plan))) (λ p. record { held = p.0; reads = p.1.0; plan = p.1.1 }) (λ _. refl)
