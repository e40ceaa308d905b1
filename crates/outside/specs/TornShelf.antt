-- A shelf of which one call fails halfway, as contracts see it (this project's own).
use Rattle.std.specs.Prelude.{◌≡◌, refl, ℕ, IsErrOf, IsOk, IsTrue, IsFalse, Result, Ok, Err}
use Rattle.std.specs.Coded.{Coded, code_by, coded×, coded_list, coded_ℕ}
use Rattle.std.specs.FinMap.{code}
use Rattle.outside.specs.CallPlan.{Plan, plan_code, count_up, fails_next}
use Rattle.outside.specs.Shelf.{Objects}
use Rattle.outside.specs.declared.trouble.Trouble.{Trouble}
use Rattle.outside.specs.declared.trouble.Trouble.TheVariants.{Fault, Memory}

-- the objects, how many reads were made, which call fails, and how many bytes of a piece are written before it does
pub record TornState : Type 0 where
  pub held : Objects
  pub reads : ℕ
  pub plan : Plan
  pub keep : ℕ

-- the plan after a call, which is counted, and its fault too
abbrev pub plan_after : {T : Type 0} → Plan → Result T Trouble → Plan
plan_after plan (Ok x) = record plan { made = count_up plan.made }
plan_after plan (Err Fault) = record plan { made = count_up plan.made; faults = count_up plan.faults }
plan_after plan (Err Memory) = record plan { made = count_up plan.made }

-- the call failed where the plan has a fault next, and nowhere else; there it may also want memory
pub record GoesByOnePlan {T : Type 0} (old new : Plan) (result : Result T Trouble) : Type 0 where
  pub fault : IsErrOf result Fault → IsTrue (fails_next old)
  pub ok : IsOk result → IsFalse (fails_next old)
  pub counted : new ≡ plan_after old result

-- a state is stored as the pair of its fields
abbrev pub torn_code : Coded TornState
torn_code =
    code_by (Objects × (ℕ × (Plan × ℕ))) (coded× (code (coded_list coded_ℕ) (coded_list coded_ℕ)) (coded× coded_ℕ (coded× plan_code coded_ℕ)))
    (λ s. (s.held, (s.reads, (s.plan, s.keep)))) (λ p. record { held = p.0; reads = p.1.0; plan = p.1.1.0; keep = p.1.1.1 }) (λ _. refl)
