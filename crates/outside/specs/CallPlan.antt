-- Which calls on an object in memory fail (this project's own).
use Rattle.std.specs.Prelude.{◌≡◌, refl, ℕ, ◌+◌, ◌-◌, ◌^◌, ◌↔◌, min, List, Bool, ◌==◌, if◌then◌else◌, IsTrue, IsErrOf, Result}
use Rattle.std.specs.List.{list_any}
use Rattle.std.specs.Coded.{Coded, code_by, coded×, coded_list, coded_ℕ}
use Rattle.outside.specs.declared.trouble.Trouble.{Trouble}
use Rattle.outside.specs.declared.trouble.Trouble.TheVariants.{Fault}

-- the numbers of the calls that fail, counted from 1; how many calls were made; how many of them failed
pub record Plan : Type 0 where
  pub fails : List ℕ
  pub made : ℕ
  pub faults : ℕ

-- one more, up to the last value of a u64
abbrev pub count_up : ℕ → ℕ
count_up n = min (n + 1) (2 ^ 64 - 1)

-- whether the next call is one of those that fail
abbrev pub fails_next : Plan → Bool
fails_next plan = list_any (λ n. n == count_up plan.made) plan.fails

-- after one more call
abbrev pub after_call : Plan → Plan
after_call plan = record {
  fails = plan.fails;
  made = count_up plan.made;
  faults = if fails_next plan then count_up plan.faults else plan.faults;
}

-- before the first call
abbrev pub planned : List ℕ → Plan
planned fails = record { fails = fails; made = 0; faults = 0 }

-- the call failed exactly where the plan has a fault next, and it is counted
pub record GoesByPlan {T : Type 0} (old new : Plan) (result : Result T Trouble) : Type 0 where
  pub fault : IsErrOf result Fault ↔ IsTrue (fails_next old)
  pub counted : new ≡ after_call old

-- a plan is stored as the pair of its fields
abbrev pub plan_code : Coded Plan
plan_code =
    code_by (List ℕ × (ℕ × ℕ)) (coded× (coded_list coded_ℕ) (coded× coded_ℕ coded_ℕ))
    (λ p. (p.fails, (p.made, p.faults))) (λ q. record { fails = q.0; made = q.1.0; faults = q.1.1 }) (λ _. refl)
