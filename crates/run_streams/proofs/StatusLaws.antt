-- A run that ends with status 0 has a job that answered.
use Rattle.std.proofs.Common.{◌≡◌, ℕ, ◌≤◌, Bool, true, false, List, ◌∷◌, ◌++◌, Option, Some, None, refl, sym, ◌∙◌, arith}
use Rattle.std.specs.Prelude.{MatchOption, if◌then◌else◌, not, ◌&&◌, ◌==◌}
use Rattle.std.specs.Option.{unwrap_or}
use Rattle.std.proofs.lemmas.Bool.{false≢true}
use Rattle.ss_base.specs.Search.{NonePasses, IsLeast}
use Rattle.ss_base.proofs.SearchLaws.{least-is}
use Rattle.depot.specs.declared.fault.RestoreFault.{RestoreFault}
use Rattle.depot.specs.declared.fault.RestoreFault.TheVariants.{Exists, NoStream, OutputFault, DepotFault, Damaged, Unlike, Full, Memory}
use Rattle.report.specs.Outcome.{outcome_of_restore}
use Rattle.report.specs.Status.{outcome_status}
use Rattle.store_run.specs.JobRun.{Kept, Printed, run_status, append_statuses, sink_statuses, wants_memory}
use Rattle.store_run.specs.Stop.{stands, least_status}

-- a status that passes keeps the answer from being 0
passing : (passes : ℕ → Bool) (n other : ℕ) (found : Option ℕ) → MatchOption found (NonePasses passes 1 12) (IsLeast passes 1 12) → 1 ≤ n → n ≤ 12 → passes n ≡ true → unwrap_or found other ≡ 0 → ⊥
passing passes n other (Some m) is from to does zero = omega (arith, is.from, zero)
passing passes n other None is from to does zero = false≢true (sym (is.none n from to) ∙ does)

-- and so does 8 where none passes
none_passing : (passes : ℕ → Bool) (found : Option ℕ) → MatchOption found (NonePasses passes 1 12) (IsLeast passes 1 12) → unwrap_or found 8 ≡ 0 → ⊥
none_passing passes (Some m) is zero = omega (arith, is.from, zero)
none_passing passes None is zero = omega (arith, zero)

abbrev Stands : List ℕ → ℕ → Bool
Stands statuses k = stands statuses k && not (k == 8)

refused : (fault : RestoreFault) (rest : List ℕ) → least_status (outcome_status (outcome_of_restore fault) ∷ rest) ≡ 0 → ⊥
unfolding least_status
refused Exists rest zero = passing (Stands (2 ∷ rest)) 2 _ _ (least-is (Stands (2 ∷ rest)) 1 12) (omega arith) (omega arith) refl zero
refused NoStream rest zero = passing (Stands (2 ∷ rest)) 2 _ _ (least-is (Stands (2 ∷ rest)) 1 12) (omega arith) (omega arith) refl zero
refused OutputFault rest zero = passing (Stands (3 ∷ rest)) 3 _ _ (least-is (Stands (3 ∷ rest)) 1 12) (omega arith) (omega arith) refl zero
refused DepotFault rest zero = passing (Stands (4 ∷ rest)) 4 _ _ (least-is (Stands (4 ∷ rest)) 1 12) (omega arith) (omega arith) refl zero
refused (Damaged want got) rest zero = passing (Stands (5 ∷ rest)) 5 _ _ (least-is (Stands (5 ∷ rest)) 1 12) (omega arith) (omega arith) refl zero
refused (Unlike text) rest zero = passing (Stands (5 ∷ rest)) 5 _ _ (least-is (Stands (5 ∷ rest)) 1 12) (omega arith) (omega arith) refl zero
refused Full rest zero = passing (Stands (7 ∷ rest)) 7 _ _ (least-is (Stands (7 ∷ rest)) 1 12) (omega arith) (omega arith) refl zero
refused Memory rest zero = none_passing (Stands (8 ∷ rest)) _ (least-is (Stands (8 ∷ rest)) 1 12) zero

-- a restore that was refused ends with another status
pub refused_is_told : (fault : RestoreFault) (kept : Kept) (printed : Printed) → run_status (outcome_status (outcome_of_restore fault)) kept printed ≡ 0 → ⊥
refused_is_told fault kept printed zero = go (wants_memory kept printed) zero where
  go : (wants : Bool) → (if wants then 8 else least_status (outcome_status (outcome_of_restore fault) ∷ append_statuses kept ++ sink_statuses printed)) ≡ 0 → ⊥
  go true zero = omega (arith, zero)
  go false zero = refused fault (append_statuses kept ++ sink_statuses printed) zero
