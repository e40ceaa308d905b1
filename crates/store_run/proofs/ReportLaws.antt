-- A report on its way to a sink.
use Rattle.std.proofs.Common.{◌≡◌, ℕ, zero, suc, ◌≤◌, List, [], ◌∷◌, ◌++◌, Option, refl, sym, ap, ◌∙◌, subst, append_assoc, arith}
use Rattle.std.specs.Io.KnownBytes.{Appends}
use Rattle.ss_base.specs.Search.{least}
use Rattle.outside.specs.Bytes.{AppendsFront}
use Rattle.store_run.specs.Stop.{least_status}

-- a front of some bytes is one of more
pub front_longer : (a b : Option (List ℕ)) (xs ys : List ℕ) → AppendsFront a b xs → AppendsFront a b (xs ++ ys)
front_longer a b xs ys (front, back, is, written) = (front, back ++ ys, ap (λ (l : List ℕ). l ++ ys) is ∙ append_assoc front back ys, written)

module _ (lines job ending w0 w1 done : List ℕ) (none : w0 ≡ []) where
  -- what was written of a report's lines, and what is still to be
  pub report_split : w0 ++ lines ≡ done ++ w1 → lines ++ job ++ ending ≡ done ++ (w1 ++ job ++ ending)
  report_split is =
      ap (λ (l : List ℕ). l ++ job ++ ending) (ap (λ (w : List ℕ). w ++ lines) (sym none) ∙ is)
      ∙ ap (λ (l : List ℕ). l ++ ending) (append_assoc done w1 job)
      ∙ append_assoc done (w1 ++ job) ending

  pub lines_cut : (a b : Option (List ℕ)) → AppendsFront a b (w0 ++ lines) → AppendsFront a b (lines ++ job ++ ending)
  lines_cut a b front = front_longer a b (lines ++ job) ending (front_longer a b lines job (subst (λ (w : List ℕ). AppendsFront a b (w ++ lines)) none front))

  pub lines_done : (a b : Option (List ℕ)) → w0 ++ lines ≡ done ++ w1 → Appends a b done → AppendsFront a b (lines ++ job ++ ending)
  lines_done a b is written = (done, w1 ++ job ++ ending, report_split is, written)

-- the status of a job alone
pub alone : (job : ℕ) → job ≤ 8 → job ≡ least_status (job ∷ [])
unfolding least_status least
alone zero most = refl
alone (suc zero) most = refl
alone (suc (suc zero)) most = refl
alone (suc (suc (suc zero))) most = refl
alone (suc (suc (suc (suc zero)))) most = refl
alone (suc (suc (suc (suc (suc zero))))) most = refl
alone (suc (suc (suc (suc (suc (suc zero)))))) most = refl
alone (suc (suc (suc (suc (suc (suc (suc zero))))))) most = refl
alone (suc (suc (suc (suc (suc (suc (suc (suc zero)))))))) most = refl
alone (suc (suc (suc (suc (suc (suc (suc (suc (suc n))))))))) most = absurd (omega (arith, most))
