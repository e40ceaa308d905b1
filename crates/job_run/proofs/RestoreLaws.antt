-- A restore, as a job's calls make it.
use Rattle.std.proofs.Common.{◌≡◌, ℕ, List, Result, subst}
use Rattle.outside.specs.Views.{OnlyReads}
use Rattle.store_core.specs.View.{StateView}
use Rattle.depot.specs.declared.fault.RestoreFault.{RestoreFault}
use Rattle.restore.specs.Copies.{Shelves}
use Rattle.restore.specs.Restores.{StateCalls, RestoreAnswer, RestoreCause, RestoreCounts, FilesAnswer}
use Rattle.report.specs.declared.answer.JobAnswer.TheVariants as job
use Rattle.job_run.specs.Jobs.{answer_of, RestoreDone}

module _ (author : ℕ) (name : List ℕ) (old new : StateView) (result : Result ℕ RestoreFault) where
  -- with the output's name and the shelves as the job has them
  pub restored : (said output : List ℕ) (before before' after after' : Shelves) → said ≡ output → before' ≡ before → after' ≡ after
      → RestoreAnswer (StateCalls old author name new) said before' after' result → RestoreCause said before' after' result → RestoreCounts before' after' result
      → FilesAnswer said before'.files after'.files result → OnlyReads before'.depot after'.depot
      → RestoreDone author name output old new before after (answer_of job.Restore result)
  restored said output before before' after after' named begun ended done cause counts files depot =
      subst (λ (text : List ℕ). RestoreDone author name text old new before after (answer_of job.Restore result)) named
      (subst (λ (b : Shelves). RestoreDone author name said old new b after (answer_of job.Restore result)) begun
      (subst (λ (a : Shelves). RestoreDone author name said old new before' a (answer_of job.Restore result)) ended
      (record { result = result; answer_is = λ i. answer_of job.Restore result; done = done; cause = cause; counts = counts; files = files; depot = depot })))
