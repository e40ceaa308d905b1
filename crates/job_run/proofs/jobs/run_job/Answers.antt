use Rattle.std.proofs.Common.{refl}
use Rattle.job_run.proofs.jobs.run_job.Goals as goal

pub returns-in-Reclaim : goal.returns-in-Reclaim
returns-in-Reclaim g c = rw c.in-Reclaim.is (record { done = (c.run_reclaim.ensures, refl); cache = refl })
