use Rattle.std.proofs.Common.{refl, rules}
use Rattle.job_run.specs.Erasing.ReclaimDone.{reclaimed, refused}
use Rattle.job_run.proofs.reclaiming.run_reclaim.Goals as goal

pub returns-in-Err : goal.returns-in-Err
returns-in-Err g c = refused c.in-Err.fault c.of_point.ensures c.in-Err.ensures refl

pub returns : goal.returns
returns g c = reclaimed c.in-Ok.removals c.erase_all.result c.of_erases.ensures c.in-Ok.ensures (search rules)
