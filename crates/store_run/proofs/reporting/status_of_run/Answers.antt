use Rattle.store_run.proofs.ReportLaws.{alone}
use Rattle.store_run.proofs.reporting.status_of_run.Goals as goal

pub returns-in-Ok-Ok : goal.returns-in-Ok-Ok
returns-in-Ok-Ok c = rw (c.in-Ok-Ok.is-0, c.in-Ok-Ok.is-1) (alone c.args.job c.requires)
