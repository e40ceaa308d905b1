use Rattle.job_entries.proofs.BackupLaws.{backup-stores}
use Rattle.job_entries.proofs.backup.segments_of_a_backup.Goals as goal

pub returns : goal.returns
returns g c = λ standings champions files input name before depot cache after depot' cache' result answer.
    (backup-stores g.O.Others.others standings champions files input name before depot cache after depot' cache' result answer).1
