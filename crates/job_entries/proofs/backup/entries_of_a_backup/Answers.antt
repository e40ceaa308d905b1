use Rattle.job_entries.proofs.EntryLaws.{backup-adds, backup_alone-adds}
use Rattle.job_entries.proofs.backup.entries_of_a_backup.Goals as goal

pub returns-clause-beside_others : goal.returns-clause-beside_others
returns-clause-beside_others g c = λ standings champions files input name before depot cache after depot' cache' result answer.
    backup-adds g.O.Others.others standings champions files input name before depot cache after depot' cache' result answer

pub returns-clause-alone : goal.returns-clause-alone
returns-clause-alone g c = λ standings champions files input name before depot cache after depot' cache' result answer.
    backup_alone-adds standings champions files input name before depot cache after depot' cache' result answer
