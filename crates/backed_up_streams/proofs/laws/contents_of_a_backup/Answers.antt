use Rattle.backed_up_streams.proofs.BackupLaws.{backup-has}
use Rattle.backed_up_streams.proofs.laws.contents_of_a_backup.Goals as goal

pub returns : goal.returns
returns c = λ streams objects standings champions files input name before depot cache after depot' cache' result answer told of_input older_has.
    backup-has standings champions files input name before streams objects told depot cache after depot' cache' result answer of_input older_has
