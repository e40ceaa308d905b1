use Rattle.backed_up_streams.proofs.HeldBackupLaws.{backup-held}
use Rattle.backed_up_streams.proofs.RecordedLaws.{backup-recorded}
use Rattle.backed_up_streams.proofs.laws.loads_of_a_backup.Goals as goal

pub returns-clause-recorded : goal.returns-clause-recorded
returns-clause-recorded c = λ streams objects standings champions files input name before depot after depot' cache' result answer told of_input.
    let is = backup-recorded standings champions files input name before streams objects told depot after depot' cache' result answer of_input in
    (is.reads, is.more, is.loaded)

pub returns-clause-held : goal.returns-clause-held
returns-clause-held c = λ streams objects stored standings champions files input name before depot after depot' cache' result answer told depot_told of_input entries.
    backup-held standings champions files input name before streams objects told depot stored depot_told after depot' cache' result answer of_input entries
