use Rattle.std.proofs.Common.{[]}
use Rattle.backed_up_streams.proofs.BackupLaws.{backup-has}
use Rattle.backed_up_streams.proofs.WroteBackupLaws.{recorded-wrote, held-wrote}
use Rattle.backed_up_streams.proofs.laws.written_by_a_backup.Goals as goal

pub returns-clause-recorded : goal.returns-clause-recorded
returns-clause-recorded c = λ streams objects rules standings champions files input name before depot after depot' cache' result answer told of_input legal entries was.
    let contents = backup-has standings champions files input name before streams objects told depot [] after depot' cache' result answer of_input was.contents in
    recorded-wrote standings champions files input name before streams objects told depot rules after depot' cache' legal entries was contents result answer of_input

pub returns-clause-held : goal.returns-clause-held
returns-clause-held c = λ streams objects stored rules standings champions files input name before depot after depot' cache' result answer told depot_told of_input legal entries was.
    let contents = backup-has standings champions files input name before streams objects told depot [] after depot' cache' result answer of_input was.contents in
    held-wrote standings champions files input name before streams objects told depot rules after depot' cache' legal entries was contents stored depot_told result answer of_input
