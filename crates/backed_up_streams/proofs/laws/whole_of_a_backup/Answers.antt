use Rattle.backed_up_streams.proofs.WholeBackupLaws.{whole-backup}
use Rattle.backed_up_streams.proofs.laws.whole_of_a_backup.Goals as goal

pub returns : goal.returns
returns c = λ streams objects stored rules standings champions files input name before depot after depot' cache' result has told depot_told of_input legal entries was whole.
    whole-backup standings champions files input name before streams objects told depot stored depot_told rules after depot' cache' result has of_input legal entries was whole
