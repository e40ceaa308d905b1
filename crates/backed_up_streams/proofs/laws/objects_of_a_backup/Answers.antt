use Rattle.backed_up_streams.proofs.CreatedBackupLaws.{created-known}
use Rattle.backed_up_streams.proofs.laws.objects_of_a_backup.Goals as goal

pub returns : goal.returns
returns c = λ objects stored rules standings champions files input name before depot after depot' cache' result has told depot_told legal.
    created-known standings champions files input name before objects stored rules depot after depot' cache' result has told depot_told legal
