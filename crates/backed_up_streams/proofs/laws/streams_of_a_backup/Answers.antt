use Rattle.store_core.specs.View.{past_of}
use Rattle.stored_streams.specs.Reads.Reads.{recorded, held}
use Rattle.std.proofs.Common.{[], ◌∷◌}
use Rattle.backed_up_streams.proofs.BackupLaws.{backup-has}
use Rattle.backed_up_streams.proofs.HeldBackupLaws.{backup-held}
use Rattle.backed_up_streams.proofs.RecordedLaws.{backup-recorded}
use Rattle.backed_up_streams.proofs.OfStreamsLaws.{loaded-of_streams}
use Rattle.backed_up_streams.proofs.laws.streams_of_a_backup.Goals as goal

pub returns-clause-recorded : goal.returns-clause-recorded
returns-clause-recorded c = λ streams objects rules standings champions files input name before depot after depot' cache' result answer told of_input legal entries was.
    let is = backup-recorded standings champions files input name before streams objects told depot after depot' cache' result answer of_input in
    let contents = backup-has standings champions files input name before streams objects told depot [] after depot' cache' result answer of_input was.contents in
    (is.reads, is.more, loaded-of_streams before.seen.profile streams rules (recorded is.reads ∷ []) (past_of before.seen) (past_of after.seen) legal entries was contents is.loaded)

pub returns-clause-held : goal.returns-clause-held
returns-clause-held c = λ streams objects stored rules standings champions files input name before depot after depot' cache' result answer told depot_told of_input legal entries was.
    let is = backup-held standings champions files input name before streams objects told depot stored depot_told after depot' cache' result answer of_input entries in
    let contents = backup-has standings champions files input name before streams objects told depot [] after depot' cache' result answer of_input was.contents in
    loaded-of_streams before.seen.profile streams rules (held stored ∷ []) (past_of before.seen) (past_of after.seen) legal entries was contents is
