use Rattle.restored_streams.proofs.CallLaws.{ok_beside, err_beside}
use Rattle.restored_streams.proofs.laws.copies_what_is_retained.Goals as goal

pub returns-clause-ok : goal.returns-clause-ok
returns-clause-ok c = λ standings champions count before after name output old new answer. ok_beside (λ came. Unit {0}) standings champions count before after name output old new answer

pub returns-clause-err : goal.returns-clause-err
returns-clause-err c = λ standings champions before after name output old new fault answer. err_beside (λ came. Unit {0}) standings champions before after name output old new fault answer
