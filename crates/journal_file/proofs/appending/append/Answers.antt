use Rattle.std.proofs.lemmas.Result.{err_from_is_err_and}
use Rattle.journal_file.proofs.CountLaws.{append_count}
use Rattle.journal_file.proofs.appending.append.Goals as goal

pub returns-in_err-append-clause-count : goal.returns-in_err-append-clause-count
returns-in_err-append-clause-count g c =
    let p = err_from_is_err_and c.from_residual-in_err-append.result c.from_residual-in_err-append.ensures.1 in
    rw (p.1, p.2) (append_count (Unit {0}) _ _ c.in_err-append.field-0.0 c.in_err-append.ensures.cause)

pub returns-clause-count : goal.returns-clause-count
returns-clause-count g c = c.in_ok-append.ensures.cause.quiet
