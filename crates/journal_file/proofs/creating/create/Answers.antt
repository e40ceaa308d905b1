use Rattle.std.proofs.Common.{◌∙◌}
use Rattle.std.proofs.lemmas.Result.{err_from_is_err_and}
use Rattle.outside.proofs.FaultLaws.{HasCause-after}
use Rattle.journal_file.proofs.CountLaws.{create_count}
use Rattle.journal_file.proofs.creating.create.Goals as goal

pub returns-in_err-has-clause-count : goal.returns-in_err-has-clause-count
returns-in_err-has-clause-count g c =
    let p = err_from_is_err_and c.from_residual.result c.from_residual.ensures.1 in
    rw (p.1, p.2) (create_count (Unit {0}) _ _ c.in_err-has.field-0.0 c.in_err-has.ensures.cause)

pub returns-then-branch-clause-count : goal.returns-then-branch-clause-count
returns-then-branch-clause-count g c = c.in_ok-has.ensures.cause.quiet

pub returns-in_err-create-clause-count : goal.returns-in_err-create-clause-count
returns-in_err-create-clause-count g c =
    let p = err_from_is_err_and c.from_residual-in_err-create.result c.from_residual-in_err-create.ensures.1 in
    rw (p.1, p.2) (create_count (Unit {0}) _ _ c.in_err-create.field-0.0 (HasCause-after _ _ _ _ c.in_ok-has.ensures.cause.quiet c.in_err-create.ensures.cause))

pub returns-clause-count : goal.returns-clause-count
returns-clause-count g c = c.in_ok-create.ensures.cause.quiet ∙ c.in_ok-has.ensures.cause.quiet
