use Rattle.std.proofs.Common.{refl}
use Rattle.std.proofs.lemmas.Result.{on_err_weaker}
use Rattle.outside.proofs.BytesLaws.{AppendsFront-then}
use Rattle.store_run.specs.Stop.{fault_line}
use Rattle.store_run.proofs.AdvancesLaws.{front-more}
use Rattle.store_run.proofs.ResultLaws.{on_err}
use Rattle.store_run.proofs.fault_lines.write_behind.Goals as goal

pub returns-in_err-write_all-clause-err : goal.returns-in_err-write_all-clause-err
returns-in_err-write_all-clause-err g c = on_err c.from_residual.result (front-more _ _ _ _ c.in_err-write_all.ensures.err)

pub returns-clause-err : goal.returns-clause-err
returns-clause-err g c =
    on_err_weaker c.write_fault_line.result
    (λ front. AppendsFront-then _ _ _ _ c.args.waiting.now (fault_line c.args.why) refl c.in_ok-write_all.ensures.ok front)
    c.write_fault_line.ensures.err
