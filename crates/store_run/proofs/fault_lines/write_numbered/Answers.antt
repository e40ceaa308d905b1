use Rattle.std.proofs.Common.{◌∙◌, subst}
use Rattle.std.proofs.lemmas.Result.{on_err_weaker}
use Rattle.outside.specs.Bytes.{AppendsFront}
use Rattle.store_run.proofs.AdvancesLaws.{front-none}
use Rattle.store_run.proofs.ResultLaws.{on_err}
use Rattle.store_run.proofs.fault_lines.write_numbered.Goals as goal

pub returns-in_err-line-clause-err : goal.returns-in_err-line-clause-err
returns-in_err-line-clause-err g c = on_err c.from_residual.result (front-none _ _)

pub returns-clause-err : goal.returns-clause-err
returns-clause-err g c =
    on_err_weaker c.write_all.result
    (λ front. subst (AppendsFront (g.O.Sink.written c.args.out.now) (g.O.Sink.written c.write_all.new.out)) (c.as_bytes.ensures.value ∙ c.in_ok-line.ensures) front)
    c.write_all.ensures.err
