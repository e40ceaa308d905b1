use Rattle.std.proofs.Common.{◌≡◌, ◌+◌, subst}
use Rattle.std.proofs.lemmas.Result.{err_from_is_err_and}
use Rattle.job_script.specs.declared.fault.ScriptFault.{ScriptFault}
use Rattle.job_script.specs.declared.fault.ScriptFault.TheVariants.{TooMany}
use Rattle.job_script.specs.Step.{IsStoppedBy}
use Rattle.job_script.proofs.ScriptLaws.{front_more, front_full, jobs_valid}
use Rattle.job_script.proofs.parsing.parse.Goals as goal

pub returns-in_err-add_line-clause-too_many : goal.returns-in_err-add_line-clause-too_many
returns-in_err-add_line-clause-too_many c is =
    let p = err_from_is_err_and c.from_residual.result c.from_residual.ensures.1 in
    let same : c.in_err-add_line.field-0.0 ≡ TooMany = cc in
    let P : ScriptFault → Type 0 = λ fault. IsStoppedBy fault c.args.lanes c.in-Some.line.now (c.loop-line.number + 1) c.loop-line.jobs.items in
    front_full c.args.lanes c.args.script.now c.loop-line.number (c.loop-line.number + 1) c.loop-line.jobs.items c.loop-line.rest.now c.in-Some.line.now c.in-Some.behind.now
    c.loop-line.invariant c.in-Some.ensures.found (subst P same c.in_err-add_line.ensures.stopped)

pub loop-line-preserved : goal.loop-line-preserved
loop-line-preserved c =
    front_more c.args.lanes c.args.script.now c.loop-line.number c.loop-line.jobs.items c.add_line.new.jobs.items c.loop-line.rest.now c.in-Some.line.now c.in-Some.behind.now
    c.loop-line.invariant c.in-Some.ensures.found c.in-Some.ensures.shorter c.in_ok-add_line.ensures.ok c.in_ok-add_line.ensures.fits

pub returns-clause-valid : goal.returns-clause-valid
returns-clause-valid c = jobs_valid c.args.lanes c.loop-line.invariant.before c.loop-line.jobs.items c.loop-line.invariant.jobs_are
