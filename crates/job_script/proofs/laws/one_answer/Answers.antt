use Rattle.job_script.proofs.ScriptLaws.{one_list, one_bad, no_bad, not_many, bad_or_many}
use Rattle.job_script.proofs.laws.one_answer.Goals as goal

pub returns-clause-jobs : goal.returns-clause-jobs
returns-clause-jobs c = one_list

pub returns-clause-bad_line : goal.returns-clause-bad_line
returns-clause-bad_line c = one_bad

pub returns-clause-no_bad_line : goal.returns-clause-no_bad_line
returns-clause-no_bad_line c = no_bad

pub returns-clause-not_too_many : goal.returns-clause-not_too_many
returns-clause-not_too_many c = not_many

pub returns-clause-bad_or_too_many : goal.returns-clause-bad_or_too_many
returns-clause-bad_or_too_many c = bad_or_many
