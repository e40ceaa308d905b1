use Rattle.job_script.proofs.WordLaws.{first_line}
use Rattle.job_script.proofs.lines.next_line.Goals as goal

pub returns-in-Some-clause-found : goal.returns-in-Some-clause-found
returns-in-Some-clause-found c = rw c.strip_carriage_return.ensures (first_line c.args.bytes.now c.in-Some.line.now c.in-Some.behind.now c.in-Some.ensures.found)
