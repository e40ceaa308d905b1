use Rattle.job_script.proofs.WordLaws.{NoneBefore}
use Rattle.job_script.proofs.words.split_once.Given as goal

abbrev pub invariant-loop-i : goal.invariant-loop-i
invariant-loop-i l = NoneBefore l.separator l.bytes l.i
