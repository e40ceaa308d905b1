use Rattle.std.proofs.Common.{subst, sym}
use Rattle.std.specs.Str.{IsUtf8}
use Rattle.job_script.proofs.GrammarLaws.{IsUtf8-verb}
use Rattle.job_script.proofs.reading.kind_of.Goals as goal

pub returns-in_default-clause-none : goal.returns-in_default-clause-none
returns-in_default-clause-none c kind is = c.in_default.ensures.cases.0 (subst IsUtf8 (sym is.verb_is) (IsUtf8-verb kind))
