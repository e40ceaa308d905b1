use Rattle.std.proofs.Common.{sym}
use Rattle.stored_streams.proofs.NameLaws.{same_object_text, not_journal, new_absent}
use Rattle.stored_streams.proofs.laws.new_objects_are_absent.Goals as goal

pub returns-clause-names : goal.returns-clause-names
returns-clause-names c = λ one other fits fits_too same. same_object_text one other fits fits_too same

pub returns-clause-journal : goal.returns-clause-journal
returns-clause-journal c = λ object same. not_journal object (sym same)

pub returns-clause-absent : goal.returns-clause-absent
returns-clause-absent c = λ rules past objects object legal only later small. new_absent rules past objects object legal only later small
