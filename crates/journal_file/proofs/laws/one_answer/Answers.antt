use Rattle.journal_file.proofs.AnswerLaws.{not_bad, one_place, one_journal, has_header}
use Rattle.journal_file.proofs.laws.one_answer.Goals as goal

pub returns-clause-bad : goal.returns-clause-bad
returns-clause-bad c = not_bad

pub returns-clause-place : goal.returns-clause-place
returns-clause-place c = one_place

pub returns-clause-journal : goal.returns-clause-journal
returns-clause-journal c = one_journal

pub returns-clause-header : goal.returns-clause-header
returns-clause-header c bytes profile entries good none = none profile _ good.text

pub returns-clause-start : goal.returns-clause-start
returns-clause-start c = has_header
