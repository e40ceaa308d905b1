use Rattle.history_laws.proofs.OtherLaws.{reading_same, reader_same}
use Rattle.history_laws.proofs.sessions.other_readings_stay.Goals as goal

pub returns-clause-unfinished : goal.returns-clause-unfinished
returns-clause-unfinished c = λ past entry reader none. reading_same reader entry past none

pub returns-clause-author : goal.returns-clause-author
returns-clause-author c = λ past entry author reader none. reader_same author reader entry past none
