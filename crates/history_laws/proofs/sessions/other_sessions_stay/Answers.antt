use Rattle.history_laws.proofs.OtherLaws.{other_session, unfinished_same, retained_same, author_same, commits_same, hooks_same, pending_kept, ends_same}
use Rattle.history_laws.proofs.sessions.other_sessions_stay.Goals as goal

pub returns-clause-unfinished : goal.returns-clause-unfinished
returns-clause-unfinished c = λ past entry session none. unfinished_same session entry past (other_session session entry.point none)

pub returns-clause-retained : goal.returns-clause-retained
returns-clause-retained c = λ past entry session none. retained_same session entry past (other_session session entry.point none)

pub returns-clause-author : goal.returns-clause-author
returns-clause-author c = λ past entry author session none. author_same author session entry past (other_session session entry.point none)

pub returns-clause-commits : goal.returns-clause-commits
returns-clause-commits c = λ past entry session none. commits_same session entry past (other_session session entry.point none)

pub returns-clause-hooks : goal.returns-clause-hooks
returns-clause-hooks c = λ past entry session none. hooks_same session entry past (other_session session entry.point none)

pub returns-clause-pending : goal.returns-clause-pending
returns-clause-pending c = λ past entry session none. pending_kept session entry past (other_session session entry.point none)

pub returns-clause-used : goal.returns-clause-used
returns-clause-used c = λ past entry session none. ends_same session entry past (other_session session entry.point none)
