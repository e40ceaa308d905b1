use Rattle.history_laws.proofs.EndLaws.{end_of_session_fits, end_of_reading_fits}
use Rattle.history_laws.proofs.sessions.ends_fit.Goals as goal

pub returns-clause-session : goal.returns-clause-session
returns-clause-session c = λ rules past session entry legal open_now ended. end_of_session_fits rules session entry past legal open_now ended

pub returns-clause-reading : goal.returns-clause-reading
returns-clause-reading c = λ rules past reader entry legal open_now ended. end_of_reading_fits rules reader entry past legal open_now ended
