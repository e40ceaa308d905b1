use Rattle.job_entries.proofs.InterleavedLaws.{own_among}
use Rattle.job_entries.proofs.AddsLaws.{behind_alone}
use Rattle.job_entries.proofs.caller.entries_of_one_caller.Goals as goal

pub returns-clause-alone : goal.returns-clause-alone
returns-clause-alone g c = λ author before after points nothing adds. behind_alone g.O.Others.others author nothing before after points adds

pub returns-clause-among_others : goal.returns-clause-among_others
returns-clause-among_others g c = λ author entries points is. own_among g.O.Others.others author entries points is
