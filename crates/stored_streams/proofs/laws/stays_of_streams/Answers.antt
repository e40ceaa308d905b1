use Rattle.stored_streams.proofs.StayLaws.{contents_stay, stored_stays, of_streams_stays, of_streams_before}
use Rattle.stored_streams.proofs.laws.stays_of_streams.Goals as goal

pub returns-clause-contents : goal.returns-clause-contents
returns-clause-contents c = λ n streams newer older none has. contents_stay n streams newer older none has

pub returns-clause-stored : goal.returns-clause-stored
returns-clause-stored c = λ n streams newer older none has. stored_stays n streams newer older none has

pub returns-clause-both : goal.returns-clause-both
returns-clause-both c = λ n streams newer older none is. of_streams_stays n streams newer older none is

pub returns-clause-past : goal.returns-clause-past
returns-clause-past c = λ n streams newer older is. of_streams_before n streams newer older is
