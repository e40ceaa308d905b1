use Rattle.stored_streams.proofs.AgreeLaws.{contents_agree, stored_agrees, of_streams_agrees, whole_agrees}
use Rattle.stored_streams.proofs.laws.is_of_its_sessions_alone.Goals as goal

pub returns-clause-contents : goal.returns-clause-contents
returns-clause-contents c = λ n rules one other past legal agree has. contents_agree n rules one other past legal agree has

pub returns-clause-stored : goal.returns-clause-stored
returns-clause-stored c = λ n rules one other past legal agree has. stored_agrees n rules one other past legal agree has

pub returns-clause-both : goal.returns-clause-both
returns-clause-both c = λ n rules one other past legal agree is. of_streams_agrees n rules one other past legal agree is

pub returns-clause-whole : goal.returns-clause-whole
returns-clause-whole c = λ n rules one other past objects legal agree is. whole_agrees n rules one other past objects legal agree is
