use Rattle.std.proofs.Common.{refl}
use Rattle.stored_streams.specs.Reads.Reads.{held}
use Rattle.run_streams.proofs.RestoreLaws.{opened_told, given_back, given_back_recorded}
use Rattle.run_streams.proofs.WholeAnswerLaws.{whole_restored}
use Rattle.run_streams.proofs.laws.restored_by_a_run.Goals as goal

pub returns-clause-held : goal.returns-clause-held
returns-clause-held c = λ streams objects name output before after sink sink' done told of_streams.
    given_back streams name output before after sink sink' 0 done of_streams refl (held objects) (opened_told streams name output before after sink sink' 0 done of_streams objects told)

pub returns-clause-recorded : goal.returns-clause-recorded
returns-clause-recorded c = λ streams earlier name output before after sink sink' done told of_streams. given_back_recorded streams name output before after sink sink' 0 done of_streams refl earlier told

pub returns-clause-whole : goal.returns-clause-whole
returns-clause-whole c = λ streams store name output before after sink sink' done is. whole_restored streams store name output before after sink sink' done is
