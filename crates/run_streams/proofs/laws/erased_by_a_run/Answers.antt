use Rattle.run_streams.proofs.ErasedLaws.{reclaim_erased, others_erased}
use Rattle.run_streams.proofs.laws.erased_by_a_run.Goals as goal

pub returns-clause-reclaim : goal.returns-clause-reclaim
returns-clause-reclaim c = λ before after sink sink' status done. reclaim_erased before after sink sink' status done

pub returns-clause-others : goal.returns-clause-others
returns-clause-others c = λ kind before after sink sink' status done reads. others_erased kind before after sink sink' status done reads
