use Rattle.run_streams.proofs.UnkeptLaws.{live_kept}
use Rattle.run_streams.proofs.laws.live_stays_whole_unkept.Goals as goal

pub returns : goal.returns
returns c = λ kind streams store before after sink sink' status fault done failed is input_is.
    live_kept kind streams store before after sink sink' status fault done failed is input_is
