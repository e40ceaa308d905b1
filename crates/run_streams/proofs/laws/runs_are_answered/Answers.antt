use Rattle.run_streams.proofs.RunDueLaws.{ends_duly, duly_plain, listing_ends, init_ends, stream_ends}
use Rattle.run_streams.proofs.laws.runs_are_answered.Goals as goal

pub returns-clause-jobs : goal.returns-clause-jobs
returns-clause-jobs c = λ kind streams store files before after sink sink' status run is told quiet sink_quiet.
    ends_duly c.listed_or_refused.ensures.apart streams store files before after sink sink' status is told quiet sink_quiet kind run

pub returns-clause-statuses : goal.returns-clause-statuses
returns-clause-statuses c = λ kind store files before after sink sink' status ends. duly_plain kind store files before after sink sink' status ends

pub returns-clause-journal : goal.returns-clause-journal
returns-clause-journal c = λ streams store depot depot' sink sink' status run is quiet sink_quiet. listing_ends c.listed_or_refused.ensures.apart streams store depot depot' sink sink' status run is quiet sink_quiet

pub returns-clause-init : goal.returns-clause-init
returns-clause-init c = λ profile depot depot' sink sink' status run quiet sink_quiet. init_ends profile depot depot' sink sink' status run quiet sink_quiet

pub returns-clause-streams : goal.returns-clause-streams
returns-clause-streams c = λ text source source' sink sink' status run quiet sink_quiet. stream_ends text source source' sink sink' status run quiet sink_quiet
