use Rattle.history_counts.proofs.RoomLaws.{counts_kept}
use Rattle.history_counts.proofs.room.make_room.Goals as goal

pub returns-in-Commit-clause-kept : goal.returns-in-Commit-clause-kept
returns-in-Commit-clause-kept c = counts_kept c.args.counts.now c.make_room.new.self c.make_room.ensures.numbers c.make_room.ensures.kept c.make_room.ensures.rest
