use Rattle.std.proofs.lemmas.Result.{on_ok_weaker}
use Rattle.pins_counts.proofs.LoopLaws.{all_ready}
use Rattle.pins_counts.proofs.counts.Counts.make_room.Goals as goal

pub returns-clause-ok : goal.returns-clause-ok
returns-clause-ok c =
    on_ok_weaker c.make_ready-2.result
    (all_ready c.args.id c.args.uses.now c.loop-id.id-index c.args.self.now c.loop-id.self c.make_ready-2.new.self c.loop-id-test.false c.loop-id.invariant)
    c.make_ready-2.ensures.ready
