use Rattle.std.proofs.Common.{◌≡◌, subst, take, filter, ◌++◌, arith}
use Rattle.pins_counts.specs.Counts.{Counted, is_idle}
use Rattle.pins_counts.specs.Waiting.{objects_at}
use Rattle.pins_counts.proofs.AwaitingLaws.{finds_end, finds_session}
use Rattle.pins_counts.proofs.counts.Counts.add_dead.Goals as goal

pub returns-in-None : goal.returns-in-None
returns-in-None c = finds_end c.args.kind c.args.self.now c.args.limit c.loop-self.found.items _ c.loop-self.next c.loop-self.invariant.0 c.in-None.ensures

pub loop-self-preserved : goal.loop-self-preserved
loop-self-preserved c =
    let next = c.in-Some.ensures in
    let found = subst (λ (v : Counted). c.add_dead_in.new.found.items ≡ take c.args.limit (c.loop-self.found.items ++ filter (is_idle v) (objects_at c.args.kind v c.in-Some.session))) c.self.view_is c.in_ok-add_dead_in-in-Some.ensures in
    (finds_session c.args.kind c.args.self.now c.args.limit c.loop-self.found.items _ c.loop-self.next c.loop-self.invariant.0 c.in-Some.session c.add_dead_in.new.found.items next.0 next.1 found, omega arith)
