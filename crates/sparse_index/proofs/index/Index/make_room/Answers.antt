use Rattle.std.proofs.Common.{List, [], subst}
use Rattle.std.proofs.lemmas.List.{take_all}
use Rattle.ss_base.specs.declared.name.Name.{Name}
use Rattle.sparse_index.proofs.LoopLaws.{WithRoom, room_none, room_more, all_ready}
use Rattle.sparse_index.proofs.index.Index.make_room.Goals as goal

pub loop-hook-init : goal.loop-hook-init
loop-hook-init g c = room_none c.args.self.now

pub loop-hook-preserved : goal.loop-hook-preserved
loop-hook-preserved g c =
    let d : Name = record { 0 = [] } in
    room_more c.args.hooks.now c.loop-hook.hook-index d c.args.self.now c.loop-hook.self c.make_ready.new.self c.loop-hook-test.true c.loop-hook.invariant c.in_ok-make_ready.ensures.ok

pub returns : goal.returns
returns g c =
    let so = subst (λ (hooks : List Name). WithRoom hooks c.args.self.now c.loop-hook.self) (take_all c.loop-hook.hook-index c.args.hooks.now c.loop-hook-test.false) c.loop-hook.invariant in
    record { ok = all_ready c.args.hooks.now c.args.self.now c.loop-hook.self so; kept = so.kept; lists = so.lists }
