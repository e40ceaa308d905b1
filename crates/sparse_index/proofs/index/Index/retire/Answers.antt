use Rattle.std.proofs.Common.{◌<◌, List, length, [], subst, inl, inr}
use Rattle.std.proofs.lemmas.List.{take_all}
use Rattle.ss_base.specs.declared.name.Name.{Name}
use Rattle.ss_base.specs.Standings.{without_manifest}
use Rattle.sparse_index.proofs.LoopLaws.{Changed, changed_none, changed_more, without_empty, without_twice}
use Rattle.sparse_index.proofs.index.Index.retire.Goals as goal

pub loop-hook-init : goal.loop-hook-init
loop-hook-init g c = changed_none (without_manifest c.args.id) c.args.self.now

pub loop-hook-preserved : goal.loop-hook-preserved
loop-hook-preserved g c =
    let hooks = c.args.hooks.now in
    let i = c.loop-hook.hook-index in
    let d : Name = record { 0 = [] } in
    let below : i < length hooks = c.loop-hook-test.true in
    changed_more (without_manifest c.args.id) hooks i d below c.args.self.now c.loop-hook.self c.retire_at.new.self c.loop-hook.invariant c.retire_at.ensures (inl (without_empty c.args.id)) (inr (without_twice c.args.id))

pub returns : goal.returns
returns g c =
    let so = subst (λ (hooks : List Name). Changed (without_manifest c.args.id) hooks c.args.self.now c.loop-hook.self) (take_all c.loop-hook.hook-index c.args.hooks.now c.loop-hook-test.false) c.loop-hook.invariant in
    record { lists = so.lists; ready = so.ready }
