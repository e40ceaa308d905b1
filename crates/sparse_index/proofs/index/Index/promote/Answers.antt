use Rattle.std.proofs.Common.{◌<◌, List, length, [], subst, inl}
use Rattle.std.proofs.lemmas.List.{take_all}
use Rattle.ss_base.specs.declared.name.Name.{Name}
use Rattle.ss_base.specs.Standings.{promoted}
use Rattle.sparse_index.proofs.LoopLaws.{Changed, changed_none, changed_more, fresh, promoted_empty}
use Rattle.sparse_index.proofs.index.Index.promote.Goals as goal

pub loop-hook-init : goal.loop-hook-init
loop-hook-init g c = changed_none (promoted c.args.champions.now) c.args.self.now

pub loop-hook-preserved : goal.loop-hook-preserved
loop-hook-preserved g c =
    let hooks = c.args.hooks.now in
    let i = c.loop-hook.hook-index in
    let d : Name = record { 0 = [] } in
    let below : i < length hooks = c.loop-hook-test.true in
    changed_more (promoted c.args.champions.now) hooks i d below c.args.self.now c.loop-hook.self c.promote_at.new.self c.loop-hook.invariant c.promote_at.ensures (inl (promoted_empty c.args.champions.now)) (inl (fresh hooks i d c.requires.distinct_hooks below))

pub returns : goal.returns
returns g c =
    let so = subst (λ (hooks : List Name). Changed (promoted c.args.champions.now) hooks c.args.self.now c.loop-hook.self) (take_all c.loop-hook.hook-index c.args.hooks.now c.loop-hook-test.false) c.loop-hook.invariant in
    record { lists = so.lists; ready = so.ready }
