use Rattle.std.proofs.Common.{◌≡◌, All, List, [], false, sym, ap, ◌∙◌, subst}
use Rattle.std.proofs.lemmas.List.{take_all}
use Rattle.std.proofs.lemmas.List.Elements.{All-more}
use Rattle.ss_base.specs.declared.name.Name.{Name}
use Rattle.ss_base.specs.Champions.{stands_in}
use Rattle.sparse_index.specs.Lists.{list_at}
use Rattle.sparse_index.proofs.tests.stand_nowhere.Goals as goal

pub loop-hook-preserved : goal.loop-hook-preserved
loop-hook-preserved g c =
    All-more (λ (hook : Name). stands_in c.args.id (list_at c.args.index.now hook) ≡ false) c.args.hooks.now c.loop-hook.hook-index (record { 0 = [] }) c.loop-hook-test.true c.loop-hook.invariant
    (ap (stands_in c.args.id) (sym c.of.ensures) ∙ sym c.stands_in.ensures ∙ c.if-stands_in.false)

pub returns : goal.returns
returns g c =
    subst (λ (hooks : List Name). All (λ (hook : Name). stands_in c.args.id (list_at c.args.index.now hook) ≡ false) hooks)
    (take_all c.loop-hook.hook-index c.args.hooks.now c.loop-hook-test.false) c.loop-hook.invariant
