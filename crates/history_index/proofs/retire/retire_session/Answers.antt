use Rattle.std.proofs.Common.{sym, ◌∙◌, refl, arith}
use Rattle.sparse_index.specs.Lists.{list_at}
use Rattle.history_index.proofs.RetireLaws.{first_none, first_step, first_all}
use Rattle.history_index.proofs.retire.retire_session.Goals as goal

pub loop-place-init : goal.loop-place-init
loop-place-init g c = record {
  lists = λ hook. sym (first_none c.args.before.now c.args.choices.now c.args.session hook (list_at c.args.index.now hook));
  ready = λ hook. refl;
}

pub loop-place-preserved : goal.loop-place-preserved
loop-place-preserved g c = record {
  lists = λ hook. first_step c.args.before.now c.args.choices.now c.args.session hook c.loop-place.place c.hooks_at.result.now _ (list_at c.loop-place.index hook) (list_at c.args.index.now hook) c.loop-place-test.true c.hooks_at.ensures (c.retire.ensures.lists hook) (c.loop-place.invariant.lists hook);
  ready = λ hook. c.retire.ensures.ready hook ∙ c.loop-place.invariant.ready hook;
}

pub returns-clause-lists : goal.returns-clause-lists
returns-clause-lists g c = λ hook.
    c.loop-place.invariant.lists hook
    ∙ first_all c.args.before.now c.args.choices.now c.args.session hook c.loop-place.place (list_at c.args.index.now hook) (omega arith) (c.requires.chosen hook)
