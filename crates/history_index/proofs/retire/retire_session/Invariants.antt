use Rattle.std.proofs.Common.{◌≡◌}
use Rattle.sparse_index.specs.Lists.{list_at, is_ready}
use Rattle.ss_base.specs.declared.name.Name.{Name}
use Rattle.history_index.proofs.RetireLaws.{without_first}
use Rattle.history_index.proofs.retire.retire_session.Given as goal

abbrev pub invariant-loop-place : goal.invariant-loop-place
invariant-loop-place g l = record {
  lists : (hook : Name) → list_at l.index hook ≡ without_first l.before l.choices l.session hook l.place (list_at l.fn.index hook);
  ready : (hook : Name) → is_ready l.index hook ≡ is_ready l.fn.index hook;
}
