use Rattle.std.proofs.Common.{sym, ◌∙◌}
use Rattle.ss_base.specs.Ids.{same_name}
use Rattle.sparse_index.proofs.TestLaws.{distinct_none, distinct_names}
use Rattle.sparse_index.proofs.tests.are_distinct.Goals as goal

pub loop-i-init : goal.loop-i-init
loop-i-init c = distinct_none same_name

pub loop-i-preserved : goal.loop-i-preserved
loop-i-preserved c = distinct_names c.args.names.now c.loop-i.i _ c.loop-i-test.true c.loop-i.invariant (sym c.has_name.ensures ∙ c.if-has_name.false)
