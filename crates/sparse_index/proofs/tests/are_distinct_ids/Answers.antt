use Rattle.std.proofs.Common.{sym, ◌∙◌}
use Rattle.ss_base.specs.Ids.{same_manifest}
use Rattle.sparse_index.proofs.TestLaws.{distinct_none, distinct_ids}
use Rattle.sparse_index.proofs.tests.are_distinct_ids.Goals as goal

pub loop-i-init : goal.loop-i-init
loop-i-init c = distinct_none same_manifest

pub loop-i-preserved : goal.loop-i-preserved
loop-i-preserved c = distinct_ids c.args.ids.now c.loop-i.i _ c.loop-i-test.true c.loop-i.invariant (sym c.has_manifest.ensures ∙ c.if-has_manifest.false)
