use Rattle.std.proofs.Common.{◌∙◌}
use Rattle.std.proofs.lemmas.Result.{err_from_is_err_and}
use Rattle.restore.specs.Copies.{shelves}
use Rattle.restore.proofs.CopyLaws.{one_more_manifest, stopped_at_manifest}
use Rattle.restore.proofs.manifests.copy_manifests.Goals as goal

pub returns-in_err-count-clause-answer : goal.returns-in_err-count-clause-answer
returns-in_err-count-clause-answer g c =
    let both = shelves g.F.Shelf g.K.Shelf in
    let p = err_from_is_err_and c.from_residual.result c.from_residual.ensures.1 in
    rw (p.1, p.2) (stopped_at_manifest c.args.output.now (both c.args.files.now c.args.depot.now) (both c.loop-kept.files c.loop-kept.depot) (both c.copy_manifest.new.files c.copy_manifest.new.depot)
    c.args.kepts.now c.loop-kept.kept-index c.kept-item.result c.loop-kept.count c.in_err-count.field-0.0 c.loop-kept-test.true c.kept-item.is c.loop-kept.invariant.1 c.in_err-count.ensures.answer)

pub loop-kept-preserved : goal.loop-kept-preserved
loop-kept-preserved g c =
    let both = shelves g.F.Shelf g.K.Shelf in (
      c.in_ok-count.ensures.same_reference ∙ c.loop-kept.invariant.0,
      one_more_manifest c.args.output.now (both c.args.files.now c.args.depot.now) (both c.loop-kept.files c.loop-kept.depot) (both c.copy_manifest.new.files c.copy_manifest.new.depot)
          c.args.kepts.now c.loop-kept.kept-index c.kept-item.result c.loop-kept.count c.in_ok-count.count c.loop-kept-test.true c.kept-item.is c.loop-kept.invariant.1 c.in_ok-count.ensures.answer,
    )
