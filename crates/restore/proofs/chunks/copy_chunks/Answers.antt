use Rattle.std.proofs.Common.{rules, arith, subst, ◌∙◌, List}
use Rattle.std.proofs.lemmas.List.{take_all}
use Rattle.std.proofs.lemmas.Slice.Zip.{length-zip}
use Rattle.std.proofs.lemmas.Result.{err_from_is_err_and}
use Rattle.restore.specs.Reads.{Listed, listed_by}
use Rattle.restore.specs.Copies.{shelves, AreChunksCopied}
use Rattle.restore.proofs.CopyLaws.{one_more_chunk, stopped_at_chunk, listed_at}
use Rattle.restore.proofs.chunks.copy_chunks.Goals as goal

pub returns-in_err-len-clause-answer : goal.returns-in_err-len-clause-answer
returns-in_err-len-clause-answer g c =
    let both = shelves g.F.Shelf g.K.Shelf in
    let p = err_from_is_err_and c.from_residual.result c.from_residual.ensures.1 in
    let at = listed_at c.args.manifest.now c.loop-i.i c.index.result.now c.index-in-loop-i.result.now (search rules) (search rules) (search rules) (search rules) in
    rw (p.1, p.2) (stopped_at_chunk c.args.output.now (both c.args.files.now c.args.depot.now) (both c.loop-i.files c.loop-i.depot) (both c.copy_chunk.new.files c.copy_chunk.new.depot)
    (listed_by c.args.manifest.now) c.loop-i.i (c.index.result.now, c.index-in-loop-i.result.now) c.args.start c.loop-i.count c.in_err-len.field-0.0 at.0 at.1 c.loop-i.invariant.1 c.in_err-len.ensures.answer)

pub loop-i-preserved : goal.loop-i-preserved
loop-i-preserved g c =
    let both = shelves g.F.Shelf g.K.Shelf in
    let at = listed_at c.args.manifest.now c.loop-i.i c.index.result.now c.index-in-loop-i.result.now (search rules) (search rules) (search rules) (search rules) in (
      c.in_ok-len.ensures.same_reference ∙ c.loop-i.invariant.0,
      one_more_chunk c.args.output.now (both c.args.files.now c.args.depot.now) (both c.loop-i.files c.loop-i.depot) (both c.copy_chunk.new.files c.copy_chunk.new.depot)
          (listed_by c.args.manifest.now) c.loop-i.i (c.index.result.now, c.index-in-loop-i.result.now) c.args.start c.loop-i.count c.in_ok-len.len c.saturating_add-count.result at.0 at.1 c.saturating_add-count.ensures c.loop-i.invariant.1 c.in_ok-len.ensures.answer,
    )

pub returns-clause-answer : goal.returns-clause-answer
returns-clause-answer g c =
    let both = shelves g.F.Shelf g.K.Shelf in
    let manifest = c.args.manifest.now in
    let size = length-zip manifest.pieces.items manifest.places.items in
    let ended = c.loop-i-test.false in
    let end = c.len-i-end.ensures in
    let whole = take_all c.loop-i.i (listed_by manifest) (omega (arith, size, ended, end)) in
    subst (λ (all : List Listed). AreChunksCopied c.args.output.now (both c.args.files.now c.args.depot.now) (both c.loop-i.files c.loop-i.depot) all c.args.start c.loop-i.count) whole c.loop-i.invariant.1
