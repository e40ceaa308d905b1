use Rattle.std.proofs.Common.{refl, subst, List, ℕ}
use Rattle.outside.specs.Views.{shelf_view}
use Rattle.outside.specs.Shelf.{AppendLeaves}
use Rattle.depot.specs.Calls.{HasFailed}
use Rattle.restore.specs.Copies.StopsAtChunk.{not_read, not_added}
use Rattle.restore.proofs.chunks.copy_chunk.Goals as goal

pub returns-in-Err-clause-answer : goal.returns-in-Err-clause-answer
returns-in-Err-clause-answer g c = not_read c.in-Err.fault c.of_chunk.ensures c.in-Err.ensures.answer refl

pub returns-clause-answer : goal.returns-clause-answer
returns-clause-answer g c =
    let files = shelf_view g.F.Shelf in
    not_added c.in-Ok.bytes.items c.in-Err-add.trouble c.of_output.ensures c.in-Ok.ensures.answer
    (subst (λ (bytes : List ℕ). HasFailed (λ old new. AppendLeaves old new c.args.output.now bytes) (files c.args.files.now) (files c.add.new.files) c.in-Err-add.trouble) c.deref.ensures.value c.in-Err-add.ensures)
