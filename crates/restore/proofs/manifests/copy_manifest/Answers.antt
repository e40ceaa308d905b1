use Rattle.std.proofs.Common.{refl}
use Rattle.restore.specs.Copies.{shelves}
use Rattle.restore.specs.Copies.StopsAtManifest.{not_loaded}
use Rattle.restore.proofs.CopyLaws.{manifest_copy}
use Rattle.restore.proofs.manifests.copy_manifest.Goals as goal

pub returns-in-Ok-clause-answer : goal.returns-in-Ok-clause-answer
returns-in-Ok-clause-answer g c =
    let both = shelves g.F.Shelf g.K.Shelf in
    let loaded = both c.args.files.now c.load.new.self in
    manifest_copy c.args.output.now (both c.args.files.now c.args.depot.now) (both c.copy_chunks.new.files c.copy_chunks.new.depot) loaded.depot c.args.kept.now c.in-Ok.manifest c.args.start c.copy_chunks.result c.in-Ok.ensures.answer c.copy_chunks.ensures.answer

pub returns-in-Err-clause-answer : goal.returns-in-Err-clause-answer
returns-in-Err-clause-answer g c = not_loaded c.in-Err.fault c.of_load.ensures c.in-Err.ensures.answer refl
