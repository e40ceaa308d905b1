use Rattle.std.proofs.Common.{rules}
use Rattle.std.specs.Prelude.{Ok, Err}
use Rattle.restore.specs.Copies.{shelves}
use Rattle.job_run.proofs.RestoreLaws.{restored}
use Rattle.job_run.proofs.restores.run_restore.Goals as goal

pub returns-in-Ok : goal.returns-in-Ok
returns-in-Ok g c =
    let given = c.in-Ok.ensures in
    restored c.args.author c.args.name c.args.state.now c.restore_solo.new.state (Ok c.in-Ok.field-0) c.as_str.result.now c.args.output.now
    _ (shelves g.F.Shelf g.K.Shelf c.args.files.now c.over-depot.result)
    _ (shelves g.F.Shelf g.K.Shelf c.restore_solo.new.files c.restore_solo.new.depot)
    c.as_str.ensures.bytes (search rules) (search rules) given.answer given.cause given.counts given.files given.depot

pub returns-in-Err : goal.returns-in-Err
returns-in-Err g c =
    let given = c.in-Err.ensures in
    restored c.args.author c.args.name c.args.state.now c.restore_solo.new.state (Err c.in-Err.fault) c.as_str.result.now c.args.output.now
    _ (shelves g.F.Shelf g.K.Shelf c.args.files.now c.over-depot.result)
    _ (shelves g.F.Shelf g.K.Shelf c.restore_solo.new.files c.restore_solo.new.depot)
    c.as_str.ensures.bytes (search rules) (search rules) given.answer given.cause given.counts given.files given.depot
