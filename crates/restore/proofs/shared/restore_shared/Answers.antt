use Rattle.store_shared.specs.Sight.{AreByOthers}
use Rattle.store_shared.specs.Tokens.{idle_of}
use Rattle.restore.specs.Copies.{shelves}
use Rattle.restore.specs.Restores.{CallsOf}
use Rattle.restore.proofs.ShowLaws.{Shows, shows}
use Rattle.restore.proofs.shared.restore_shared.Given as given
use Rattle.restore.proofs.shared.restore_shared.Goals as goal

shown : (g : given.Over) (c : goal.After-restore_by_pass g)
    → Shows c.args.output.now (shelves g.F.Shelf g.K.Shelf c.args.files.now c.args.depot.now)
    (shelves g.F.Shelf g.K.Shelf c.restore_by_pass.new.files c.restore_by_pass.new.depot) c.restore_by_pass.result.1
shown g c =
    let call = c.restore_by_pass in
    shows (CallsOf (AreByOthers c.args.pass) g.row.L g.row.M (idle_of c.args.pass) c.args.name (idle_of call.result.0)) c.args.output.now
    (shelves g.F.Shelf g.K.Shelf c.args.files.now c.args.depot.now) (shelves g.F.Shelf g.K.Shelf call.new.files call.new.depot) call.result.1 call.ensures.answer

pub returns-clause-cause : goal.returns-clause-cause
returns-clause-cause g c = (shown g c).cause

pub returns-clause-counts : goal.returns-clause-counts
returns-clause-counts g c = (shown g c).counts

pub returns-clause-files : goal.returns-clause-files
returns-clause-files g c = (shown g c).files_left

pub returns-clause-depot : goal.returns-clause-depot
returns-clause-depot g c = (shown g c).depot_read
