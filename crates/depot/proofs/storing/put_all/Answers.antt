use Rattle.std.proofs.lemmas.Result.{err_from_is_err_and}
use Rattle.outside.specs.Views.{shelf_view}
use Rattle.depot.proofs.StoreLaws.{one_more_put, stopped_at}
use Rattle.depot.proofs.storing.put_all.Goals as goal

pub returns-in_err-put_one : goal.returns-in_err-put_one
returns-in_err-put_one g c =
    let seen = shelf_view g.S.Shelf in
    let p = err_from_is_err_and c.from_residual.result c.from_residual.ensures.1 in
    rw (p.1, p.2) (stopped_at (seen c.args.shelf.now) (seen c.loop-put.shelf) (seen c.put_one.new.shelf) c.args.puts.now c.loop-put.put-index c.put-item.result c.in_err-put_one.field-0.0 c.loop-put-test.true c.put-item.is c.loop-put.invariant c.in_err-put_one.ensures)

pub loop-put-preserved : goal.loop-put-preserved
loop-put-preserved g c =
    let seen = shelf_view g.S.Shelf in
    one_more_put (seen c.args.shelf.now) (seen c.loop-put.shelf) (seen c.put_one.new.shelf) c.args.puts.now c.loop-put.put-index c.put-item.result c.loop-put-test.true c.put-item.is c.loop-put.invariant c.in_ok-put_one.ensures
