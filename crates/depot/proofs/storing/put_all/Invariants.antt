use Rattle.std.proofs.Common.{◌≡◌, map, take}
use Rattle.container_file.specs.Layout.{written}
use Rattle.outside.specs.Views.{shelf_view}
use Rattle.depot.specs.Storing.{after_puts}
use Rattle.depot.proofs.storing.put_all.Given as goal

abbrev pub invariant-loop-put : goal.invariant-loop-put
invariant-loop-put g l = shelf_view g.S.Shelf l.shelf ≡ after_puts (shelf_view g.S.Shelf l.initial.shelf) (map written (take l.put-index l.puts))
