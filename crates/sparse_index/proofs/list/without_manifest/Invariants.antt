use Rattle.std.proofs.Common.{◌≡◌, take}
use Rattle.ss_base.specs.Standings.{without_manifest}
use Rattle.sparse_index.proofs.list.without_manifest.Given as goal

abbrev pub invariant-loop-standing : goal.invariant-loop-standing
invariant-loop-standing g l = l.list.items ≡ take g.row.L (without_manifest l.id (take l.standing-index l.standing-items))
