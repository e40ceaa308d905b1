use Rattle.sparse_index.proofs.BoundLaws.{size_fits}
use Rattle.sparse_index.proofs.index.Index.of.Goals as goal

pub list_of-requires : goal.list_of-requires
list_of-requires g c = size_fits g.row.L c.self.invariant.1
