use Rattle.sparse_index.proofs.BoundLaws.{size_fits}
use Rattle.sparse_index.proofs.index.Index.make_ready.Goals as goal

pub keep-requires : goal.keep-requires
keep-requires g c = size_fits g.row.L c.self.invariant.1
