use Rattle.sparse_index.proofs.BoundLaws.{size_fits}
use Rattle.sparse_index.proofs.index.Index.is_ready.Goals as goal

pub is_kept-requires : goal.is_kept-requires
is_kept-requires g c = size_fits g.row.L c.self.invariant.1
