use Rattle.sparse_index.proofs.BoundLaws.{size_fits}
use Rattle.sparse_index.proofs.index.Index.put_at.Goals as goal

pub put_at-requires : goal.put_at-requires
put_at-requires g c = size_fits g.row.L c.self.invariant.1
