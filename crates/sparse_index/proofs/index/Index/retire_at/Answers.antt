use Rattle.sparse_index.proofs.BoundLaws.{size_fits}
use Rattle.sparse_index.proofs.index.Index.retire_at.Goals as goal

pub retire_at-requires : goal.retire_at-requires
retire_at-requires g c = size_fits g.row.L c.self.invariant.1
