use Rattle.sparse_index.proofs.BoundLaws.{size_fits}
use Rattle.sparse_index.proofs.index.Index.promote_at.Goals as goal

pub promote_at-requires : goal.promote_at-requires
promote_at-requires g c = (size_fits g.row.L c.self.invariant.1, c.requires)
