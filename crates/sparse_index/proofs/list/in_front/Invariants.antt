use Rattle.std.proofs.Common.{◌≡◌, ◌∷◌, take}
use Rattle.sparse_index.proofs.list.in_front.Given as goal

abbrev pub invariant-loop-other : goal.invariant-loop-other
invariant-loop-other g l = l.list.items ≡ take g.row.L (l.fn.standing ∷ take l.other-index l.other-items)
