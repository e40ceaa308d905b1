use Rattle.std.proofs.Common.{◌≡◌, ◌++◌, take}
use Rattle.ss_base.specs.Standings.{chosen_standings, others_standing}
use Rattle.sparse_index.proofs.list.promoted.Given as goal

abbrev pub invariant-loop-id : goal.invariant-loop-id
invariant-loop-id g l = l.list.items ≡ take g.row.L (chosen_standings (take l.id-index l.champions) l.stood.items)

abbrev pub invariant-loop-standing : goal.invariant-loop-standing
invariant-loop-standing g l = l.list.items ≡ take g.row.L (chosen_standings l.champions l.stood.items ++ others_standing l.champions (take l.standing-index l.standing-items))
