use Rattle.std.proofs.Common.{take}
use Rattle.std.specs.HashMap.{get}
use Rattle.ss_base.specs.declared.name.Piece.{Piece}
use Rattle.ss_base.specs.Ids.{same_piece}
use Rattle.lack_plan.specs.Maps.{Joined}
use Rattle.lack_plan.proofs.known.add_list.Given as goal

abbrev pub invariant-loop-at : goal.invariant-loop-at
invariant-loop-at l = (q : Piece) → Joined q l.which (take l.at l.pieces) (get same_piece l.fn.places q) (get same_piece l.places q)
