use Rattle.std.proofs.Common.{take, map}
use Rattle.lack_plan.specs.Maps.{KnowsPieces}
use Rattle.lack_plan.proofs.known.champion_places.Given as goal

abbrev pub invariant-loop-which : goal.invariant-loop-which
invariant-loop-which l = KnowsPieces (take l.which (map (λ m. m.pieces.items) l.champions)) l.places
