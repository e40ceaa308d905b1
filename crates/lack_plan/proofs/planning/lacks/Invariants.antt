use Rattle.std.proofs.Common.{take, map}
use Rattle.lack_plan.specs.Plan.{AreOrigins}
use Rattle.lack_plan.specs.Maps.{HasPlaces}
use Rattle.lack_plan.proofs.planning.lacks.Given as goal

abbrev pub invariant-loop-at : goal.invariant-loop-at
invariant-loop-at l = record {
  origins : AreOrigins (take l.at l.pieces) (map (λ m. m.pieces.items) l.champions) l.origins.items;
  places : HasPlaces (take l.at l.pieces) l.earlier;
}
