use Rattle.std.proofs.Common.{◌≡◌, [], ◌++◌, drop, map}
use Rattle.segment_plan.specs.Plan.{placed_behind}
use Rattle.segment_plan.specs.Placing.{AreThere}
use Rattle.segment_plan.proofs.placing.places_of.Given as goal

abbrev pub invariant-loop-origin : goal.invariant-loop-origin
invariant-loop-origin l = record {
  all : l.places.items ++ placed_behind l.places.items (drop l.origin-index l.origins) l.rest (map (λ m. m.places.items) l.champions)
      ≡ placed_behind [] l.origins l.fresh (map (λ m. m.places.items) l.champions);
  there : AreThere l.places.items (drop l.origin-index l.origins) l.rest (map (λ m. m.places.items) l.champions);
}
