-- The containers of a manifest (this project's own).
use Rattle.std.specs.Prelude.{List, map, Contains}
use Rattle.std.specs.List.Sorted.{IsStrictlySortedBy}
use Rattle.ss_base.specs.declared.ids.ContainerId.{ContainerId}
use Rattle.ss_base.specs.declared.ids.Place.{Place}
use Rattle.ss_base.specs.Order.{container_cmp}

-- just the containers of the places, ascending, each once
pub record AreContainers (places : List Place) (ids : List ContainerId) : Type 0 where
  pub ascending : IsStrictlySortedBy container_cmp ids
  pub each : (id : ContainerId) → Contains (map (λ p. p.container) places) id → Contains ids id
  pub only : (id : ContainerId) → Contains ids id → Contains (map (λ p. p.container) places) id
