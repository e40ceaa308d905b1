-- The order of stored objects: by their fields from left to right, and each container before each manifest (this
-- project's own).
use Rattle.std.specs.Prelude.{Bool, true, ◌==◌, ◌&&◌, ◌||◌, nat_lt, List, [], ◌∷◌}
use Rattle.std.specs.Ordering.{nat_cmp, ordering_then}
use Rattle.std.specs.declared.cmp.Ordering.{Ordering}
use Rattle.std.specs.declared.cmp.Ordering.TheVariants.{Less, Greater}
use Rattle.ss_base.specs.declared.ids.ContainerId.{ContainerId}
use Rattle.ss_base.specs.declared.ids.ManifestId.{ManifestId}
use Rattle.ss_base.specs.declared.object.Object.{Object}
use Rattle.ss_base.specs.declared.object.Object.TheVariants.{Container, Manifest}

abbrev pub container_cmp : ContainerId → ContainerId → Ordering
container_cmp a b = ordering_then (nat_cmp a.session b.session) (nat_cmp a.ordinal b.ordinal)

abbrev pub manifest_cmp : ManifestId → ManifestId → Ordering
manifest_cmp a b = ordering_then (nat_cmp a.session b.session) (nat_cmp a.seq b.seq)

abbrev pub object_cmp : Object → Object → Ordering
object_cmp (Container a) (Container b) = container_cmp a b
object_cmp (Container a) (Manifest b) = Less
object_cmp (Manifest a) (Container b) = Greater
object_cmp (Manifest a) (Manifest b) = manifest_cmp a b

abbrev pub is_container_before : ContainerId → ContainerId → Bool
is_container_before a b = nat_lt a.session b.session || ((a.session == b.session) && nat_lt a.ordinal b.ordinal)

-- whether the container comes before the first of the containers
unfoldable pub is_before_first : ContainerId → List ContainerId → Bool
is_before_first id [] = true
is_before_first id (other ∷ ids) = is_container_before id other

-- whether the containers are ascending, and so distinct
unfoldable pub are_ascending : List ContainerId → Bool
are_ascending [] = true
are_ascending (id ∷ ids) = is_before_first id ids && are_ascending ids
