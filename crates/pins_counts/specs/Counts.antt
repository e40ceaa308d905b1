-- What is counted of the objects of a store, and which of them nothing needs (this project's own).
use Rattle.std.specs.Prelude.{ℕ, ◌==◌, Bool, not, ◌&&◌, cond, List, map, filter, Option, unwrap_or}
use Rattle.std.specs.FinMap as map
use Rattle.std.specs.FinSet as set
use Rattle.ss_base.specs.KnownObjects.{container_at, manifest_at, known_objects}
use Rattle.ss_base.specs.Order.{object_cmp}
use Rattle.ss_base.specs.declared.ended.Ended.{Ended}
use Rattle.ss_base.specs.declared.ids.ContainerId.{ContainerId}
use Rattle.ss_base.specs.declared.ids.ManifestId.{ManifestId}
use Rattle.ss_base.specs.declared.object.Object.{Object}
use Rattle.ss_base.specs.declared.object.Object.TheVariants.{Container, Manifest}
use Rattle.pins_counts.specs.declared.kind.Kind.{Kind}
use Rattle.pins_counts.specs.declared.kind.Kind.TheVariants.{Containers, Manifests}

-- What is counted: the number of each object that has room for one, per session what it had when it was closed, the
-- objects that are gone, and how many sessions may be added.
pub record Counted : Type 0 where
  pub numbers : map.FinMap object_cmp ℕ
  pub sessions : List (Option Ended)
  pub gone : set.FinSet object_cmp
  pub room : ℕ

-- the object's number: of a container its uses, of a manifest its holds
abbrev pub number : Counted → Object → ℕ
number counted object = unwrap_or (map.get counted.numbers object) 0

-- how many live manifests use the container
abbrev pub use_number : Counted → ContainerId → ℕ
use_number counted id = number counted (Container id)

-- how often the manifest is held
abbrev pub hold_number : Counted → ManifestId → ℕ
hold_number counted id = number counted (Manifest id)

-- whether there is room for the object's number
abbrev pub is_ready : Counted → Object → Bool
is_ready counted object = map.contains_key counted.numbers object

-- whether the object is gone
abbrev pub is_gone : Counted → Object → Bool
is_gone counted object = set.contains counted.gone object

-- 1 where the test holds
abbrev pub one_if : Bool → ℕ
one_if test = cond test 1 0

-- these containers as objects
abbrev pub containers : List ContainerId → List Object
containers ids = map (λ id. Container id) ids

-- the object of this kind with this number in the session
abbrev pub object_of : Kind → ℕ → ℕ → Object
object_of Containers = container_at
object_of Manifests = manifest_at

-- how many of this kind a closed session has
abbrev pub count_of : Kind → Ended → ℕ
count_of Containers ended = ended.containers
count_of Manifests ended = ended.texts

-- whether the object is not gone and has the number 0
abbrev pub is_idle : Counted → Object → Bool
is_idle counted object = not (is_gone counted object) && (number counted object == 0)

-- the objects of the closed sessions that are not gone and that nothing needs, in their order
abbrev pub dead_objects : Counted → List Object
dead_objects counted = filter (is_idle counted) (known_objects counted.sessions)
