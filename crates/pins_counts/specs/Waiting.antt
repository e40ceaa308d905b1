-- Which sessions may have dead objects.
use Rattle.std.specs.Prelude.{ℕ, ◌≡◌, ◌==◌, ◌≤◌, ◌<◌, ◌+◌, Bool, false, ◌||◌, List, [], ◌∷◌, length, Option, None, Some, slice_get}
use Rattle.ss_base.specs.KnownObjects.{numbered}
use Rattle.ss_base.specs.declared.ended.Ended.{Ended}
use Rattle.ss_base.specs.declared.object.Object.{Object}
use Rattle.pins_counts.specs.declared.kind.Kind.{Kind}
use Rattle.pins_counts.specs.Counts.{Counted, object_of, count_of, is_idle}

-- Sessions in ascending order, and the number below which each has room.
pub record Awaited : Type 0 where
  pub sessions : List ℕ
  pub below : ℕ

-- whether the session is one of these
abbrev pub awaits : List ℕ → ℕ → Bool
awaits [] q = false
awaits (x ∷ xs) q = (q == x) || awaits xs q

-- ascending numbers from one on, below another
abbrev pub IsAscending : ℕ → ℕ → List ℕ → Type 0
IsAscending from below [] = from ≤ below
IsAscending from below (x ∷ xs) = (from ≤ x) × IsAscending (x + 1) below xs

-- what the session had when it was closed
abbrev pub closed : Option (Option Ended) → Option Ended
closed None = None
closed (Some ended) = ended

abbrev pub ended_at : Counted → ℕ → Option Ended
ended_at counted session = closed (slice_get counted.sessions session)

-- the objects of one kind of a session with this number, where it is closed
abbrev pub objects_had : Kind → ℕ → Option Ended → List Object
objects_had kind session None = []
objects_had kind session (Some ended) = numbered (object_of kind session) 0 (count_of kind ended)

abbrev pub objects_at : Kind → Counted → ℕ → List Object
objects_at kind counted session = objects_had kind session (ended_at counted session)

-- none of the session's objects of this kind is dead
abbrev pub IsQuiet : Kind → Counted → ℕ → Type 0
IsQuiet kind counted session =
    (ended : Ended) (n : ℕ) → ended_at counted session ≡ Some ended → n < count_of kind ended → is_idle counted (object_of kind session n) ≡ false

-- each session that has a dead object of this kind is awaited, and there is room for all sessions
pub record IsAwaited (kind : Kind) (counted : Counted) (awaited : Awaited) : Type 0 where
  pub covers : (session : ℕ) → awaits awaited.sessions session ≡ false → IsQuiet kind counted session
  pub room : length counted.sessions + counted.room ≤ awaited.below
