-- The objects that a store knows of: those of its closed sessions (this project's own).
use Rattle.std.specs.Prelude.{ℕ, ◌+◌, List, [], ◌∷◌, ◌++◌, map, Option, None, Some}
use Rattle.std.specs.List.{range_with_len}
use Rattle.ss_base.specs.declared.ended.Ended.{Ended}
use Rattle.ss_base.specs.declared.object.Object.{Object}
use Rattle.ss_base.specs.declared.object.Object.TheVariants.{Container, Manifest}

-- the container of a session with this ordinal, and its manifest with this seq
abbrev pub container_at : ℕ → ℕ → Object
container_at session ordinal = Container (record { session = session; ordinal = ordinal })

abbrev pub manifest_at : ℕ → ℕ → Object
manifest_at session seq = Manifest (record { session = session; seq = seq })

-- n objects, from a number on
abbrev pub numbered : (ℕ → Object) → ℕ → ℕ → List Object
numbered object from n = map object (range_with_len from n)

-- The objects of the closed ones of these sessions, the first of which has this number: of each, as many as it had,
-- numbered from 0.
abbrev pub objects_of : (ℕ → ℕ → Object) → (Ended → ℕ) → ℕ → List (Option Ended) → List Object
objects_of object count session [] = []
objects_of object count session (None ∷ rest) = objects_of object count (session + 1) rest
objects_of object count session (Some ended ∷ rest) = numbered (object session) 0 (count ended) ++ objects_of object count (session + 1) rest

-- The objects of the closed sessions, in their order: the containers, then the manifests. There is an item for each
-- session from 0 on: what it had when it was closed, or none.
abbrev pub known_objects : List (Option Ended) → List Object
known_objects sessions = objects_of container_at (λ ended. ended.containers) 0 sessions ++ objects_of manifest_at (λ ended. ended.texts) 0 sessions
