-- The hooks of a segment (FAST 2009, sampling).
use Rattle.std.specs.Prelude.{ℕ, not, List, [], ◌∷◌, map, filter}
use Rattle.ss_base.specs.declared.name.Name.{Name}
use Rattle.ss_base.specs.declared.name.Piece.{Piece}
use Rattle.ss_base.specs.Ids.{same_name}
use Rattle.ss_base.specs.Hook.{is_hook}

-- the names without repetition: the first, and those of the others without it
unfoldable pub distinct : List Name → List Name
distinct [] = []
distinct (name ∷ names) = name ∷ filter (λ other. not (same_name other name)) (distinct names)

-- The hooks of some pieces: the distinct names whose first bits bits are zero, in the order in which they first
-- stand among the pieces.
abbrev pub hooks : ℕ → List Piece → List Name
hooks bits pieces = distinct (filter (is_hook bits) (map (λ piece. piece.name) pieces))
