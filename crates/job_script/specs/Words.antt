-- The words of a line (this project's own).
use Rattle.std.specs.Prelude.{ℕ, not, ◌==◌, List, length, filter}
use Rattle.std.specs.List.{slice_split}

-- the parts of some bytes, which stand between the separators
abbrev pub parts : ℕ → List ℕ → List (List ℕ)
parts separator bytes = slice_split (λ b. b == separator) bytes

-- the words of a line: the parts between its spaces that have bytes
abbrev pub words : List ℕ → List (List ℕ)
words line = filter (λ part. not (length part == 0)) (parts 32 line)
