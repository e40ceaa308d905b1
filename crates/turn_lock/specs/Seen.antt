-- What was seen of a list of entries that grows, and what came behind it (this project's own).
use Rattle.std.specs.Prelude.{ℕ, Bool, false, ◌==◌, ◌||◌, nat_lt, ◌≡◌, ◌⊎◌, List, [], ◌∷◌, ◌++◌, length, if◌then◌else◌}
use Rattle.std.specs.List.{AllByRecursion}
use Rattle.journal_entry.specs.declared.entry.Entry.{Entry}

-- whether the number is among these
abbrev pub has_number : List ℕ → ℕ → Bool
has_number [] n = false
has_number (m ∷ ms) n = (m == n) || has_number ms n

-- the entry is by none of these authors
abbrev pub IsByOther : List ℕ → Entry → Type 0
IsByOther numbers e = has_number numbers e.author ≡ false

-- `later` is what was seen, and behind it entries by none of these authors
abbrev pub IsLater : List ℕ → List Entry → List Entry → Type 0
IsLater numbers seen later = (behind : List Entry) × (seen ++ behind ≡ later) × AllByRecursion (IsByOther numbers) behind

-- the list is as it was, or has one entry more, by this author
abbrev pub IsTurnOf : ℕ → List Entry → List Entry → Type 0
IsTurnOf number before after = (after ≡ before) ⊎ ((e : Entry) × (after ≡ before ++ e ∷ []) × (e.author ≡ number))

-- the longer of two lists, the first where they are as long
abbrev pub longer : List Entry → List Entry → List Entry
longer xs ys = if nat_lt (length xs) (length ys) then ys else xs
