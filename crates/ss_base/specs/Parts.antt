-- A list cut into parts, each as long as a rule on what is left says.
use Rattle.std.specs.Prelude.{ℕ, zero, suc, List, [], ◌∷◌, length, take, drop}

-- at most count parts of a list
unfoldable pub parts_within : {A : Type 0} → ℕ → (List A → ℕ) → List A → List (List A)
parts_within zero first xs = []
parts_within (suc count) first [] = []
parts_within (suc count) first (x ∷ xs) =
    let n = first (x ∷ xs) in take n (x ∷ xs) ∷ parts_within count first (drop n (x ∷ xs))

-- The parts of a list: of one that isn't empty, the first has the length that first says, and the others are
-- those of the rest. Where first is never 0, there are at most as many as the list has items.
unfoldable pub parts : {A : Type 0} → (List A → ℕ) → List A → List (List A)
parts first xs = parts_within (length xs) first xs
