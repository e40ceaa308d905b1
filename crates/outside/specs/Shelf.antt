-- Named objects and what the calls on them do (this project's own).
use Rattle.std.specs.Prelude.{◌≡◌, ℕ, ◌+◌, ◌%◌, ◌^◌, ◌⊎◌, List, [], ◌∷◌, ◌++◌, take, drop, Option, unwrap_or}
use Rattle.std.specs.Option.{option_map}
use Rattle.std.specs.Ordering.{nat_cmp}
use Rattle.std.specs.Cmp.Lexicographic.{slice_cmp}
use Rattle.std.specs.FinMap as map

-- the objects of a shelf, from their names to their bytes
abbrev pub Objects : Type 0
Objects = map.FinMap (slice_cmp nat_cmp) (List ℕ)

-- the bytes of an object; an absent one has none
abbrev pub bytes_of : Objects → List ℕ → List ℕ
bytes_of objects name = unwrap_or (map.get objects name) []

-- the bytes from a place on, as many as `max` or to the end
abbrev pub part_of : List ℕ → ℕ → ℕ → List ℕ
part_of bytes at max = take max (drop at bytes)

-- what is left of an object from a place on, where the objects are told
abbrev pub left_of : Option Objects → List ℕ → ℕ → Option (List ℕ)
left_of held name at = option_map (λ objects. drop at (bytes_of objects name)) held

-- the told objects, with this one holding exactly these bytes
abbrev pub with_object : Option Objects → List ℕ → List ℕ → Option Objects
with_object held name bytes = option_map (λ objects. map.insert objects name bytes) held

-- the told objects, with these bytes behind those of this one, which is made where it was absent
abbrev pub with_added : Option Objects → List ℕ → List ℕ → Option Objects
with_added held name bytes = option_map (λ objects. map.insert objects name (bytes_of objects name ++ bytes)) held

-- the told objects but this one
abbrev pub without_object : Option Objects → List ℕ → Option Objects
without_object held name = option_map (λ objects. map.remove objects name) held

-- what a create that failed may leave: all as before, a front of the bytes in the object, or no such object
abbrev pub CreateLeaves : Option Objects → Option Objects → List ℕ → List ℕ → Type 0
CreateLeaves old new name bytes =
    (new ≡ old)
    ⊎ (((front : List ℕ) × (back : List ℕ) × (bytes ≡ front ++ back) × (new ≡ with_object old name front))
    ⊎ (new ≡ without_object old name))

-- what an append that failed may leave: all as before, or a front of the bytes behind those of the object
abbrev pub AppendLeaves : Option Objects → Option Objects → List ℕ → List ℕ → Type 0
AppendLeaves old new name bytes =
    (new ≡ old) ⊎ ((front : List ℕ) × (back : List ℕ) × (bytes ≡ front ++ back) × (new ≡ with_added old name front))

-- what an erase that failed may leave: all as before, or no such object
abbrev pub EraseLeaves : Option Objects → Option Objects → List ℕ → Type 0
EraseLeaves old new name = (new ≡ old) ⊎ (new ≡ without_object old name)

-- a read that answered Ok: what it asked for and what it was given
pub record Given : Type 0 where
  pub name : List ℕ
  pub at : ℕ
  pub max : ℕ
  pub bytes : List ℕ

abbrev pub read_of : List ℕ → ℕ → ℕ → List ℕ → Given
read_of name at max bytes = record { name = name; at = at; max = max; bytes = bytes }

-- a create or an append that answered Ok
pub record Written : Type 0 where
  pub name : List ℕ
  pub bytes : List ℕ

abbrev pub write_of : List ℕ → List ℕ → Written
write_of name bytes = record { name = name; bytes = bytes }

-- a told list, with one more at its end
abbrev pub one_more : {X : Type 0} → Option (List X) → X → Option (List X)
one_more told x = option_map (λ xs. xs ++ x ∷ []) told

-- one more read
abbrev pub next_read : ℕ → ℕ
next_read n = (n + 1) % 2 ^ 64
