-- What is hashed of a name (this project's own).
use Rattle.std.specs.Prelude.{ℕ, ◌≡◌, true, List, [], ◌∷◌}
use Rattle.std.specs.List.{slice_range}
use Rattle.std.proofs.Common.{ap}
use Rattle.ss_base.specs.declared.name.Name.{Name}
use Rattle.ss_base.specs.Ids.{same_name}
use Rattle.ss_base.proofs.IdLaws.{same_name-true}
use Rattle.sparse_index.specs.declared.name_key.NameKey.{NameKey}

-- its last eight bytes, of 32, in one write
abbrev pub hashed : NameKey → List (List ℕ)
hashed key = slice_range key.0.0 24 32 ∷ []

-- the same names are hashed alike
pub hashed_alike : (a b : NameKey) → same_name a.0 b.0 ≡ true → hashed a ≡ hashed b
hashed_alike a b same = ap (λ (name : Name). hashed (record { 0 = name })) (same_name-true a.0 b.0 same)
