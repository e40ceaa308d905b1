-- A shelf over a folder, as contracts see it (this project's own).
use Rattle.std.specs.Prelude.{ℕ, ◌==◌, Bool, if◌then◌else◌, List, ◌∷◌, ◌++◌, Option, Some, None, codes, nat_eq}
use Rattle.std.specs.List.{slice_split, list_any}
use Rattle.std.specs.Cmp.Lexicographic.{pointwise}

-- its two counts, and nothing of its files
pub record FolderCounts : Type 0 where
  pub reads : ℕ
  pub faults : ℕ

-- `..` is among the parts of the name, which stand between its slashes
abbrev pub leads_out : List ℕ → Bool
leads_out name = list_any (λ part. pointwise nat_eq part (codes "..")) (slice_split (λ b. b == 47) name)

-- the path of the file of this name: the folder, a slash and the name; one that leads out has none
abbrev pub file_path : List ℕ → List ℕ → Option (List ℕ)
file_path folder name = if leads_out name then None else Some (folder ++ 47 ∷ name)
