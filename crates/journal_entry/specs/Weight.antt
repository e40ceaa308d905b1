-- What entries weigh (this project's own).
use Rattle.std.specs.Prelude.{ℕ, List, length, sum_by}
use Rattle.journal_entry.specs.declared.entry.Entry.{Entry}
use Rattle.journal_entry.specs.declared.entry.Point.{Point}
use Rattle.journal_entry.specs.declared.entry.Point.TheVariants.{Choose, Commit}

-- how many names of hooks and containers an entry lists
unfoldable pub point_weight : Point → ℕ
point_weight (Choose session hooks champions) = length hooks
point_weight (Commit manifest content text chunks bytes fresh fresh_bytes uses) = length uses
point_weight _ = 0

-- the names of hooks and containers that the entries list
unfoldable pub weight : List Entry → ℕ
weight entries = sum_by (λ (entry : Entry). point_weight entry.point) entries
