-- How the hooks that were found are kept (this project's own).
use Rattle.std.specs.Prelude.{◌≡◌, List}
use Rattle.ss_base.specs.declared.name.Name.{Name}
use Rattle.ss_base.specs.Ids.{has_name}

-- a set has just the names of a list
pub record HasSeen (seen names : List Name) : Type 0 where
  pub same : (name : Name) → has_name name seen ≡ has_name name names
