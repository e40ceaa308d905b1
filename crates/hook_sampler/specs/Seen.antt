-- How the names found so far are kept.
use Rattle.std.specs.Prelude.{◌≡◌, List}
use Rattle.std.specs.List.{list_any}
use Rattle.ss_base.specs.declared.name.Name.{Name}
use Rattle.ss_base.specs.Ids.{same_name}

-- a set has just the names of a list
pub record HasSeen (seen names : List Name) : Type 0 where
  pub same : (name : Name) → list_any (same_name name) seen ≡ list_any (same_name name) names
