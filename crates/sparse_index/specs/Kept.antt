-- The lists as they are kept (this project's own).
use Rattle.std.specs.Prelude.{List, [], map, Option, None, Some}
use Rattle.std.specs.HashMap as hash
use Rattle.std.specs.declared.hash.BuildHasherDefault.{BuildHasherDefault}
use Rattle.std.specs.FinMap as map
use Rattle.arrayvec.specs.ArrayVec.{ArrayVec}
use Rattle.ss_base.specs.declared.ids.Standing.{Standing}
use Rattle.ss_base.specs.declared.name.Name.{Name}
use Rattle.ss_base.specs.Ids.{same_name}
use Rattle.sparse_index.specs.Lists.{Lists}
use Rattle.sparse_index.specs.declared.last_bytes.LastBytes.{LastBytes}
use Rattle.sparse_index.specs.declared.name_key.NameKey.{NameKey}

-- a list for each ready hook
abbrev pub Kept : Type 0
Kept = hash.HashMap NameKey (ArrayVec Standing) (BuildHasherDefault LastBytes)

-- what is kept for a hook
abbrev pub kept_at : Kept → Name → Option (ArrayVec Standing)
kept_at m hook = hash.get_by (λ (key : NameKey). same_name hook key.0) m

-- its items, of which there are none where no list is kept
abbrev pub items_in : Option (ArrayVec Standing) → List Standing
items_in None = []
items_in (Some list) = list.items

-- these lists as a map
abbrev pub lists_of : List (NameKey × ArrayVec Standing) → Lists
lists_of entries = map.from_entries (map (λ e. (e.0.0, e.1.items)) entries)
