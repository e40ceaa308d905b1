-- Objects kept by their names in a tree (this project's own).
use Rattle.std.specs.Prelude.{ℕ, List, map, Vec, String, string_bytes}
use Rattle.std.specs.declared.alloc.Global.{Global}
use Rattle.std.specs.BTreeMap.{BTreeMap}
use Rattle.std.specs.FinMap.{from_entries}
use Rattle.std.specs.Ordering.{nat_cmp}
use Rattle.std.specs.Cmp.Lexicographic.{slice_cmp}
use Rattle.outside.specs.Shelf.{Objects}

-- names as text, objects as vectors
abbrev pub Tree : Type 0
Tree = BTreeMap (String Global) (Vec ℕ Global)

-- an entry as two lists of bytes
abbrev pub entry_bytes : String Global × Vec ℕ Global → List ℕ × List ℕ
entry_bytes e = (string_bytes e.0, e.1.items)

-- the objects that the tree holds
abbrev pub objects_of : Tree → Objects
objects_of tree = from_entries {R = slice_cmp nat_cmp} (map entry_bytes tree.entries)
