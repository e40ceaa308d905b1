-- What stands behind a source and no read of it changes (this project's own).
use Rattle.std.specs.Prelude.{List, ℕ, Option, Some, None}
use Rattle.std.specs.Borrow.{GName, MutBor}
use Rattle.outside.specs.Shelf.{Objects, Written}
use Rattle.outside.specs.declared.shelf.Shelf.{Ghosts}

-- the reference that the source borrows, and what the shelf behind it tells, reads left aside
pub record Behind : Type 0 where
  pub lender : Option GName
  pub held : Option Objects
  pub wrote : Option (List Written)
  pub erased : Option (List (List ℕ))

-- a source that borrows nothing
abbrev pub nothing_behind : Behind
nothing_behind = record { lender = None; held = None; wrote = None; erased = None }

-- a shelf that is borrowed
abbrev pub shelf_behind : {F : Type 0} → Ghosts F → MutBor F → Behind
shelf_behind shelf files = record { lender = Some files.ghost_name; held = shelf.held files.now; wrote = shelf.wrote files.now; erased = shelf.erased files.now }
