-- A source of one object of a shelf, as contracts see it (this project's own).
use Rattle.std.specs.Prelude.{ℕ, Bool, List, Option}
use Rattle.std.specs.Borrow.{MutBor}
use Rattle.outside.specs.Shelf.{Objects, left_of}
use Rattle.outside.specs.declared.shelf.Shelf.{Ghosts}
use Rattle.outside.specs.declared.shelf_source.ShelfSource.{ShelfSource}

module _ {F : Type 0} {shelf : Ghosts F} where
  -- the shelf that the source borrows
  abbrev pub files_of : ShelfSource F shelf → MutBor F
  files_of source = source.files

  -- the name of its object
  abbrev pub source_name : ShelfSource F shelf → List ℕ
  source_name source = source.name.now

  -- the place of the next byte in the object
  abbrev pub source_at : ShelfSource F shelf → ℕ
  source_at source = source.at

  -- the bytes still to come, where the shelf tells its objects
  abbrev pub source_left : (F → Option Objects) → ShelfSource F shelf → Option (List ℕ)
  source_left held source = left_of (held source.files.now) source.name.now source.at

  -- the end was answered
  abbrev pub source_ended : ShelfSource F shelf → Bool
  source_ended source = source.has_ended
