-- A depot as contracts see it (this project's own).
use Rattle.std.specs.Borrow.{MutBor}
use Rattle.outside.specs.Views.{ShelfView, shelf_view}
use Rattle.outside.specs.declared.shelf.Shelf.{Ghosts}
use Rattle.depot.specs.declared.depot.Depot.{Depot}

-- the shelf that the depot borrows
abbrev pub shelf_of : {S : Type 0} → Depot S → MutBor S
shelf_of depot = depot.shelf

-- What is observed of that shelf as it is now. A clause of a depot over `S: Shelf` writes its meanings `⟦<S as Shelf>⟧`.
abbrev pub seen : {S : Type 0} → Ghosts S → Depot S → ShelfView
seen meanings depot = shelf_view meanings depot.shelf.now
