-- What each call on the shelf does to what is observed of it (this project's own).
use Rattle.std.specs.Prelude.{◌≡◌, ℕ, ◌≤◌, ◌⊎◌, List, length, Option, IfSome, Result, Ok, Err, Vec}
use Rattle.std.specs.declared.alloc.Global.{Global}
use Rattle.outside.specs.Faults.{Rose}
use Rattle.outside.specs.Shelf.{Objects, bytes_of, part_of, with_object, with_added, without_object, CreateLeaves, AppendLeaves, EraseLeaves, read_of, write_of, one_more, next_read}
use Rattle.outside.specs.Views.{ShelfView}
use Rattle.outside.specs.declared.trouble.Trouble.{Trouble}
use Rattle.outside.specs.declared.trouble.Trouble.TheVariants.{Fault, Memory}

-- after a read that gave these bytes
abbrev pub after_read : ShelfView → List ℕ → ℕ → ℕ → List ℕ → ShelfView
after_read shelf name at max bytes = record shelf { gave = one_more shelf.gave (read_of name at max bytes); reads = next_read shelf.reads }

-- after an object was made with these bytes
abbrev pub after_create : ShelfView → List ℕ → List ℕ → ShelfView
after_create shelf name bytes = record shelf { held = with_object shelf.held name bytes; wrote = one_more shelf.wrote (write_of name bytes) }

-- after these bytes were added to an object
abbrev pub after_append : ShelfView → List ℕ → List ℕ → ShelfView
after_append shelf name bytes = record shelf { held = with_added shelf.held name bytes; wrote = one_more shelf.wrote (write_of name bytes) }

-- after an object was taken away
abbrev pub after_erase : ShelfView → List ℕ → ShelfView
after_erase shelf name = record shelf { held = without_object shelf.held name; erased = one_more shelf.erased name }

-- One read was made, and nothing else. It gave these bytes: where the objects are told, what the named one has there.
pub record HasRead (before after : ShelfView) (name : List ℕ) (at max : ℕ) (bytes : List ℕ) : Type 0 where
  pub most : length bytes ≤ max
  pub told : IfSome before.held (λ objects. bytes ≡ part_of (bytes_of objects name) at max)
  pub call : after ≡ after_read before name at max bytes

-- the count of faults after trouble: it rose at a fault, and is as before at want of memory
abbrev pub CountsTrouble : Trouble → ℕ → ℕ → Type 0
CountsTrouble Fault before after = (before ≤ after) × Rose before after
CountsTrouble Memory before after = after ≡ before

-- one read was made, which failed
pub record HasReadNothing (before after : ShelfView) : Type 0 where
  pub call : after ≡ record before { reads = next_read before.reads; faults = after.faults }
  pub count : CountsTrouble Fault before.faults after.faults

-- memory was wanted before a read or in it
abbrev pub WantsMemory : ShelfView → ShelfView → Type 0
WantsMemory before after = (after ≡ before) ⊎ (after ≡ record before { reads = next_read before.reads })

-- a read of an object
abbrev pub ReadAnswer : ShelfView → ShelfView → List ℕ → ℕ → ℕ → Result (Vec ℕ Global) Trouble → Type 0
ReadAnswer before after name at max (Ok bytes) = HasRead before after name at max bytes.items
ReadAnswer before after name at max (Err Fault) = HasReadNothing before after
ReadAnswer before after name at max (Err Memory) = WantsMemory before after

-- A call that was to change an object met trouble. It left the objects so, and nothing else changed but the count of
-- faults.
pub record HasFailed (leaves : Option Objects → Option Objects → Type 0) (before after : ShelfView) (trouble : Trouble) : Type 0 where
  pub objects : leaves before.held after.held
  pub others : after ≡ record before { held = after.held; faults = after.faults }
  pub count : CountsTrouble trouble before.faults after.faults

-- a create of an object with these bytes
abbrev pub CreateAnswer : {T : Type 0} → ShelfView → ShelfView → List ℕ → List ℕ → Result T Trouble → Type 0
CreateAnswer before after name bytes (Ok done) = after ≡ after_create before name bytes
CreateAnswer before after name bytes (Err trouble) = HasFailed (λ old new. CreateLeaves old new name bytes) before after trouble

-- an append of these bytes to an object
abbrev pub AppendAnswer : {T : Type 0} → ShelfView → ShelfView → List ℕ → List ℕ → Result T Trouble → Type 0
AppendAnswer before after name bytes (Ok done) = after ≡ after_append before name bytes
AppendAnswer before after name bytes (Err trouble) = HasFailed (λ old new. AppendLeaves old new name bytes) before after trouble

-- an erase of an object
abbrev pub EraseAnswer : {T : Type 0} → ShelfView → ShelfView → List ℕ → Result T Trouble → Type 0
EraseAnswer before after name (Ok done) = after ≡ after_erase before name
EraseAnswer before after name (Err trouble) = HasFailed (λ old new. EraseLeaves old new name) before after trouble
