-- What a removal answers (this project's own).
use Rattle.std.specs.Prelude.{◌≡◌, Result, Ok, Err}
use Rattle.ss_base.specs.declared.object.Object.{Object}
use Rattle.ss_base.specs.ObjectName.{object_text}
use Rattle.outside.specs.Shelf.{EraseLeaves}
use Rattle.outside.specs.Views.{ShelfView}
use Rattle.outside.specs.declared.trouble.Trouble.{Trouble}
use Rattle.depot.specs.Calls.{after_erase, HasFailed}

-- an erase of the object that was given over; where it failed, the removal is given back
abbrev pub RemoveAnswer : {T : Type 0} → ShelfView → ShelfView → Object → Result T (Object × Trouble) → Type 0
RemoveAnswer before after object (Ok done) = after ≡ after_erase before (object_text object)
RemoveAnswer before after object (Err back) =
    (back.0 ≡ object) × HasFailed (λ old new. EraseLeaves old new (object_text object)) before after back.1
