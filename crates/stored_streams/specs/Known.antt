-- Objects of which none but those that a history knows of, and the journal, are there (this project's own).
use Rattle.std.specs.Prelude.{ℕ, ◌≡◌, ◌⊎◌, List, Contains, codes, Some}
use Rattle.std.specs.FinMap as map
use Rattle.ss_base.specs.declared.object.Object.{Object}
use Rattle.ss_base.specs.declared.object.Object.TheVariants.{Container, Manifest}
use Rattle.ss_base.specs.ObjectName.{object_text}
use Rattle.outside.specs.Shelf.{Objects}
use Rattle.journal_entry.specs.declared.entry.Entry.{Entry}
use Rattle.history.specs.Need.{known}

-- the session that an object belongs to
abbrev pub session_of : Object → ℕ
session_of (Container id) = id.session
session_of (Manifest id) = id.session

-- the name of an object that the history knows of
pub record IsKnownName (past : List Entry) (name : List ℕ) : Type 0 where
  pub object : Object
  pub known : Contains (known past) object
  pub named : name ≡ object_text object

-- each object is the journal, or one that the history knows of
abbrev pub HasOnlyKnown : List Entry → Objects → Type 0
HasOnlyKnown past objects = (name bytes : List ℕ) → map.get objects name ≡ Some bytes → (name ≡ codes "journal") ⊎ IsKnownName past name
