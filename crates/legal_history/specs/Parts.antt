-- What an entry does to all that is kept beside the entries (this project's own).
use Rattle.std.specs.Prelude.{ℕ, ◌≡◌, List, [], ◌∷◌, ◌++◌, Some}
use Rattle.std.specs.BTreeMap as tree
use Rattle.journal_entry.specs.declared.entry.Point.{Point}
use Rattle.journal_entry.specs.declared.entry.Point.TheVariants.{Begin}
use Rattle.legal_history.specs.declared.parts.Parts.{Parts}
use Rattle.legal_history.specs.Rows.{begun, noted, noted_reading}
use Rattle.legal_history.specs.Names.{OneNamed, SameNames}

-- what an entry does to the names
abbrev pub NamesNoted : Point → tree.BTreeMap (List ℕ) ℕ → tree.BTreeMap (List ℕ) ℕ → Type 0
NamesNoted (Begin name (Some session)) m n = OneNamed m n name session
NamesNoted _ m n = SameNames m n

-- the new parts are the old ones after the entry with a number
pub record HasNoted (number : ℕ) (point : Point) (old new : Parts) : Type 0 where
  pub rows : new.sessions ≡ noted number point old.sessions
  pub readers : new.readings ≡ noted_reading number point old.readings
  pub named : NamesNoted point old.names.sessions new.names.sessions

-- the same after a Begin with a session
pub record HasBegun (number : ℕ) (name : List ℕ) (session : ℕ) (old new : Parts) : Type 0 where
  pub rows : new.sessions ≡ old.sessions ++ begun number ∷ []
  pub readers : new.readings ≡ old.readings
  pub named : OneNamed old.names.sessions new.names.sessions name session

-- nothing has changed
pub record AsBefore (old new : Parts) : Type 0 where
  pub rows : new.sessions ≡ old.sessions
  pub readers : new.readings ≡ old.readings
  pub named : SameNames old.names.sessions new.names.sessions
