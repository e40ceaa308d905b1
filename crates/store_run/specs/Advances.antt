-- Text on its way to a sink (this project's own).
use Rattle.std.specs.Prelude.{◌≡◌, ℕ, List, [], ◌++◌, Option}
use Rattle.std.specs.Io.KnownBytes.{Appends}
use Rattle.store_run.specs.Lines.{IsLines}

-- Before and after say what is still to be written, in terms of what may come. A front of it was written, and the
-- rest is still to be.
pub record Advances {A : Type 0} (old new : Option (List ℕ)) (before after : A → List ℕ) : Type 0 where
  pub done : List ℕ
  pub written : Appends old new done
  pub rest : (more : A) → before more ≡ done ++ after more

-- the same, where the front is whole lines
pub record AdvancesByLines {A : Type 0} (old new : Option (List ℕ)) (before after : A → List ℕ) : Type 0 where
  pub way : Advances old new before after
  pub whole : IsLines way.done

-- the waiting text and then some more: all of it waits, or all of it was written
pub data Writes (old new : Option (List ℕ)) (waiting waiting' text : List ℕ) : Type 0 where
  all_waits : new ≡ old → waiting' ≡ waiting ++ text → Writes old new waiting waiting' text
  all_written : Appends old new (waiting ++ text) → waiting' ≡ [] → Writes old new waiting waiting' text

-- the waiting text and then some more: a front was written, and the rest waits
pub record Moves (old new : Option (List ℕ)) (waiting waiting' text : List ℕ) : Type 0 where
  pub done : List ℕ
  pub written : Appends old new done
  pub rest : waiting ++ text ≡ done ++ waiting'
