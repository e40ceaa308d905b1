-- The view of the opener, as the turns start (this project's own).
use Rattle.std.specs.Prelude.{ℕ, suc, false, List, [], ◌∷◌, Some, None}
use Rattle.journal_entry.specs.declared.entry.Entry.{Entry}
use Rattle.turn_lock.specs.declared.view.View.{View}

abbrev pub opener : ℕ → List ℕ → List Entry → View
opener first base entries = record {
  home = Some (record { first = first; base = base });
  known = record { numbers = first ∷ []; seen = entries };
  old = [];
  ticket = None;
  inside = false;
  next = Some (suc first);
}
