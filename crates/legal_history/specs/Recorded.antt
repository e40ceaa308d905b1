-- A legal history with the rules by which it is legal (this project's own).
use Rattle.std.specs.Prelude.{ℕ, ◌+◌, ◌-◌, Bool, true, false, List, reverse, Some}
use Rattle.journal_entry.specs.declared.entry.Entry.{Entry}
use Rattle.journal_entry.specs.declared.entry.Point.{Point}
use Rattle.journal_entry.specs.declared.entry.Point.TheVariants.{Begin, Finish, Abort, Look, Done}
use Rattle.history.specs.declared.rules.Rules.{Rules}

-- the entries, oldest first, and the rules
pub record Recorded : Type 0 where
  pub rules : Rules
  pub entries : List Entry

-- the entries, newest first
abbrev pub past_of : Recorded → List Entry
past_of recorded = reverse recorded.entries

-- whether an entry ends a session or a reading
abbrev pub is_end : Point → Bool
is_end (Finish session containers) = true
is_end (Abort session containers texts) = true
is_end (Done reader) = true
is_end _ = false

-- how many sessions and readings are unfinished after an entry, by how many were
abbrev pub unfinished_after : ℕ → Point → ℕ
unfinished_after n (Begin name (Some session)) = n + 1
unfinished_after n (Look name (Some seen)) = n + 1
unfinished_after n (Finish session containers) = n - 1
unfinished_after n (Abort session containers texts) = n - 1
unfinished_after n (Done reader) = n - 1
unfinished_after n _ = n
