-- Stream tables that say the same of a history (this project's own).
use Rattle.std.specs.Prelude.{ℕ, ◌≡◌, true, List}
use Rattle.journal_entry.specs.declared.entry.Entry.{Entry}
use Rattle.history.specs.Sessions.{begins, has}
use Rattle.stored_streams.specs.Streams.{Streams}

-- two tables agree on each session that began
abbrev pub AgreeOn : List Entry → Streams → Streams → Type 0
AgreeOn past one other = (session : ℕ) → has (begins session) past ≡ true → one session ≡ other session
