-- Sessions that back up an input (this project's own).
use Rattle.std.specs.Prelude.{ℕ, ◌≡◌, true, false, List}
use Rattle.journal_entry.specs.declared.entry.Entry.{Entry}
use Rattle.history.specs.Sessions.{begins, has}
use Rattle.stored_streams.specs.Streams.{Streams}

-- each session that began behind the older past has these bytes as its stream
abbrev pub IsOfInput : Streams → List Entry → List Entry → List ℕ → Type 0
IsOfInput streams older past bytes = (session : ℕ) → has (begins session) older ≡ false → has (begins session) past ≡ true → streams session ≡ bytes
