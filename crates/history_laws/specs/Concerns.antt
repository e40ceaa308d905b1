-- Which entries have to do with a session or a reading (this project's own).
use Rattle.std.specs.Prelude.{ℕ, Bool, ◌||◌}
use Rattle.journal_entry.specs.declared.entry.Point.{Point}
use Rattle.history.specs.Sessions.{begins, settles, closes, deletes, looks, ends}

-- whether an entry begins the session, makes or ends a choice of it, closes it or deletes its stream
unfoldable pub concerns_session : ℕ → Point → Bool
concerns_session session point = begins session point || (settles session point || (closes session point || deletes session point))

-- whether an entry begins or ends the reading
unfoldable pub concerns_reading : ℕ → Point → Bool
concerns_reading reader point = looks reader point || ends reader point
