-- What a legal history keeps (this project's own).
use Rattle.std.specs.Prelude.{◌≡◌, ◌+◌, ◌^◌, ◌<◌, ◌≤◌, true, List, length, reverse, vec_len, vec_capacity}
use Rattle.journal_entry.specs.declared.entry.Entry.{Entry}
use Rattle.history.specs.Legal.{is_legal, unfinished_sessions, unfinished_readings}
use Rattle.legal_history.specs.declared.legal_history.LegalHistory.TheInside.{Inside}
use Rattle.legal_history.specs.Recorded.{Recorded}
use Rattle.legal_history.specs.Agrees.{AreSessions, AreReadings}
use Rattle.legal_history.specs.Names.{AreNames}

abbrev pub recorded_in : Inside → Recorded
recorded_in h = record { rules = h.rules; entries = h.entries.items }

abbrev pub past_in : Inside → List Entry
past_in h = reverse h.entries.items

-- the entries are legal, the parts say what they say, and there is room for the ends of what is unfinished
pub record IsKept (h : Inside) : Type 0 where
  pub legal : is_legal h.rules (past_in h) ≡ true
  pub limit : h.rules.limits.entries < 2 ^ 32
  pub few : length h.entries.items < 2 ^ 32
  pub rows : AreSessions h.parts.sessions (past_in h)
  pub readers : AreReadings h.parts.readings (past_in h)
  pub named : AreNames h.parts.names.sessions (past_in h)
  pub unfinished : h.unfinished ≡ unfinished_sessions (past_in h) + unfinished_readings (past_in h)
  pub room : vec_len h.entries + h.unfinished ≤ vec_capacity h.entries
