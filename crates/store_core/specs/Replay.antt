-- What the entries of a journal give (this project's own).
use Rattle.std.specs.Prelude.{ℕ, ◌≡◌, ◌+◌, ◌<◌, Bool, true, false, List, length, reverse, take, Result, Ok, Err}
use Rattle.ss_base.specs.declared.memory.Memory.{Memory as NoMemory}
use Rattle.journal_entry.specs.declared.entry.Entry.{Entry}
use Rattle.history.specs.Sessions.{is_unfinished, is_reading}
use Rattle.history.specs.Legal.{is_legal, may_follow}
use Rattle.store_core.specs.declared.fault.OpenFault.{OpenFault}
use Rattle.store_core.specs.declared.fault.OpenFault.TheVariants.{Illegal, UnfinishedSession, UnfinishedReading, Memory}
use Rattle.store_core.specs.View.{StateView, past_of, rules_of, Adds}

-- no number has the property
abbrev pub NoneIs : (ℕ → Bool) → Type 0
NoneIs has = (n : ℕ) → has n ≡ false

-- the least number that has the property
pub record IsLeast (has : ℕ → Bool) (n : ℕ) : Type 0 where
  pub here : has n ≡ true
  pub least : (m : ℕ) → m < n → has m ≡ false

-- an entry is added where it may follow
abbrev pub TakeAnswer : ℕ → ℕ → StateView → StateView → Entry → Result Bool NoMemory → Type 0
TakeAnswer standings champions old new entry (Ok true) = (may_follow (rules_of standings champions old) entry (past_of old) ≡ true) × Adds old new entry
TakeAnswer standings champions old new entry (Ok false) = may_follow (rules_of standings champions old) entry (past_of old) ≡ false
TakeAnswer standings champions old new entry (Err fault) = Unit

-- the first entries of a state
abbrev pub first_of : ℕ → StateView → List Entry
first_of k view = reverse (take k view.entries)

-- the entry with this number is the first that may not follow those before it
pub record IsFirstIllegal (standings champions : ℕ) (asked : StateView) (k : ℕ) : Type 0 where
  pub within : k < length asked.entries
  pub legal : is_legal (rules_of standings champions asked) (first_of k asked) ≡ true
  pub illegal : is_legal (rules_of standings champions asked) (first_of (k + 1) asked) ≡ false

-- whether a session, a reading, is unfinished
abbrev pub has_session : StateView → ℕ → Bool
has_session view session = is_unfinished session (past_of view)

abbrev pub has_reading : StateView → ℕ → Bool
has_reading view reader = is_reading reader (past_of view)

-- a legal history in which all sessions and readings have ended, or why it is none
abbrev pub OpenAnswer : ℕ → ℕ → StateView → Result StateView OpenFault → Type 0
OpenAnswer standings champions asked (Ok state) =
    (state ≡ asked)
    × (is_legal (rules_of standings champions asked) (past_of asked) ≡ true)
    × NoneIs (has_session asked)
    × NoneIs (has_reading asked)
OpenAnswer standings champions asked (Err (Illegal k)) = IsFirstIllegal standings champions asked k
OpenAnswer standings champions asked (Err (UnfinishedSession session)) =
    (is_legal (rules_of standings champions asked) (past_of asked) ≡ true)
    × IsLeast (has_session asked) session
OpenAnswer standings champions asked (Err (UnfinishedReading reader)) =
    (is_legal (rules_of standings champions asked) (past_of asked) ≡ true)
    × NoneIs (has_session asked)
    × IsLeast (has_reading asked) reader
OpenAnswer standings champions asked (Err Memory) = Unit
