-- What opening a store finds (this project's own).
use Rattle.std.specs.Prelude.{◌≡◌, ℕ, true, List, IfSome, Result, Ok, Err, Vec}
use Rattle.std.specs.declared.alloc.Global.{Global}
use Rattle.ss_base.specs.declared.profile.Profile.{Profile}
use Rattle.outside.specs.Shelf.{bytes_of}
use Rattle.outside.specs.Views.{ShelfView, OnlyReads}
use Rattle.journal_entry.specs.declared.entry.Entry.{Entry}
use Rattle.history.specs.declared.rules.Limits.{Limits}
use Rattle.history.specs.Legal.{is_legal}
use Rattle.journal_file.specs.declared.limits.TheConstants.{MAX_ENTRIES, MAX_WEIGHT}
use Rattle.journal_file.specs.Header.{journal_name}
use Rattle.journal_file.specs.Journal.{IsJournal, HasNoHeader, IsBadAt}
use Rattle.journal_file.specs.Answer.{HasRead}
use Rattle.journal_file.specs.Cause.{ReadCount}
use Rattle.journal_file.specs.declared.fault.JournalFault.{JournalFault}
use Rattle.journal_file.specs.declared.fault.JournalFault.TheVariants as journal
use Rattle.store_core.specs.declared.fault.OpenFault.{OpenFault}
use Rattle.store_core.specs.declared.fault.OpenFault.TheVariants as replay
use Rattle.store_core.specs.View.{StateView, past_of, rules_of}
use Rattle.store_core.specs.Replay.{NoneIs, IsLeast, IsFirstIllegal, has_session, has_reading}
use Rattle.store_run.specs.declared.stop.Stop.{Stop}
use Rattle.store_run.specs.declared.stop.Stop.TheVariants.{Memory, DepotFault, NotStore, BadEntry, IllegalEntry, UnfinishedSession, UnfinishedReading}
use Rattle.store_run.specs.Stop.{DepotCount}

-- how long a store's history may get: 2^20 entries, and a weight of 2^24
abbrev pub store_limits : Limits
store_limits = record { entries = MAX_ENTRIES; weight = MAX_WEIGHT }

-- what a journal with this profile and these entries asks to be
abbrev pub store_of : Profile → List Entry → StateView
store_of profile entries = record { profile = profile; limits = store_limits; entries = entries }

-- its history is legal, with 8 manifests at a hook and 8 champions of a segment at most
abbrev pub IsLegal : StateView → Type 0
IsLegal store = is_legal (rules_of 8 8 store) (past_of store) ≡ true

-- the bytes are the journal of this store
pub record IsJournalOf (bytes : List ℕ) (store : StateView) : Type 0 where
  pub journal : IsJournal bytes store.profile store.entries
  pub limits : store.limits ≡ store_limits

-- they are, and its history is legal, with no session and no reading unfinished
pub record IsStore (bytes : List ℕ) (store : StateView) : Type 0 where
  pub journal : IsJournalOf bytes store
  pub legal : IsLegal store
  pub no_session : NoneIs (has_session store)
  pub no_reading : NoneIs (has_reading store)

-- the bytes are a journal, and this is the first of its entries that may not follow those before it
pub record IsIllegalAt (bytes : List ℕ) (number : ℕ) : Type 0 where
  pub store : StateView
  pub journal : IsJournalOf bytes store
  pub first : IsFirstIllegal 8 8 store number

-- they are one, its history is legal, and this is the least session that is unfinished
pub record HasUnfinishedSession (bytes : List ℕ) (session : ℕ) : Type 0 where
  pub store : StateView
  pub journal : IsJournalOf bytes store
  pub legal : IsLegal store
  pub least : IsLeast (has_session store) session

-- the same of a reading, where no session is
pub record HasUnfinishedReading (bytes : List ℕ) (reader : ℕ) : Type 0 where
  pub store : StateView
  pub journal : IsJournalOf bytes store
  pub legal : IsLegal store
  pub no_session : NoneIs (has_session store)
  pub least : IsLeast (has_reading store) reader

-- why the bytes are no store's journal; of a fault of the depot and of want of memory they are no cause
abbrev pub IsRefused : Stop → List ℕ → Type 0
IsRefused NotStore bytes = HasNoHeader bytes
IsRefused (BadEntry place) bytes = IsBadAt bytes place
IsRefused (IllegalEntry number) bytes = IsIllegalAt bytes number
IsRefused (UnfinishedSession session) bytes = HasUnfinishedSession bytes session
IsRefused (UnfinishedReading reader) bytes = HasUnfinishedReading bytes reader
IsRefused DepotFault bytes = Unit {0}
IsRefused Memory bytes = Unit {0}
IsRefused _ bytes = ⊥

-- the bytes are the store's journal, or have the cause of the refusal
abbrev pub IsOpening : Result StateView Stop → List ℕ → Type 0
IsOpening (Ok store) bytes = IsStore bytes store
IsOpening (Err why) bytes = IsRefused why bytes

-- what a journal with these entries gives
abbrev pub IsReplay : StateView → Result StateView Stop → Type 0
IsReplay store (Ok opened) = (opened ≡ store) × IsLegal store × NoneIs (has_session store) × NoneIs (has_reading store)
IsReplay store (Err (IllegalEntry number)) = IsFirstIllegal 8 8 store number
IsReplay store (Err (UnfinishedSession session)) = IsLegal store × IsLeast (has_session store) session
IsReplay store (Err (UnfinishedReading reader)) = IsLegal store × NoneIs (has_session store) × IsLeast (has_reading store) reader
IsReplay store (Err Memory) = Unit {0}
IsReplay store (Err _) = ⊥

-- what reading the journal answers
abbrev pub Reading : Type 0
Reading = Result (Profile × Vec Entry Global) JournalFault

-- why a store is not opened, where its journal was not read
abbrev pub stop_of : JournalFault → Stop
stop_of journal.Shelf = DepotFault
stop_of journal.NotStore = NotStore
stop_of (journal.BadEntry place) = BadEntry place
stop_of journal.Memory = Memory

-- why a store is not opened, where its journal gives no state
abbrev pub stop_of_replay : OpenFault → Stop
stop_of_replay (replay.Illegal number) = IllegalEntry number
stop_of_replay (replay.UnfinishedSession session) = UnfinishedSession session
stop_of_replay (replay.UnfinishedReading reader) = UnfinishedReading reader
stop_of_replay replay.Memory = Memory

-- what follows from the answer of reading the journal
abbrev pub FollowsFrom : Reading → Result StateView Stop → Type 0
FollowsFrom (Ok found) result = IsReplay (store_of found.0 found.1.items) result
FollowsFrom (Err fault) result = result ≡ Err (stop_of fault)

-- The journal was read once, and the answer follows from what was read. Where the depot tells its reads, these are
-- those that gave the journal.
pub record ReadsJournal (depot depot' : ShelfView) (result : Result StateView Stop) : Type 0 where
  pub reading : Reading
  pub gave : HasRead depot.gave depot'.gave depot.reads depot'.reads reading
  pub count : ReadCount reading depot.faults depot'.faults
  pub follows : FollowsFrom reading result

-- the depot's count rose where it is the cause, and is as before elsewhere
abbrev pub OpeningCount : Result StateView Stop → ℕ → ℕ → Type 0
OpeningCount (Ok store) before after = after ≡ before
OpeningCount (Err why) before after = DepotCount why before after

-- A store was opened, or not: where the depot tells its objects, by the journal that it has. No object changed.
pub record Opens (depot depot' : ShelfView) (result : Result StateView Stop) : Type 0 where
  pub told : IfSome depot.held (λ objects. IsOpening result (bytes_of objects journal_name))
  pub reads : ReadsJournal depot depot' result
  pub count : OpeningCount result depot.faults depot'.faults
  pub only_reads : OnlyReads depot depot'
