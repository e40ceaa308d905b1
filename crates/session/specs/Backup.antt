-- What a backup does, by its answer (this project's own).
use Rattle.std.specs.Prelude.{ℕ, ◌≡◌, Bool, true, false, List, [], IfSome, Result, Ok, Err}
use Rattle.std.specs.FinMap.{contains_key}
use Rattle.journal_entry.specs.declared.entry.Entry.{Entry}
use Rattle.outside.specs.Shelf.{left_of}
use Rattle.outside.specs.Views.{ShelfView, SourceView, OnlyReads}
use Rattle.outside.specs.declared.trouble.Trouble.{Trouble}
use Rattle.store_core.specs.declared.fault.BeginFault.{BeginFault}
use Rattle.depot.specs.declared.fault.BackupFault.{BackupFault}
use Rattle.depot.specs.declared.fault.BackupFault.TheVariants.{NoInput}
use Rattle.history_calls.specs.Tokens.{IdleView, OpenView}
use Rattle.history_calls.specs.SessionSteps.{HasBegun, HasNotBegun}
use Rattle.store_core.specs.View.{StateView}
use Rattle.segment_store.specs.Loads.{Entries}
use Rattle.session.specs.Causes.{of_input, of_begin, InputAnswer, DepotAnswer}
use Rattle.session.specs.Runs.{HasStreamed, HasNotStreamed}

-- the input as a source, from its first byte
abbrev pub input_view : ShelfView → List ℕ → SourceView
input_view files name = record { left = left_of files.held name 0; ended = false; faults = files.faults }

-- where the files are told, whether this one is there
abbrev pub IsThere : ShelfView → List ℕ → Bool → Type 0
IsThere files name there = IfSome files.held (λ objects. there ≡ contains_key objects name)

-- Nothing was begun, by this answer: the input could not be asked for, or is not there, or no session began.
pub data HasNotStarted (others : List Entry → Type 0) (standings champions : ℕ) (files : ShelfView) (input name : List ℕ) (before after : IdleView) (fault : BackupFault) : Type 0 where
  unasked : (trouble : Trouble) → fault ≡ of_input trouble → after ≡ before
      → HasNotStarted others standings champions files input name before after fault
  absent : fault ≡ NoInput → IsThere files input false → after ≡ before
      → HasNotStarted others standings champions files input name before after fault
  unbegun : (cause : BeginFault) → fault ≡ of_begin cause → IsThere files input true
      → HasNotBegun others standings champions before name after cause
      → HasNotStarted others standings champions files input name before after fault

-- A session was begun for the input's stream.
pub record HasStarted (others : List Entry → Type 0) (standings champions : ℕ) (files : ShelfView) (input name : List ℕ) (before : IdleView) : Type 0 where
  pub there : IsThere files input true
  pub caller : OpenView
  pub begun : HasBegun others standings champions before name caller

-- A backup stored its input's stream in a session of its own, which is the answer.
pub record HasBackedUp (others : List Entry → Type 0) (standings champions : ℕ) (files : ShelfView) (input name : List ℕ) (before : IdleView) (depot : ShelfView) (cache : Entries) (after : IdleView) (depot' : ShelfView) (cache' : Entries) (session : ℕ) : Type 0 where
  pub started : HasStarted others standings champions files input name before
  pub streamed : HasStreamed others standings champions started.caller (input_view files input) depot cache after depot' cache'
  pub session_is : session ≡ started.caller.session

-- A backup failed: nothing was begun and the depot is as before, or a session was begun and given up.
pub data HasNotBackedUp (others : List Entry → Type 0) (standings champions : ℕ) (files : ShelfView) (input name : List ℕ) (before : IdleView) (depot : ShelfView) (cache : Entries) (after : IdleView) (depot' : ShelfView) (cache' : Entries) (fault : BackupFault) : Type 0 where
  not_started : (depot' ≡ depot) × (cache' ≡ cache) → HasNotStarted others standings champions files input name before after fault
      → HasNotBackedUp others standings champions files input name before depot cache after depot' cache' fault
  given_up : (started : HasStarted others standings champions files input name before)
      → HasNotStreamed others standings champions started.caller (input_view files input) depot cache after depot' cache' fault
      → HasNotBackedUp others standings champions files input name before depot cache after depot' cache' fault

abbrev pub BackupAnswer : (List Entry → Type 0) → ℕ → ℕ → ShelfView → List ℕ → List ℕ → IdleView → ShelfView → Entries → IdleView → ShelfView → Entries → Result ℕ BackupFault → Type 0
BackupAnswer others standings champions files input name before depot cache after depot' cache' (Ok session) =
    HasBackedUp others standings champions files input name before depot cache after depot' cache' session
BackupAnswer others standings champions files input name before depot cache after depot' cache' (Err fault) =
    HasNotBackedUp others standings champions files input name before depot cache after depot' cache' fault

-- The same by a caller that has the history to itself, with a state before and after, and what shows of it: the files are
-- only read, and a count of faults rose where it is the cause and is as before elsewhere.
pub record HasRunAlone (standings champions author : ℕ) (files files' : ShelfView) (input name : List ℕ) (old new : StateView) (depot depot' : ShelfView) (cache cache' : Entries) (result : Result ℕ BackupFault) : Type 0 where
  pub after : IdleView
  pub after_is : after.seen ≡ new
  pub answer : BackupAnswer (λ came. came ≡ []) standings champions files input name (record { author = author; seen = old }) depot cache after depot' cache' result
  pub files_are : OnlyReads files files'
  pub input_count : InputAnswer result files.faults files'.faults
  pub depot_count : DepotAnswer result depot.faults depot'.faults
