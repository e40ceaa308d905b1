-- What a restore answers, and what shows of it (this project's own).
use Rattle.std.specs.Prelude.{◌≡◌, ◌≢◌, ◌≤◌, true, false, ℕ, List, [], length, IfSome, Result, Ok, Err}
use Rattle.std.specs.FinMap.{contains_key}
use Rattle.journal_entry.specs.declared.entry.Entry.{Entry}
use Rattle.journal_entry.specs.declared.entry.Point.TheVariants.{Done}
use Rattle.store_core.specs.declared.fault.NameFault.{NameFault}
use Rattle.store_core.specs.declared.values.Looked.{Looked}
use Rattle.store_core.specs.View.{StateView, made as entry_made, Adds}
use Rattle.store_core.specs.Answers.{LookAnswer}
use Rattle.outside.specs.Faults.{Rose}
use Rattle.outside.specs.Shelf.{with_object, CreateLeaves}
use Rattle.outside.specs.Views.{ShelfView}
use Rattle.outside.specs.declared.trouble.Trouble.{Trouble}
use Rattle.depot.specs.declared.fault.RestoreFault.{RestoreFault}
use Rattle.depot.specs.declared.fault.RestoreFault.TheVariants.{Exists, NoStream, OutputFault, DepotFault, Damaged, Unlike, Full, Memory}
use Rattle.depot.specs.Calls.{HasFailed}
use Rattle.history_calls.specs.Tokens.{IdleView, ReadingView}
use Rattle.history_calls.specs.ReadingSteps.{HasLooked, HasNotLooked, HasEnded}
use Rattle.restore.specs.Faults.{output_fault, look_fault}
use Rattle.restore.specs.Copies.{Shelves, counted, StreamCopy}

-- ---- the calls on the history

-- none; a look that was refused; or a look, and then done
pub data Calls : Type 0 where
  no_call : Calls
  refused : NameFault → Calls
  looked_and_done : Looked → Calls

-- the stream was looked up, and its reading was ended
pub record HasReadStream (others : List Entry → Type 0) (standings champions : ℕ) (before : IdleView) (name : List ℕ) (after : IdleView) (found : Looked) : Type 0 where
  pub reading : ReadingView
  pub found_is : reading.looked ≡ found
  pub looked : HasLooked others standings champions before name reading
  pub ended : HasEnded others standings champions reading after

-- what a caller's calls did, each at its turn
abbrev pub CallsOf : (List Entry → Type 0) → ℕ → ℕ → IdleView → List ℕ → IdleView → Calls → Type 0
CallsOf others standings champions before name after no_call = after ≡ before
CallsOf others standings champions before name after (refused why) = HasNotLooked others standings champions before name after why
CallsOf others standings champions before name after (looked_and_done found) = HasReadStream others standings champions before name after found

-- the same of a state: the entry of the look, and behind it that of done
pub record StateRead (before : StateView) (author : ℕ) (name : List ℕ) (after : StateView) (found : Looked) : Type 0 where
  pub between : StateView
  pub looked : LookAnswer before between author name (Ok found)
  pub ended : Adds between after (entry_made author (Done found.reader))

abbrev pub StateCalls : StateView → ℕ → List ℕ → StateView → Calls → Type 0
StateCalls before author name after no_call = after ≡ before
StateCalls before author name after (refused why) = LookAnswer before after author name (Err why)
StateCalls before author name after (looked_and_done found) = StateRead before author name after found

-- ---- the answer

-- where the files are told, the output is there, or is not
abbrev pub IsThere : ShelfView → List ℕ → Type 0
IsThere files output = IfSome files.held (λ objects. contains_key objects output ≡ true)

abbrev pub IsAbsent : ShelfView → List ℕ → Type 0
IsAbsent files output = IfSome files.held (λ objects. contains_key objects output ≡ false)

-- How a restore went: whether the output is there could not be asked; it is there; the look was refused; or the stream
-- was looked up and copied, as far as the answer says, and then the reading was ended.
pub data RestoreAnswer (calls : Calls → Type 0) (output : List ℕ) (before after : Shelves) (result : Result ℕ RestoreFault) : Type 0 where
  not_asked : (why : Trouble) → result ≡ Err (output_fault why) → calls no_call
      → HasFailed (λ old new. new ≡ old) before.files after.files why → after.depot ≡ before.depot
      → RestoreAnswer calls output before after result
  exists : result ≡ Err Exists → calls no_call → IsThere before.files output → after ≡ before
      → RestoreAnswer calls output before after result
  not_looked : (why : NameFault) → result ≡ Err (look_fault why) → calls (refused why) → IsAbsent before.files output → after ≡ before
      → RestoreAnswer calls output before after result
  copied : (found : Looked) → calls (looked_and_done found) → IsAbsent before.files output
      → StreamCopy output before after found.manifests.items result
      → RestoreAnswer calls output before after result

-- ---- what shows of it

-- Why it answered so. `Exists` comes where the output is there, and each other answer but those of a failed `has` where
-- it is not; then, and where the look was refused, both shelves are as before. A fault comes where the count of its shelf
-- rose in this call. The two names of `Damaged` differ.
abbrev pub RestoreCause : List ℕ → Shelves → Shelves → Result ℕ RestoreFault → Type 0
RestoreCause output before after (Ok count) = IsAbsent before.files output
RestoreCause output before after (Err Exists) = IsThere before.files output × (after ≡ before)
RestoreCause output before after (Err NoStream) = IsAbsent before.files output × (after ≡ before)
RestoreCause output before after (Err Full) = IsAbsent before.files output × (after ≡ before)
RestoreCause output before after (Err OutputFault) = Rose before.files.faults after.files.faults
RestoreCause output before after (Err DepotFault) = IsAbsent before.files output × Rose before.depot.faults after.depot.faults
RestoreCause output before after (Err (Damaged want got)) = IsAbsent before.files output × (want ≢ got)
RestoreCause output before after (Err (Unlike text)) = IsAbsent before.files output
RestoreCause output before after (Err Memory) = Unit {0}

-- both counts of faults stand still
abbrev pub AreQuiet : Shelves → Shelves → Type 0
AreQuiet before after = (after.files.faults ≡ before.files.faults) × (after.depot.faults ≡ before.depot.faults)

-- a count of faults rises only where that shelf's fault is the answer
abbrev pub RestoreCounts : Shelves → Shelves → Result ℕ RestoreFault → Type 0
RestoreCounts before after (Ok count) = AreQuiet before after
RestoreCounts before after (Err OutputFault) = (before.files.faults ≤ after.files.faults) × (after.depot.faults ≡ before.depot.faults)
RestoreCounts before after (Err DepotFault) = (after.files.faults ≡ before.files.faults) × (before.depot.faults ≤ after.depot.faults)
RestoreCounts before after (Err fault) = AreQuiet before after

-- The files after a restore that did not answer: no object but the output changed, and nothing was erased or read. All
-- is as before; or making the output failed; or it was made, and holds these bytes.
pub data FilesLeft (output : List ℕ) (before after : ShelfView) : Type 0 where
  as_before : after ≡ record before { faults = after.faults } → FilesLeft output before after
  not_made : CreateLeaves before.held after.held output [] → after ≡ record before { held = after.held; faults = after.faults } → FilesLeft output before after
  holds : (bytes : List ℕ) → after ≡ record before { held = with_object before.held output bytes; wrote = after.wrote; faults = after.faults } → FilesLeft output before after

-- and after one that did: the output holds so many bytes
pub record HoldsOutput (output : List ℕ) (before after : ShelfView) (count : ℕ) : Type 0 where
  pub bytes : List ℕ
  pub held : after ≡ record before { held = with_object before.held output bytes; wrote = after.wrote }
  pub count_is : count ≡ counted (length bytes)

abbrev pub FilesAnswer : List ℕ → ShelfView → ShelfView → Result ℕ RestoreFault → Type 0
FilesAnswer output before after (Ok count) = HoldsOutput output before after count
FilesAnswer output before after (Err fault) = FilesLeft output before after
