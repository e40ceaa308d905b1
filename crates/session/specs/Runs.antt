-- A session from its begin to its end (this project's own).
use Rattle.std.specs.Prelude.{ℕ, ◌≡◌, ◌-◌, List, [], ◌∷◌, ◌++◌}
use Rattle.ss_base.specs.declared.profile.Numbers.{Numbers}
use Rattle.ss_base.specs.Profile.{numbers_of}
use Rattle.journal_entry.specs.declared.entry.Entry.{Entry}
use Rattle.outside.specs.Views.{ShelfView, SourceView}
use Rattle.segment_reader.specs.declared.fault.NextFault.{NextFault}
use Rattle.segment_reader.specs.Cause.{EndsFor}
use Rattle.segment_reader.specs.WorkState.{WorkState}
use Rattle.depot.specs.declared.fault.BackupFault.{BackupFault}
use Rattle.depot.specs.declared.fault.BackupFault.TheVariants.{Memory}
use Rattle.history_calls.specs.Tokens.{IdleView, OpenView}
use Rattle.history_calls.specs.SessionSteps.{HasFinished, HasAborted}
use Rattle.segment_store.specs.Loads.{Entries}
use Rattle.session.specs.Causes.{of_next}
use Rattle.session.specs.Stores.{Reached, at_start, HasStoredAll}
use Rattle.session.specs.Stops.{HasGivenUp}
use Rattle.session.specs.Split.{most_bytes, HasSplit, HasGivenAll}

-- the numbers of a caller's store
abbrev pub numbers_for : OpenView → Numbers
numbers_for caller = numbers_of caller.seen.profile

-- What the source gave was stored, segment by segment, up to here.
pub record HasCome (others : List Entry → Type 0) (standings champions : ℕ) (n : Numbers) (start : Reached) (source source' : SourceView) (work : WorkState) (segments : List (List (List ℕ))) (last : Reached) : Type 0 where
  pub split : HasSplit n source source' work segments
  pub stored : HasStoredAll others standings champions segments start last

-- The whole stream was stored, from one place of the session to the other.
pub record HasStoredStream (others : List Entry → Type 0) (standings champions : ℕ) (n : Numbers) (start : Reached) (source source' : SourceView) (last : Reached) : Type 0 where
  pub segments : List (List (List ℕ))
  pub given : HasGivenAll n source source' segments
  pub stored : HasStoredAll others standings champions segments start last

-- The session was given up: in the reading of the next segment, or in that segment.
pub data HasStoppedStream (others : List Entry → Type 0) (standings champions : ℕ) (n : Numbers) (start : Reached) (source source' : SourceView) (after : IdleView) (shelf : ShelfView) (cache : Entries) (fault : BackupFault) : Type 0 where
  reading : (segments : List (List (List ℕ))) (before : SourceView) (work : WorkState) (last : Reached) (cause : NextFault)
      → fault ≡ of_next cause → (shelf ≡ last.progress.shelf) × (cache ≡ last.progress.cache)
      → HasCome others standings champions n start source before work segments last
      → EndsFor cause n (most_bytes - work.taken) work.bytes before source'
      → HasAborted others standings champions last.caller last.progress.end.containers last.progress.texts after
      → HasStoppedStream others standings champions n start source source' after shelf cache fault
  storing : (segments : List (List (List ℕ))) (chunks : List (List ℕ)) (work : WorkState) (last : Reached)
      → HasSplit n source source' work (segments ++ chunks ∷ [])
      → HasStoredAll others standings champions segments start last
      → HasGivenUp others standings champions chunks last after shelf cache fault
      → HasStoppedStream others standings champions n start source source' after shelf cache fault

-- A session stored a whole stream over a depot's shelf, and finished.
pub record HasFinishedStream (others : List Entry → Type 0) (standings champions : ℕ) (caller : OpenView) (source source' : SourceView) (shelf : ShelfView) (cache : Entries) (after : IdleView) (shelf' : ShelfView) (cache' : Entries) : Type 0 where
  pub last : Reached
  pub stored : HasStoredStream others standings champions (numbers_for caller) (at_start caller shelf cache) source source' last
  pub shelf_is : shelf' ≡ last.progress.shelf
  pub cache_is : cache' ≡ last.progress.cache
  pub finished : HasFinished others standings champions last.caller last.progress.end.containers after

-- A session was given up before anything was read, or later.
pub data HasFailedStream (others : List Entry → Type 0) (standings champions : ℕ) (caller : OpenView) (source source' : SourceView) (shelf : ShelfView) (cache : Entries) (after : IdleView) (shelf' : ShelfView) (cache' : Entries) (fault : BackupFault) : Type 0 where
  unread : fault ≡ Memory → source' ≡ source → (shelf' ≡ shelf) × (cache' ≡ cache) → HasAborted others standings champions caller 0 0 after
      → HasFailedStream others standings champions caller source source' shelf cache after shelf' cache' fault
  stopped : HasStoppedStream others standings champions (numbers_for caller) (at_start caller shelf cache) source source' after shelf' cache' fault
      → HasFailedStream others standings champions caller source source' shelf cache after shelf' cache' fault

-- The same, however the source stands behind it.
pub record HasStreamed (others : List Entry → Type 0) (standings champions : ℕ) (caller : OpenView) (source : SourceView) (shelf : ShelfView) (cache : Entries) (after : IdleView) (shelf' : ShelfView) (cache' : Entries) : Type 0 where
  pub last : SourceView
  pub finished : HasFinishedStream others standings champions caller source last shelf cache after shelf' cache'

pub record HasNotStreamed (others : List Entry → Type 0) (standings champions : ℕ) (caller : OpenView) (source : SourceView) (shelf : ShelfView) (cache : Entries) (after : IdleView) (shelf' : ShelfView) (cache' : Entries) (fault : BackupFault) : Type 0 where
  pub last : SourceView
  pub failed : HasFailedStream others standings champions caller source last shelf cache after shelf' cache' fault
