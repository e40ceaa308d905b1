-- How a session is given up in one of its segments (this project's own).
use Rattle.std.specs.Prelude.{ℕ, ◌≡◌, List}
use Rattle.manifest_codec.specs.declared.manifest.Manifest.{Manifest}
use Rattle.segment_plan.specs.Planned.{located}
use Rattle.journal_entry.specs.declared.entry.Entry.{Entry}
use Rattle.store_core.specs.declared.fault.PointFault.{PointFault}
use Rattle.store_core.specs.declared.values.Choice.{Choice}
use Rattle.store_core.specs.declared.values.Stored.{Stored}
use Rattle.outside.specs.Views.{ShelfView}
use Rattle.outside.specs.declared.trouble.Trouble.{Trouble}
use Rattle.depot.specs.declared.fault.LoadFault.{LoadFault}
use Rattle.depot.specs.declared.fault.BackupFault.{BackupFault}
use Rattle.depot.specs.declared.fault.BackupFault.TheVariants.{Memory}
use Rattle.depot.specs.Tokens.{WrittenView}
use Rattle.history_calls.specs.Tokens.{IdleView, OpenView, ChosenView}
use Rattle.history_calls.specs.SessionSteps.{HasChosen, HasNotChosen, HasNotCommitted, HasAborted, HasAbortedChosen}
use Rattle.manifest_cache.specs.Cached.{held}
use Rattle.segment_store.specs.Loads.{Entries, AreLoaded, HasCached, IsStopped}
use Rattle.segment_store.specs.Storing.{NotStored}
use Rattle.session.specs.Causes.{of_point, of_load, of_depot}
use Rattle.session.specs.Stores.{Progress, Reached, hooks_for, room_for, stored_part, loaded_for, IsStoredFor}

-- A segment was not stored for its choice: nothing was tried, since its numbers would pass those of an entry; a load
-- failed; or storing it did.
pub data NotStoredFor (chunks : List (List ℕ)) (choice : Choice) (room : ℕ) (before after : Progress) (fault : BackupFault) : Type 0 where
  not_tried : fault ≡ Memory → after ≡ before → NotStoredFor chunks choice room before after fault
  not_loaded : (cause : LoadFault) → fault ≡ of_load cause → after ≡ record before { shelf = after.shelf; cache = after.cache }
      → IsStopped before.cache after.cache before.shelf after.shelf choice.champions.items cause → NotStoredFor chunks choice room before after fault
  not_stored : (manifests : List Manifest) (trouble : Trouble) → fault ≡ of_depot trouble → AreLoaded (held before.cache) before.shelf choice.champions.items manifests
      → HasCached before.cache after.cache choice.champions.items manifests
      → NotStored choice.manifest chunks (located manifests) room (loaded_for choice manifests before) (stored_part after) trouble
      → NotStoredFor chunks choice room before after fault

-- The session was given up with a choice pending, with the containers and texts that it has come to: its segment was
-- not stored, or was stored and not committed.
pub data HasGivenUpChosen (others : List Entry → Type 0) (standings champions : ℕ) (chunks : List (List ℕ)) (room : ℕ) (chosen : ChosenView) (before : Progress) (after : IdleView) (shelf : ShelfView) (cache : Entries) (fault : BackupFault) : Type 0 where
  unstored : (last : Progress) → (shelf ≡ last.shelf) × (cache ≡ last.cache) → NotStoredFor chunks chosen.choice room before last fault
      → HasAbortedChosen others standings champions chosen last.end.containers last.texts after
      → HasGivenUpChosen others standings champions chunks room chosen before after shelf cache fault
  uncommitted : (last : Progress) (stored : Stored) (written : WrittenView) (back : ChosenView) (cause : PointFault) → (shelf ≡ last.shelf) × (cache ≡ last.cache) → fault ≡ of_point cause
      → IsStoredFor chunks chosen.choice room before last stored written
      → HasNotCommitted others standings champions chosen stored back cause
      → HasAbortedChosen others standings champions back last.end.containers last.texts after
      → HasGivenUpChosen others standings champions chunks room chosen before after shelf cache fault

-- The session was given up in a segment with these chunks: its hooks wanted memory, it was not chosen for, or it was
-- given up behind the choice.
pub data HasGivenUp (others : List Entry → Type 0) (standings champions : ℕ) (chunks : List (List ℕ)) (before : Reached) (after : IdleView) (shelf : ShelfView) (cache : Entries) (fault : BackupFault) : Type 0 where
  unsampled : fault ≡ Memory → (shelf ≡ before.progress.shelf) × (cache ≡ before.progress.cache)
      → HasAborted others standings champions before.caller before.progress.end.containers before.progress.texts after
      → HasGivenUp others standings champions chunks before after shelf cache fault
  unchosen : (back : OpenView) (cause : PointFault) → fault ≡ of_point cause → (shelf ≡ before.progress.shelf) × (cache ≡ before.progress.cache)
      → HasNotChosen others standings champions before.caller (hooks_for before.caller chunks) back cause
      → HasAborted others standings champions back before.progress.end.containers before.progress.texts after
      → HasGivenUp others standings champions chunks before after shelf cache fault
  behind : (chosen : ChosenView) → HasChosen others standings champions before.caller (hooks_for before.caller chunks) chosen
      → HasGivenUpChosen others standings champions chunks (room_for before.caller) chosen before.progress after shelf cache fault
      → HasGivenUp others standings champions chunks before after shelf cache fault
