-- What a session stores of its segments (this project's own).
use Rattle.std.specs.Prelude.{ℕ, ◌≡◌, List, [], ◌∷◌}
use Rattle.ss_base.specs.declared.name.Name.{Name}
use Rattle.ss_base.specs.Profile.{numbers_of}
use Rattle.chunk_name.specs.Pieces.{pieces}
use Rattle.hook_sampler.specs.Hooks.{hooks}
use Rattle.manifest_codec.specs.declared.manifest.Manifest.{Manifest}
use Rattle.container_file.specs.declared.container_end.ContainerEnd.{ContainerEnd}
use Rattle.segment_plan.specs.Planned.{located}
use Rattle.journal_entry.specs.declared.entry.Entry.{Entry}
use Rattle.store_core.specs.declared.values.Choice.{Choice}
use Rattle.store_core.specs.declared.values.Stored.{Stored}
use Rattle.outside.specs.Views.{ShelfView}
use Rattle.depot.specs.Tokens.{WrittenView}
use Rattle.history_calls.specs.Tokens.{OpenView, ChosenView}
use Rattle.history_calls.specs.SessionSteps.{HasChosen, HasCommitted}
use Rattle.manifest_cache.specs.Cached.{held}
use Rattle.segment_store.specs.Loads.{Entries, after_loads, AreLoaded, HasCached}
use Rattle.segment_store.specs.Storing.{Progress as StoreProgress, IsStored}

-- How far a session has stored: what is observed of the depot's shelf, how far its containers go, how many of its
-- manifests were written or tried, and the entries of its cache.
pub record Progress : Type 0 where
  pub shelf : ShelfView
  pub end : ContainerEnd
  pub texts : ℕ
  pub cache : Entries

-- the same without the cache
abbrev pub stored_part : Progress → StoreProgress
stored_part progress = record { shelf = progress.shelf; end = progress.end; texts = progress.texts }

-- How far a session has come: its caller, with what it has seen of the history, and what is stored.
pub record Reached : Type 0 where
  pub caller : OpenView
  pub progress : Progress

-- a session that has stored nothing, over a depot's shelf and with this cache
abbrev pub no_end : ℕ → ContainerEnd
no_end session = record { session = session; containers = 0; used = 0 }

abbrev pub at_start : OpenView → ShelfView → Entries → Reached
at_start caller shelf cache = record { caller = caller; progress = record { shelf = shelf; end = no_end caller.session; texts = 0; cache = cache } }

-- the hooks of a segment with these chunks, and how full a container may be, by the profile
abbrev pub hooks_for : OpenView → List (List ℕ) → List Name
hooks_for caller chunks = hooks (numbers_of caller.seen.profile).bits (pieces chunks)

abbrev pub room_for : OpenView → ℕ
room_for caller = (numbers_of caller.seen.profile).room

-- once the manifests of a choice's champions are there
abbrev pub loaded_for : Choice → List Manifest → Progress → StoreProgress
loaded_for choice manifests before = record {
  shelf = after_loads (held before.cache) before.shelf choice.champions.items manifests;
  end = before.end;
  texts = before.texts;
}

-- A segment with these chunks was stored for its choice: the champions' manifests were held or loaded, and it was
-- planned against them.
pub record IsStoredFor (chunks : List (List ℕ)) (choice : Choice) (room : ℕ) (before after : Progress) (stored : Stored) (written : WrittenView) : Type 0 where
  pub manifests : List Manifest
  pub loaded : AreLoaded (held before.cache) before.shelf choice.champions.items manifests
  pub caches : HasCached before.cache after.cache choice.champions.items manifests
  pub stored_is : IsStored choice.manifest chunks (located manifests) room (loaded_for choice manifests before) (stored_part after) stored written

-- Behind its choice a segment was stored and then committed.
pub record HasStoredChosen (others : List Entry → Type 0) (standings champions : ℕ) (chunks : List (List ℕ)) (room : ℕ) (chosen : ChosenView) (before : Progress) (after : Reached) : Type 0 where
  pub stored : Stored
  pub written : WrittenView
  pub stores : IsStoredFor chunks chosen.choice room before after.progress stored written
  pub commits : HasCommitted others standings champions chosen stored after.caller

-- One segment of the session: it was chosen for by its hooks, stored, and committed.
pub record HasStored (others : List Entry → Type 0) (standings champions : ℕ) (chunks : List (List ℕ)) (before after : Reached) : Type 0 where
  pub chosen : ChosenView
  pub chooses : HasChosen others standings champions before.caller (hooks_for before.caller chunks) chosen
  pub behind : HasStoredChosen others standings champions chunks (room_for before.caller) chosen before.progress after

-- some segments, one behind another
abbrev pub HasStoredAll : (List Entry → Type 0) → ℕ → ℕ → List (List (List ℕ)) → Reached → Reached → Type 0
HasStoredAll others standings champions [] before after = after ≡ before
HasStoredAll others standings champions (chunks ∷ segments) before after =
    (next : Reached) × HasStored others standings champions chunks before next × HasStoredAll others standings champions segments next after
