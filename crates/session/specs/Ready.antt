-- What a session's own calls rely on (this project's own).
use Rattle.std.specs.Prelude.{ℕ, ◌≡◌, ◌≤◌, ◌+◌, ◌*◌, List, None}
use Rattle.manifest_codec.specs.declared.manifest.Manifest.{Manifest}
use Rattle.container_file.specs.declared.container_end.ContainerEnd.{ContainerEnd}
use Rattle.segment_plan.specs.Planned.{located}
use Rattle.store_core.specs.declared.values.Choice.{Choice}
use Rattle.store_core.specs.declared.values.Stored.{Stored}
use Rattle.store_core.specs.View.{past_of}
use Rattle.outside.specs.Views.{ShelfView}
use Rattle.depot.specs.Tokens.{WrittenView}
use Rattle.history_calls.specs.Tokens.{OpenView, ChosenView}
use Rattle.history_calls.specs.OpenAt.{IsOpenAt, IsPendingSo}
use Rattle.segment_store.specs.Loads.{Entries, Holding, AreLoaded}
use Rattle.segment_store.specs.Stored.{CanBeCommitted}
use Rattle.session.specs.Stores.{Progress, Reached, no_end}
use Rattle.session.specs.declared.storing.Extent.{Extent}

-- what is stored, with this extent, over a depot's shelf and with this cache
abbrev pub progress_of : ShelfView → Extent → Entries → Progress
progress_of shelf extent cache = record { shelf = shelf; end = extent.end; texts = extent.texts; cache = cache }

-- that of a session with nothing stored
abbrev pub no_extent : ℕ → Extent
no_extent session = record { end = no_end session; texts = 0 }

abbrev pub reached : OpenView → ShelfView → Extent → Entries → Reached
reached caller shelf extent cache = record { caller = caller; progress = progress_of shelf extent cache }

-- the session is unfinished and has no pending choice, as many commits as texts, and no container past its end
pub record IsReady (caller : OpenView) (extent : Extent) : Type 0 where
  pub session : extent.end.session ≡ caller.session
  pub at : IsOpenAt caller.author caller.session None extent.texts extent.end.containers (past_of caller.seen)

-- the same, with a choice pending
pub record IsWaiting (chosen : ChosenView) (extent : Extent) : Type 0 where
  pub session : extent.end.session ≡ chosen.session
  pub at : IsPendingSo chosen.author chosen.session extent.texts extent.end.containers chosen.choice chosen.seen

-- A commit may follow: the champions' manifests were held or loaded, what was stored against them can be committed, and the
-- choice's manifest was written with its text, behind puts of at least the fresh chunks' records.
pub record CanCommitFor (choice : Choice) (shelf : ShelfView) (end : ContainerEnd) (stored : Stored) (written : WrittenView) : Type 0 where
  pub holds : Holding
  pub manifests : List Manifest
  pub loaded : AreLoaded holds shelf choice.champions.items manifests
  pub can : CanBeCommitted (located manifests) end stored
  pub id : written.id ≡ choice.manifest
  pub text : written.text ≡ stored.text
  pub least : 36 * stored.fresh + stored.fresh_bytes ≤ written.sum
