-- What a backup loaded for its commits, and stored against it (this project's own).
use Rattle.std.specs.Prelude.{◌≡◌, List, ◌++◌, option_map}
use Rattle.ss_base.specs.declared.profile.Numbers.{Numbers}
use Rattle.outside.specs.Shelf.{Given}
use Rattle.outside.specs.Views.{ShelfView}
use Rattle.journal_entry.specs.declared.entry.Entry.{Entry}
use Rattle.stored_streams.specs.Streams.{Streams}
use Rattle.stored_streams.specs.Loads.{Loads, StoresLoaded}
use Rattle.stored_streams.specs.Reads.{Reads, IsGiven}

-- each newer entry stores what it says against manifests that were loaded, which these reads gave
pub record HasLoaded (n : Numbers) (streams : Streams) (reads : List Reads) (older past : List Entry) : Type 0 where
  pub newer : List Entry
  pub past_is : past ≡ newer ++ older
  pub loads : Loads
  pub stores : StoresLoaded n streams loads (IsGiven reads past) newer older

-- the reads that a depot tells behind those before
abbrev pub ReadsMore : ShelfView → ShelfView → List Given → Type 0
ReadsMore depot depot' reads = depot'.gave ≡ option_map (λ gave. gave ++ reads) depot.gave
