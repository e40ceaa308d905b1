-- Which entries a backup adds, by its answer.
use Rattle.std.proofs.Common.{◌≡◌, ℕ, List, [], ◌++◌, map, Result}
use Rattle.ss_base.specs.Profile.{numbers_of}
use Rattle.journal_entry.specs.declared.entry.Entry.{Entry}
use Rattle.journal_entry.specs.declared.entry.Point.{Point}
use Rattle.store_core.specs.View.{made}
use Rattle.outside.specs.Views.{ShelfView}
use Rattle.depot.specs.declared.fault.BackupFault.{BackupFault}
use Rattle.history_calls.specs.Tokens.{IdleView}
use Rattle.segment_store.specs.Loads.{Entries}
use Rattle.session.specs.Backup.{input_view, BackupAnswer}
use Rattle.job_entries.specs.Interleaved.{AddsPoints}
use Rattle.job_entries.specs.BackupPoints.{BackupPoints}
use Rattle.job_entries.proofs.AddsLaws.{behind_alone}
use Rattle.job_entries.proofs.BackupLaws.{backup-stores}
use Rattle.job_entries.proofs.PointLaws.{points-of}

pub backup-adds : (others : List Entry → Type 0) (standings champions : ℕ) (files : ShelfView) (input name : List ℕ) (before : IdleView) (depot : ShelfView) (cache : Entries) (after : IdleView) (depot' : ShelfView) (cache' : Entries) (result : Result ℕ BackupFault)
    → BackupAnswer others standings champions files input name before depot cache after depot' cache' result
    → (points : List Point) × (after.author ≡ before.author) × AddsPoints others before.author before.seen after.seen points × BackupPoints name result points
backup-adds others standings champions files input name before depot cache after depot' cache' result answer =
    let stores = backup-stores others standings champions files input name before depot cache after depot' cache' result answer in
    let added = points-of others before.author (numbers_of before.seen.profile) (input_view files input) name before.seen after.seen result stores.1 in
    (added.0, stores.0, added.1, added.2)

nothing_came : (came : List Entry) → came ≡ [] → came ≡ []
nothing_came came none = none

pub backup_alone-adds : (standings champions : ℕ) (files : ShelfView) (input name : List ℕ) (before : IdleView) (depot : ShelfView) (cache : Entries) (after : IdleView) (depot' : ShelfView) (cache' : Entries) (result : Result ℕ BackupFault)
    → BackupAnswer (λ came. came ≡ []) standings champions files input name before depot cache after depot' cache' result
    → (points : List Point) × (after.seen ≡ record before.seen { entries = before.seen.entries ++ map (made before.author) points }) × BackupPoints name result points
backup_alone-adds standings champions files input name before depot cache after depot' cache' result answer =
    let adds = backup-adds (λ came. came ≡ []) standings champions files input name before depot cache after depot' cache' result answer in
    (adds.0, behind_alone (λ came. came ≡ []) before.author nothing_came before.seen after.seen adds.0 adds.2, adds.3)
