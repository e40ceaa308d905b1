-- What a run leaves of the streams of its store.
use Rattle.std.proofs.Common.{◌≡◌, ◌⊎◌, ℕ, List, [], ◌∷◌, ◌++◌, reverse, map, Some, sym, ap, ◌∙◌, subst, inl}
use Rattle.std.proofs.lemmas.List.{reverse-append}
use Rattle.std.specs.List.{All}
use Rattle.ss_base.specs.Profile.{numbers_of}
use Rattle.journal_entry.specs.declared.entry.Entry.{Entry}
use Rattle.journal_entry.specs.Bounds.{IsEntry}
use Rattle.outside.specs.Shelf.{Objects, Given, bytes_of}
use Rattle.outside.specs.Views.{ShelfView, SinkView}
use Rattle.store_core.specs.View.{StateView, past_of, rules_of, made}
use Rattle.restore.specs.Copies.{Shelves}
use Rattle.history_calls.specs.Tokens.{IdleView}
use Rattle.session.specs.Backup.{HasRunAlone}
use Rattle.stored_streams.specs.Streams.{Streams}
use Rattle.stored_streams.specs.OfStreams.{IsOfStreams}
use Rattle.stored_streams.specs.Reads.{Reads, IsGiven}
use Rattle.stored_streams.specs.Reads.Reads.{recorded, held}
use Rattle.stored_streams.specs.Collision.{Collide}
use Rattle.stored_streams.proofs.StayLaws.{of_streams_stays}
use Rattle.backed_up_streams.specs.Loaded.{HasLoaded, ReadsMore}
use Rattle.backed_up_streams.specs.OfInput.{IsOfInput}
use Rattle.backed_up_streams.proofs.BackupLaws.{backup-has}
use Rattle.backed_up_streams.proofs.HeldBackupLaws.{backup-held}
use Rattle.backed_up_streams.proofs.RecordedLaws.{backup-recorded}
use Rattle.backed_up_streams.proofs.OfStreamsLaws.{loaded-of_streams}
use Rattle.job_script.specs.declared.job.JobKind.{JobKind}
use Rattle.job_script.specs.declared.job.JobKind.TheVariants.{Backup, Restore, Delete, Reclaim, Stat}
use Rattle.store_run.specs.JobRun.{HasDoneJob}
use Rattle.store_run.specs.Opening.{IsLegal}
use Rattle.run_streams.specs.RunStreams.{HasFile, HasInput, StoresNothing}
use Rattle.run_streams.proofs.KeepLaws.{keep_gave}
use Rattle.run_streams.proofs.OpenedLaws.{entries_read}
use Rattle.run_streams.proofs.PointLaws.{StoreNothing, restore_stores_nothing, delete_stores_nothing, stat_stores_nothing, reclaim_stores_nothing, entries_store_nothing}

module _ (kind : JobKind) (streams : Streams) (before after : Shelves) (sink sink' : SinkView) (status : ℕ) (done : HasDoneJob kind before after sink sink' status) where
  abbrev pub IsOfStreamsNow : Type 0
  IsOfStreamsNow = IsOfStreams (numbers_of done.store.profile) streams (past_of done.new)

  abbrev pub IsOfStreamsThen : Type 0
  IsOfStreamsThen = IsOfStreams (numbers_of done.store.profile) streams (past_of done.store)

  -- they are still, or there is a collision among what was hashed, and these reads can have given
  abbrev pub KeepsStreams : Reads → Type 0
  KeepsStreams reads = IsOfStreamsNow ⊎ Collide (numbers_of done.store.profile) streams (past_of done.new) (IsGiven (reads ∷ []) (past_of done.new))

  past_is : past_of done.new ≡ reverse (map (made done.author) done.points) ++ past_of done.store
  past_is = ap past_of done.added ∙ reverse-append done.store.entries (map (made done.author) done.points)

  -- a job that stores nothing
  still : StoreNothing done.points → IsOfStreamsThen → IsOfStreamsNow
  still nothing was =
      let newer = reverse (map (made done.author) done.points) in
      subst (λ (past : List Entry). IsOfStreams (numbers_of done.store.profile) streams past) (sym past_is)
      (of_streams_stays (numbers_of done.store.profile) streams newer (past_of done.store) (entries_store_nothing done.author done.points nothing) was)

-- ---- a backup

module _ (input name : List ℕ) (streams : Streams) (before after : Shelves) (sink sink' : SinkView) (status : ℕ) (done : HasDoneJob (Backup input name) before after sink sink' status) (file : HasFile input streams before.files (past_of done.store) (past_of done.new)) (was : IsOfStreamsThen (Backup input name) streams before after sink sink' status done) where
  pub run : HasRunAlone 8 8 done.author done.opened.files done.done.files input name done.store done.new done.opened.depot done.done.depot [] done.cache done.job.result
  run = done.job.done

  abbrev pub idle : IdleView
  idle = record { author = done.author; seen = done.store }

  pub files_told : done.opened.files.held ≡ Some file.objects
  files_told = ap (λ (files : ShelfView). files.held) done.files_same ∙ file.told

  pub of_input : IsOfInput streams (past_of done.store) (past_of run.after.seen) (bytes_of file.objects input)
  of_input = subst (λ (view : StateView). IsOfInput streams (past_of done.store) (past_of view) (bytes_of file.objects input)) (sym run.after_is) file.of_input

  pub entries_seen : All IsEntry (past_of run.after.seen)
  entries_seen = subst (λ (view : StateView). All IsEntry (past_of view)) (sym run.after_is) (entries_read (Backup input name) before after sink sink' status done)

  -- from what it loaded
  by_loads : (reads : Reads) → HasLoaded (numbers_of done.store.profile) streams (reads ∷ []) (past_of done.store) (past_of run.after.seen) → KeepsStreams (Backup input name) streams before after sink sink' status done reads
  by_loads reads loaded =
      let n = numbers_of done.store.profile in
      let seen = run.after.seen in
      let contents = backup-has 8 8 done.opened.files input name idle streams file.objects files_told done.opened.depot [] run.after done.done.depot done.cache done.job.result run.answer of_input was.contents in
      subst (λ (view : StateView). IsOfStreams n streams (past_of view) ⊎ Collide n streams (past_of view) (IsGiven (reads ∷ []) (past_of view))) run.after_is
      (loaded-of_streams done.store.profile streams (rules_of 8 8 seen) (reads ∷ []) (past_of done.store) (past_of seen) (subst IsLegal (sym run.after_is) done.legal) entries_seen was contents loaded)

  pub backed_up : (objects : Objects) → before.depot.held ≡ Some objects → KeepsStreams (Backup input name) streams before after sink sink' status done (held objects)
  backed_up objects told =
      by_loads (held objects)
      (backup-held 8 8 done.opened.files input name idle streams file.objects files_told done.opened.depot objects (done.opens.only_reads.held ∙ told) run.after done.done.depot done.cache done.job.result run.answer of_input entries_seen)

  -- whatever the depot tells, by the reads that the job made
  pub keeps_recorded : (reads : List Given) × ReadsMore done.opened.depot after.depot reads × KeepsStreams (Backup input name) streams before after sink sink' status done (recorded reads)
  keeps_recorded =
      let loaded = backup-recorded 8 8 done.opened.files input name idle streams file.objects files_told done.opened.depot run.after done.done.depot done.cache done.job.result run.answer of_input in (
        loaded.reads,
        keep_gave done.done.depot after.depot (map (made done.author) done.points) done.ending.kept done.ending.keeps ∙ loaded.more,
        by_loads (recorded loaded.reads) loaded.loaded,
      )

-- ---- any job

-- the others store nothing
pub others_keep : (kind : JobKind) (streams : Streams) (before after : Shelves) (sink sink' : SinkView) (status : ℕ) (done : HasDoneJob kind before after sink sink' status)
    → StoresNothing kind → IsOfStreamsThen kind streams before after sink sink' status done → IsOfStreamsNow kind streams before after sink sink' status done
others_keep (Backup input name) streams before after sink sink' status done nothing was = absurd nothing
others_keep (Restore name output) streams before after sink sink' status done nothing was =
    still (Restore name output) streams before after sink sink' status done (restore_stores_nothing name done.calls.result done.points done.calls.points_are) was
others_keep (Delete name) streams before after sink sink' status done nothing was =
    still (Delete name) streams before after sink sink' status done (delete_stores_nothing name done.answer done.points done.calls) was
others_keep Reclaim streams before after sink sink' status done nothing was =
    still Reclaim streams before after sink sink' status done (reclaim_stores_nothing done.answer done.points done.calls) was
others_keep Stat streams before after sink sink' status done nothing was =
    still Stat streams before after sink sink' status done (stat_stores_nothing done.answer done.points done.calls) was

pub keeps_held : (kind : JobKind) (streams : Streams) (objects : Objects) (before after : Shelves) (sink sink' : SinkView) (status : ℕ) (done : HasDoneJob kind before after sink sink' status)
    → before.depot.held ≡ Some objects → HasInput kind streams before.files (past_of done.store) (past_of done.new)
    → IsOfStreamsThen kind streams before after sink sink' status done → KeepsStreams kind streams before after sink sink' status done (held objects)
keeps_held (Backup input name) streams objects before after sink sink' status done told input_is was =
    backed_up input name streams before after sink sink' status done input_is was objects told
keeps_held (Restore name output) streams objects before after sink sink' status done told input_is was = inl (others_keep (Restore name output) streams before after sink sink' status done tt was)
keeps_held (Delete name) streams objects before after sink sink' status done told input_is was = inl (others_keep (Delete name) streams before after sink sink' status done tt was)
keeps_held Reclaim streams objects before after sink sink' status done told input_is was = inl (others_keep Reclaim streams before after sink sink' status done tt was)
keeps_held Stat streams objects before after sink sink' status done told input_is was = inl (others_keep Stat streams before after sink sink' status done tt was)
