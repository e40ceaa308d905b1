-- A restore that answered, as a run of its command.
use Rattle.std.proofs.Common.{◌≡◌, ℕ, List, [], ◌∷◌, map, Option, Some, refl, sym, ap, ◌∙◌, subst, ◌⊎◌, inl, inr, arith}
use Rattle.std.specs.Prelude.{Result, Ok, Err}
use Rattle.ss_base.specs.declared.profile.Numbers.{Numbers}
use Rattle.ss_base.specs.Profile.{numbers_of}
use Rattle.ss_base.proofs.SoundLaws.{AreSound-numbers_of}
use Rattle.outside.specs.Shelf.{Objects, Given}
use Rattle.outside.specs.Views.{ShelfView, SinkView}
use Rattle.journal_entry.specs.declared.entry.Entry.{Entry}
use Rattle.store_core.specs.View.{StateView, past_of, rules_of, made}
use Rattle.depot.specs.declared.fault.RestoreFault.{RestoreFault}
use Rattle.restore.specs.Copies.{Shelves}
use Rattle.restore.specs.Restores.{StateCalls, RestoreAnswer}
use Rattle.stored_streams.specs.Streams.{Streams}
use Rattle.stored_streams.specs.OfStreams.{IsOfStreams}
use Rattle.stored_streams.specs.Reads.{Reads, IsGiven}
use Rattle.stored_streams.specs.Reads.Reads.{recorded}
use Rattle.stored_streams.specs.Collision.{Collide}
use Rattle.stored_streams.specs.Whole.{IsWhole}
use Rattle.restored_streams.specs.Restored.{AreRecorded, Tells, HasRestored, LeavesFront, TellsNoDamage, ChunksCollide}
use Rattle.restored_streams.proofs.StreamLaws.{IsKnown}
use Rattle.restored_streams.proofs.CallLaws.{answered_stream, answered_whole, answered_front, answered_undamaged, answered_front_whole}
use Rattle.stored_streams.proofs.ToldLaws.{with_more}
use Rattle.restored_streams.proofs.GaveLaws.{answer_gave}
use Rattle.backed_up_streams.specs.Loaded.{ReadsMore}
use Rattle.job_script.specs.declared.job.JobKind.TheVariants.{Restore}
use Rattle.report.specs.declared.answer.JobAnswer.{JobAnswer}
use Rattle.report.specs.declared.answer.JobAnswer.TheVariants as job
use Rattle.job_run.specs.Jobs.{answer_of}
use Rattle.report.specs.Status.{answer_status}
use Rattle.store_run.specs.JobRun.{Kept, Printed, run_status, HasDoneJob}
use Rattle.run_streams.proofs.StatusLaws.{refused_is_told}
use Rattle.run_streams.proofs.KeepLaws.{keep_gave}
use Rattle.run_streams.proofs.OpenedLaws.{store_entries, read_store, opened_gave}

-- where the run's status is 0 the restore answered, and it is known what its answer says
by_result : (C : ShelfView → ShelfView → Type 0) (store new : StateView) (author : ℕ) (name output : List ℕ) (old now : Shelves) (answer : JobAnswer) (result : Result ℕ RestoreFault) (kept : Kept) (printed : Printed)
    → 0 ≡ run_status (answer_status answer) kept printed → answer ≡ answer_of job.Restore result → RestoreAnswer (StateCalls store author name new) output old now result
    → ((count : ℕ) → RestoreAnswer (StateCalls store author name new) output old now (Ok count) → C old.files now.files) → C old.files now.files
by_result C store new author name output old now answer (Ok count) kept printed zero is answered says = says count answered
by_result C store new author name output old now answer (Err fault) kept printed zero is answered says =
    absurd (refused_is_told fault kept printed (ap (λ (a : JobAnswer). run_status (answer_status a) kept printed) (sym is) ∙ sym zero))

module _ (streams : Streams) (name output : List ℕ) (before after : Shelves) (sink sink' : SinkView) (status : ℕ) (done : HasDoneJob (Restore name output) before after sink sink' status) (of_streams : IsOfStreams (numbers_of done.store.profile) streams (past_of done.store)) where
  abbrev n : Numbers
  n = numbers_of done.store.profile

  abbrev past : List Entry
  past = past_of done.store

  abbrev Restored : ShelfView → ShelfView → Type 0
  Restored files files' = (count : ℕ) × HasRestored streams past name output files files' count

  known : IsKnown n streams (rules_of 8 8 done.store) past
  known =
      let (bytes, is) = read_store before.depot done.opened.depot done.store done.opens in
      record { sound = AreSound-numbers_of done.store.profile; legal = is.legal; entries = store_entries bytes done.store is; of_streams = of_streams }

  pub opened_told : (objects : Objects) → before.depot.held ≡ Some objects → done.opened.depot.held ≡ Some objects
  opened_told objects told = done.opens.only_reads.held ∙ told

  by_answer : 0 ≡ status → (C : ShelfView → ShelfView → Type 0) → ((count : ℕ) → RestoreAnswer (StateCalls done.store done.author name done.new) output done.opened done.done (Ok count) → C done.opened.files done.done.files) → C before.files after.files
  by_answer zero C says =
      subst (λ files'. C before.files files') (sym done.files_kept)
      (subst (λ files. C files done.done.files) done.files_same
      (by_result C done.store done.new done.author name output done.opened done.done done.answer done.job.result done.ending.kept done.ending.printed (zero ∙ done.ending.status_is) done.job.answer_is done.job.done says))

  -- by what the handle tells of the job's reads
  pub given_back : 0 ≡ status → (reads : Reads) → Tells done.opened.depot done.done.depot reads → Restored before.files after.files ⊎ Collide n streams past (IsGiven (reads ∷ []) past)
  given_back zero reads tells =
      by_answer zero (λ files files'. Restored files files' ⊎ Collide n streams past (IsGiven (reads ∷ []) past))
      (λ count answered. elim (answered_stream n streams (rules_of 8 8 done.store) (reads ∷ []) reads done.store done.new done.author count name output done.opened done.done known answered (0, omega arith, refl) tells) [
        | inl restored ↦ inl (count, restored)
        | inr collided ↦ inr collided
      ])

  -- from whole objects
  pub whole_given_back : 0 ≡ status → (objects : Objects) → before.depot.held ≡ Some objects → IsWhole n streams past objects → Restored before.files after.files ⊎ ChunksCollide n streams past
  whole_given_back zero objects told whole =
      by_answer zero (λ files files'. Restored files files' ⊎ ChunksCollide n streams past)
      (λ count answered. elim (answered_whole n streams (rules_of 8 8 done.store) objects done.store done.new done.author count name output done.opened done.done known whole answered (opened_told objects told)) [
        | inl restored ↦ inl (count, restored)
        | inr collided ↦ inr collided
      ])

  -- a restore that did not answer
  module _ (fault : RestoreFault) (failed : done.job.result ≡ Err fault) where
    failed_so : RestoreAnswer (StateCalls done.store done.author name done.new) output done.opened done.done (Err fault)
    failed_so = subst (λ (r : Result ℕ RestoreFault). RestoreAnswer (StateCalls done.store done.author name done.new) output done.opened done.done r) failed done.job.done

    by_files : (C : ShelfView → ShelfView → Type 0) → C done.opened.files done.done.files → C before.files after.files
    by_files C is = subst (λ files'. C before.files files') (sym done.files_kept) (subst (λ files. C files done.done.files) done.files_same is)

    pub front_left : (reads : Reads) → Tells done.opened.depot done.done.depot reads → LeavesFront streams past name output before.files after.files ⊎ Collide n streams past (IsGiven (reads ∷ []) past)
    front_left reads tells =
        by_files (λ files files'. LeavesFront streams past name output files files' ⊎ Collide n streams past (IsGiven (reads ∷ []) past))
        (answered_front n streams (rules_of 8 8 done.store) (reads ∷ []) reads done.store done.new done.author name output done.opened done.done fault known failed_so (0, omega arith, refl) tells)

    pub whole_front_left : (objects : Objects) → before.depot.held ≡ Some objects → IsWhole n streams past objects → TellsNoDamage fault × (LeavesFront streams past name output before.files after.files ⊎ ChunksCollide n streams past)
    whole_front_left objects told whole = (
      answered_undamaged n streams (rules_of 8 8 done.store) objects done.store done.new done.author name output done.opened done.done fault known whole failed_so (opened_told objects told),
      by_files (λ files files'. LeavesFront streams past name output files files' ⊎ ChunksCollide n streams past)
          (answered_front_whole n streams (rules_of 8 8 done.store) objects done.store done.new done.author name output done.opened done.done fault known whole failed_so (opened_told objects told)),
    )

  -- ---- where the depot tells its reads

  -- those that the job made
  record JobReads : Type 0 where
    pub reads : List Given
    pub more : ReadsMore done.opened.depot after.depot reads
    pub tells : AreRecorded done.opened.depot done.done.depot reads

  job_reads : (earlier : List Given) → before.depot.gave ≡ Some earlier → JobReads
  job_reads earlier told =
      let (now, opened) = opened_gave before.depot done.opened.depot done.store earlier done.opens told in
      let job = answer_gave (StateCalls done.store done.author name done.new) output done.opened done.done done.job.result done.job.done in
      record {
        reads = job.reads;
        more = keep_gave done.done.depot after.depot (map (made done.author) done.points) done.ending.kept done.ending.keeps ∙ job.gave;
        tells = record {
          earlier = now;
          between = job.reads;
          was = opened;
          is = job.gave ∙ ap (λ (told : Option (List Given)). with_more told job.reads) opened;
          among = λ read there. there;
        };
      }

  pub given_back_recorded : 0 ≡ status → (earlier : List Given) → before.depot.gave ≡ Some earlier → (reads : List Given) × ReadsMore done.opened.depot after.depot reads × (Restored before.files after.files ⊎ Collide n streams past (IsGiven (recorded reads ∷ []) past))
  given_back_recorded zero earlier told =
      let job = job_reads earlier told in
      (job.reads, job.more, given_back zero (recorded job.reads) job.tells)

  pub front_left_recorded : (fault : RestoreFault) → done.job.result ≡ Err fault → (earlier : List Given) → before.depot.gave ≡ Some earlier → (reads : List Given) × ReadsMore done.opened.depot after.depot reads × (LeavesFront streams past name output before.files after.files ⊎ Collide n streams past (IsGiven (recorded reads ∷ []) past))
  front_left_recorded fault failed earlier told =
      let job = job_reads earlier told in
      (job.reads, job.more, front_left fault failed (recorded job.reads) job.tells)
