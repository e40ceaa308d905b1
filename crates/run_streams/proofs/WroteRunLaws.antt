-- What a run wrote to its depot.
use Rattle.std.proofs.Common.{◌≡◌, ℕ, List, [], ◌∷◌, ◌++◌, map, Option, Some, None, refl, sym, ap, ◌∙◌, subst}
use Rattle.std.specs.Option.{option_map}
use Rattle.ss_base.specs.declared.object.Object.{Object}
use Rattle.ss_base.specs.Profile.{numbers_of}
use Rattle.outside.specs.Shelf.{Objects, Given, Written, bytes_of}
use Rattle.outside.specs.Views.{ShelfView, SinkView}
use Rattle.outside.specs.declared.trouble.Trouble.{Trouble}
use Rattle.journal_entry.specs.declared.entry.Entry.{Entry}
use Rattle.store_core.specs.View.{StateView, past_of, rules_of, made}
use Rattle.restore.specs.Copies.{Shelves}
use Rattle.history_calls.specs.Tokens.{IdleView}
use Rattle.session.specs.Backup.{HasRunAlone}
use Rattle.stored_streams.specs.Streams.{Streams}
use Rattle.stored_streams.specs.OfStreams.{HasContents}
use Rattle.stored_streams.specs.Reads.{Reads}
use Rattle.stored_streams.specs.Reads.Reads.{recorded, held}
use Rattle.backed_up_streams.specs.Loaded.{ReadsMore}
use Rattle.backed_up_streams.specs.OfInput.{IsOfInput}
use Rattle.backed_up_streams.specs.Wrote.{WritesMore, HasWritten}
use Rattle.backed_up_streams.proofs.BackupLaws.{backup-has}
use Rattle.stored_streams.proofs.ToldLaws.{more_none}
use Rattle.backed_up_streams.proofs.WroteBackupLaws.{recorded-wrote, held-wrote}
use Rattle.report.specs.declared.answer.JobAnswer.{JobAnswer}
use Rattle.job_script.specs.declared.job.JobKind.{JobKind}
use Rattle.job_script.specs.declared.job.JobKind.TheVariants.{Backup, Restore, Delete, Reclaim, Stat}
use Rattle.job_run.specs.Erasing.{IsErased, AreErased, HasReclaimed, LastReclaim, ReclaimsDone}
use Rattle.job_run.specs.Erasing.HasReclaimed.{none, more}
use Rattle.job_run.specs.Erasing.LastReclaim.{few, troubled, unmade}
use Rattle.store_run.specs.JobRun.{HasDoneJob}
use Rattle.store_run.specs.Opening.{IsLegal}
use Rattle.run_streams.specs.RunStreams.{HasFile, StoresNothing}
use Rattle.run_streams.specs.Wrote.{with_kept, with_run, RunWrites}
use Rattle.run_streams.proofs.KeepLaws.{keep_gave, keep_wrote, keep_erased}
use Rattle.run_streams.proofs.RunLaws.{IsOfStreamsThen, run, idle, files_told, of_input, entries_seen}

module _ (kind : JobKind) (before after : Shelves) (sink sink' : SinkView) (status : ℕ) (done : HasDoneJob kind before after sink sink' status) where
  abbrev added : List Entry
  added = map (made done.author) done.points

  run_wrote : (writes : List Written) → WritesMore done.opened.depot done.done.depot writes → after.depot.wrote ≡ with_run before.depot.wrote writes added done.ending.kept
  run_wrote writes more_of_job =
      keep_wrote done.done.depot after.depot added done.ending.kept done.ending.keeps
      ∙ ap (λ (told : Option (List Written)). with_kept told added done.ending.kept) (more_of_job ∙ ap (option_map (λ (ws : List Written). ws ++ writes)) done.opens.only_reads.wrote)

-- ---- a job that is no backup

erased_wrote : (before after : ShelfView) (object : Object) (met : Option Trouble) → IsErased before after object met → after.wrote ≡ before.wrote
erased_wrote before after object None is = ap (λ (d : ShelfView). d.wrote) is
erased_wrote before after object (Some trouble) is = ap (λ (d : ShelfView). d.wrote) is.others

all_erased_wrote : (before after : ShelfView) (objects : List Object) (met : Option Trouble) → AreErased before after objects met → after.wrote ≡ before.wrote
all_erased_wrote before after [] met is = ap (λ (d : ShelfView). d.wrote) is.0
all_erased_wrote before after (object ∷ objects) met (between, one, rest, first_is, rest_are, met_is) =
    all_erased_wrote between after objects rest rest_are ∙ erased_wrote before between object one first_is

reclaimed_wrote : (author : ℕ) (old : StateView) (depot : ShelfView) (new : StateView) (depot' : ShelfView) → HasReclaimed author old depot new depot' → depot'.wrote ≡ depot.wrote
reclaimed_wrote author old depot new depot' none = refl
reclaimed_wrote author old depot new depot' (more between after_it shelf shelf' removals earlier answer full erased) =
    all_erased_wrote shelf shelf' removals.items None erased ∙ reclaimed_wrote author old depot between shelf earlier

last_wrote : (author : ℕ) (old new : StateView) (depot depot' : ShelfView) (answer : JobAnswer) → LastReclaim author old new depot depot' answer → depot'.wrote ≡ depot.wrote
last_wrote author old new depot depot' answer (few removals answer_is reclaimed fewer erased) = all_erased_wrote depot depot' removals.items None erased
last_wrote author old new depot depot' answer (troubled removals met answer_is reclaimed erased) = all_erased_wrote depot depot' removals.items (Some met) erased
last_wrote author old new depot depot' answer (unmade cause answer_is refused same) = ap (λ (d : ShelfView). d.wrote) same

job_wrote : (kind : JobKind) (before after : Shelves) (sink sink' : SinkView) (status : ℕ) (done : HasDoneJob kind before after sink sink' status) → StoresNothing kind → done.done.depot.wrote ≡ done.opened.depot.wrote
job_wrote (Backup input name) before after sink sink' status done nothing = absurd nothing
job_wrote (Restore name output) before after sink sink' status done nothing = done.job.depot.wrote
job_wrote (Delete name) before after sink sink' status done nothing = ap (λ (s : Shelves). s.depot.wrote) done.job.1
job_wrote Stat before after sink sink' status done nothing = ap (λ (s : Shelves). s.depot.wrote) done.job.1
job_wrote Reclaim before after sink sink' status done nothing =
    let is : ReclaimsDone done.author done.store done.new done.opened.depot done.done.depot done.answer = done.job.0 in
    last_wrote done.author is.between done.new is.shelf done.done.depot done.answer is.last ∙ reclaimed_wrote done.author done.store done.opened.depot is.between is.shelf is.earlier

pub others_wrote : (kind : JobKind) (before after : Shelves) (sink sink' : SinkView) (status : ℕ) (done : HasDoneJob kind before after sink sink' status) → StoresNothing kind
    → after.depot.wrote ≡ with_run before.depot.wrote [] (map (made done.author) done.points) done.ending.kept
others_wrote kind before after sink sink' status done nothing =
    run_wrote kind before after sink sink' status done [] (job_wrote kind before after sink sink' status done nothing ∙ more_none done.opened.depot.wrote)

-- ---- a backup

module _ (input name : List ℕ) (streams : Streams) (before after : Shelves) (sink sink' : SinkView) (status : ℕ) (done : HasDoneJob (Backup input name) before after sink sink' status) (file : HasFile input streams before.files (past_of done.store) (past_of done.new)) (was : IsOfStreamsThen (Backup input name) streams before after sink sink' status done) where
  abbrev WritesBehind : Reads → StateView → Type 0
  WritesBehind reads view = HasWritten (numbers_of done.store.profile) streams (reads ∷ []) (past_of done.store) (past_of view) done.opened.depot done.done.depot

  abbrev pub RunWrote : Reads → Type 0
  RunWrote reads = RunWrites (numbers_of done.store.profile) streams (reads ∷ []) (past_of done.store) (past_of done.new) (map (made done.author) done.points) done.ending.kept before.depot after.depot

  abbrev the_run : HasRunAlone 8 8 done.author done.opened.files done.done.files input name done.store done.new done.opened.depot done.done.depot [] done.cache done.job.result
  the_run = run input name streams before after sink sink' status done file was

  abbrev caller : IdleView
  caller = idle input name streams before after sink sink' status done file was

  told : done.opened.files.held ≡ Some file.objects
  told = files_told input name streams before after sink sink' status done file was

  input_is : IsOfInput streams (past_of done.store) (past_of the_run.after.seen) (bytes_of file.objects input)
  input_is = of_input input name streams before after sink sink' status done file was

  contents : HasContents (numbers_of done.store.profile) streams (past_of the_run.after.seen)
  contents = backup-has 8 8 done.opened.files input name caller streams file.objects told done.opened.depot [] the_run.after done.done.depot done.cache done.job.result the_run.answer input_is was.contents

  at_end : (reads : Reads) → WritesBehind reads the_run.after.seen → RunWrote reads
  at_end reads is =
      let behind = subst (λ (view : StateView). WritesBehind reads view) the_run.after_is is in
      record {
        writes = behind.writes;
        wrote = run_wrote (Backup input name) before after sink sink' status done behind.writes behind.more;
        erased = keep_erased done.done.depot after.depot (map (made done.author) done.points) done.ending.kept done.ending.keeps ∙ behind.erased ∙ done.opens.only_reads.erased;
        are = behind.are;
      }

  pub written_held : (objects : Objects) → before.depot.held ≡ Some objects → RunWrote (held objects)
  written_held objects depot_told =
      at_end (held objects)
      (held-wrote 8 8 done.opened.files input name caller streams file.objects told done.opened.depot (rules_of 8 8 the_run.after.seen) the_run.after done.done.depot done.cache
      (subst IsLegal (sym the_run.after_is) done.legal)
      (entries_seen input name streams before after sink sink' status done file was)
      was contents objects (done.opens.only_reads.held ∙ depot_told) done.job.result the_run.answer input_is)

  pub written_recorded : (reads : List Given) × ReadsMore done.opened.depot after.depot reads × RunWrote (recorded reads)
  written_recorded =
      let (reads, more_reads, written) =
      recorded-wrote 8 8 done.opened.files input name caller streams file.objects told done.opened.depot (rules_of 8 8 the_run.after.seen) the_run.after done.done.depot done.cache
      (subst IsLegal (sym the_run.after_is) done.legal)
      (entries_seen input name streams before after sink sink' status done file was)
      was contents done.job.result the_run.answer input_is in (
        reads,
        keep_gave done.done.depot after.depot (map (made done.author) done.points) done.ending.kept done.ending.keeps ∙ more_reads,
        at_end (recorded reads) written,
      )
