-- Each object that a run makes is known, or the journal.
use Rattle.std.proofs.Common.{◌≡◌, ◌⊎◌, ℕ, List, [], ◌∷◌, map, Option, Some, None, refl, sym, ap, ◌∙◌, subst, inl, inr}
use Rattle.std.specs.Prelude.{Ok, Err}
use Rattle.ss_base.specs.declared.object.Object.{Object}
use Rattle.ss_base.specs.ObjectName.{object_text}
use Rattle.outside.specs.Shelf.{Objects}
use Rattle.outside.specs.Views.{ShelfView, SinkView}
use Rattle.outside.specs.declared.trouble.Trouble.{Trouble}
use Rattle.journal_entry.specs.declared.entry.Entry.{Entry}
use Rattle.journal_entry.specs.EntryText.{entries_text}
use Rattle.journal_file.specs.Header.{journal_name}
use Rattle.store_core.specs.View.{StateView, past_of, rules_of, made}
use Rattle.restore.specs.Copies.{Shelves}
use Rattle.history_calls.specs.Tokens.{IdleView}
use Rattle.session.specs.Backup.{HasRunAlone}
use Rattle.stored_streams.specs.Known.{IsKnownName}
use Rattle.backed_up_streams.specs.Created.{HasName, CreatesKnown}
use Rattle.backed_up_streams.proofs.CreatedLaws.{AllHeld, all_added, all_without}
use Rattle.backed_up_streams.proofs.CreatedBackupLaws.{created-known}
use Rattle.report.specs.declared.answer.JobAnswer.{JobAnswer}
use Rattle.job_script.specs.declared.job.JobKind.{JobKind}
use Rattle.job_script.specs.declared.job.JobKind.TheVariants.{Backup, Restore, Delete, Reclaim, Stat}
use Rattle.job_run.specs.Erasing.{IsErased, AreErased, HasReclaimed, LastReclaim, ReclaimsDone}
use Rattle.job_run.specs.Erasing.HasReclaimed.{none, more}
use Rattle.job_run.specs.Erasing.LastReclaim.{few, troubled, unmade}
use Rattle.store_run.specs.JobRun.{Kept, KeepAnswer, HasDoneJob}
use Rattle.store_run.specs.Opening.{IsLegal}
use Rattle.run_streams.specs.Made.{MakesKnown}

-- ---- erases make nothing

module _ (P : List ℕ → Type 0) where
  erased_all : (before after : ShelfView) (object : Object) (met : Option Trouble) → IsErased before after object met → AllHeld P before.held → AllHeld P after.held
  erased_all before after object None is all = subst (λ (s : ShelfView). AllHeld P s.held) (sym is) (all_without P before.held (object_text object) all)
  erased_all before after object (Some trouble) is all = elim is.objects [
    | inl same ↦ subst (AllHeld P) (sym same) all
    | inr gone ↦ subst (AllHeld P) (sym gone) (all_without P before.held (object_text object) all)
  ]

  all_erased : (before after : ShelfView) (objects : List Object) (met : Option Trouble) → AreErased before after objects met → AllHeld P before.held → AllHeld P after.held
  all_erased before after [] met is all = subst (λ (s : ShelfView). AllHeld P s.held) (sym is.0) all
  all_erased before after (object ∷ objects) met (between, one, rest, first_is, rest_are, met_is) all =
      all_erased between after objects rest rest_are (erased_all before between object one first_is all)

  all_reclaimed : (author : ℕ) (old : StateView) (depot : ShelfView) (new : StateView) (depot' : ShelfView) → HasReclaimed author old depot new depot' → AllHeld P depot.held → AllHeld P depot'.held
  all_reclaimed author old depot new depot' none all = all
  all_reclaimed author old depot new depot' (more between after_it shelf shelf' removals earlier answer full erased) all =
      all_erased shelf shelf' removals.items None erased (all_reclaimed author old depot between shelf earlier all)

  last_reclaimed : (author : ℕ) (old new : StateView) (depot depot' : ShelfView) (answer : JobAnswer) → LastReclaim author old new depot depot' answer → AllHeld P depot.held → AllHeld P depot'.held
  last_reclaimed author old new depot depot' answer (few removals answer_is reclaimed fewer erased) all = all_erased depot depot' removals.items None erased all
  last_reclaimed author old new depot depot' answer (troubled removals met answer_is reclaimed erased) all = all_erased depot depot' removals.items (Some met) erased all
  last_reclaimed author old new depot depot' answer (unmade cause answer_is refused same) all = subst (λ (s : ShelfView). AllHeld P s.held) (sym same) all

  -- what keeping the entries makes is the journal
  kept_all : (before after : ShelfView) (entries : List Entry) (kept : Kept) → P journal_name → KeepAnswer before after entries kept → AllHeld P before.held → AllHeld P after.held
  kept_all before after [] (Ok done) is keeps all = subst (λ (s : ShelfView). AllHeld P s.held) (sym keeps) all
  kept_all before after (entry ∷ entries) (Ok done) is keeps all = subst (λ (s : ShelfView). AllHeld P s.held) (sym keeps) (all_added P before.held journal_name (entries_text (entry ∷ entries)) is all)
  kept_all before after entries (Err fault) is keeps all = elim keeps.0 [
    | inl same ↦ subst (AllHeld P) (sym same) all
    | inr added ↦ subst (AllHeld P) (sym added.3) (all_added P before.held journal_name added.0 is all)
  ]

-- ---- a run

abbrev WasOrKnown : List Entry → Objects → List ℕ → Type 0
WasOrKnown past before name = HasName before name ⊎ ((name ≡ journal_name) ⊎ IsKnownName past name)

job_makes : (kind : JobKind) (before after : Shelves) (sink sink' : SinkView) (status : ℕ) (done : HasDoneJob kind before after sink sink' status) (objects files : Objects) → before.depot.held ≡ Some objects → before.files.held ≡ Some files
    → AllHeld (WasOrKnown (past_of done.new) objects) done.opened.depot.held → AllHeld (WasOrKnown (past_of done.new) objects) done.done.depot.held
job_makes (Backup input name) before after sink sink' status done objects files told files_told all =
    let run : HasRunAlone 8 8 done.author done.opened.files done.done.files input name done.store done.new done.opened.depot done.done.depot [] done.cache done.job.result = done.job.done in
    let idle : IdleView = record { author = done.author; seen = done.store } in
    let made_known : CreatesKnown (past_of run.after.seen) objects done.done.depot =
    created-known 8 8 done.opened.files input name idle files objects (rules_of 8 8 run.after.seen) done.opened.depot run.after done.done.depot done.cache done.job.result run.answer
    (ap (λ (f : ShelfView). f.held) done.files_same ∙ files_told) (done.opens.only_reads.held ∙ told) (subst IsLegal (sym run.after_is) done.legal) in
    record {
      now = made_known.now;
      held_is = made_known.held_is;
      each = λ q bytes found. elim (made_known.each q bytes found) [
        | inl was ↦ inl was
        | inr known ↦ inr (inr (subst (λ (s : StateView). IsKnownName (past_of s) q) run.after_is known))
      ];
    }
job_makes (Restore name output) before after sink sink' status done objects files told files_told all = subst (AllHeld (WasOrKnown (past_of done.new) objects)) (sym done.job.depot.held) all
job_makes (Delete name) before after sink sink' status done objects files told files_told all = subst (λ (s : Shelves). AllHeld (WasOrKnown (past_of done.new) objects) s.depot.held) (sym done.job.1) all
job_makes Stat before after sink sink' status done objects files told files_told all = subst (λ (s : Shelves). AllHeld (WasOrKnown (past_of done.new) objects) s.depot.held) (sym done.job.1) all
job_makes Reclaim before after sink sink' status done objects files told files_told all =
    let is : ReclaimsDone done.author done.store done.new done.opened.depot done.done.depot done.answer = done.job.0 in
    let P = WasOrKnown (past_of done.new) objects in
    last_reclaimed P done.author is.between done.new is.shelf done.done.depot done.answer is.last (all_reclaimed P done.author done.store done.opened.depot is.between is.shelf is.earlier all)

pub run_makes : (kind : JobKind) (before after : Shelves) (sink sink' : SinkView) (status : ℕ) (done : HasDoneJob kind before after sink sink' status) (objects files : Objects) → before.depot.held ≡ Some objects → before.files.held ≡ Some files → MakesKnown (past_of done.new) objects after.depot
run_makes kind before after sink sink' status done objects files told files_told =
    let P = WasOrKnown (past_of done.new) objects in
    let at_first : AllHeld P done.opened.depot.held = record { now = objects; held_is = done.opens.only_reads.held ∙ told; each = λ name bytes found. inl (bytes, found) } in
    let kept =
    kept_all P done.done.depot after.depot (map (made done.author) done.points) done.ending.kept (inr (inl refl)) done.ending.keeps
    (job_makes kind before after sink sink' status done objects files told files_told at_first) in
    record { now = kept.now; held_is = kept.held_is; each = kept.each }
