-- What a run of one job did (this project's own).
use Rattle.std.specs.Prelude.{◌≡◌, ℕ, Bool, true, false, if◌then◌else◌, List, [], ◌∷◌, ◌++◌, length, map, None, Some, Result, Ok, Err}
use Rattle.std.specs.List.{AllByRecursion}
use Rattle.journal_entry.specs.declared.entry.Entry.{Entry}
use Rattle.journal_entry.specs.declared.entry.Point.{Point}
use Rattle.journal_entry.specs.Bounds.{IsEntry}
use Rattle.journal_entry.specs.EntryText.{entries_text}
use Rattle.outside.specs.Faults.{HasCause}
use Rattle.outside.specs.Shelf.{AppendLeaves}
use Rattle.outside.specs.Views.{SinkView, ShelfView, Takes, TakesFront}
use Rattle.outside.specs.declared.trouble.Trouble.{Trouble}
use Rattle.outside.specs.declared.trouble.Trouble.TheVariants as sink
use Rattle.journal_file.specs.Adding.{with_entries, with_write}
use Rattle.journal_file.specs.Cause.{AppendCount}
use Rattle.journal_file.specs.Header.{journal_name}
use Rattle.journal_file.specs.declared.fault.AppendFault.{AppendFault}
use Rattle.journal_file.specs.declared.fault.AppendFault.TheVariants as added
use Rattle.store_core.specs.View.{StateView, past_of, author_after, made}
use Rattle.job_script.specs.declared.job.Job.{Job}
use Rattle.job_script.specs.declared.job.JobKind.{JobKind}
use Rattle.report.specs.declared.answer.JobAnswer.{JobAnswer}
use Rattle.report.specs.JobLine.{job_line}
use Rattle.report.specs.Status.{answer_status}
use Rattle.restore.specs.Copies.{Shelves}
use Rattle.segment_store.specs.Loads.{Entries}
use Rattle.job_run.specs.Jobs.{CommandDone}
use Rattle.store_run.specs.declared.stop.Stop.{Stop}
use Rattle.store_run.specs.declared.stop.Stop.TheVariants.{DepotFault, Memory, Callers}
use Rattle.store_run.specs.EntryLines.{entry_lines}
use Rattle.store_run.specs.Opening.{Opens, IsLegal}
use Rattle.store_run.specs.JobCalls.{JobCalls}
use Rattle.store_run.specs.Run.{Refuses}
use Rattle.store_run.specs.Stop.{fault_line, sink_fault, least_status}

-- what the append of a run's entries answers, and what their printing does
abbrev pub Kept : Type 0
Kept = Result (Unit {0}) AppendFault

abbrev pub Printed : Type 0
Printed = Result (Unit {0}) Trouble

-- ---- the report

-- the line of an append that failed
abbrev pub append_line : Kept → List ℕ
append_line (Ok done) = []
append_line (Err added.Shelf) = fault_line DepotFault
append_line (Err added.Memory) = fault_line Memory

-- the lines of the entries that were added, the first of which has this number, the line of the job, and that of the
-- append
abbrev pub report_text : ℕ → List Entry → Job → JobAnswer → Kept → List ℕ
report_text first entries job answer kept = entry_lines first entries ++ job_line 1 job answer ++ append_line kept

-- the statuses that an append and a sink that failed bring
abbrev pub append_statuses : Kept → List ℕ
append_statuses (Err added.Shelf) = 4 ∷ []
append_statuses _ = []

abbrev pub sink_statuses : Printed → List ℕ
sink_statuses (Err sink.Fault) = sink_fault ∷ []
sink_statuses _ = []

-- whether memory was wanted in the append or the printing
abbrev pub wants_memory : Kept → Printed → Bool
wants_memory (Err added.Memory) printed = true
wants_memory kept (Err sink.Memory) = true
wants_memory kept printed = false

-- the status of a run in which the job has this one: 8 where memory was wanted then, else the least that stands
abbrev pub run_status : ℕ → Kept → Printed → ℕ
run_status job kept printed = if wants_memory kept printed then 8 else least_status (job ∷ append_statuses kept ++ sink_statuses printed)

-- the text was printed, or a front of it
abbrev pub PrintAnswer : List ℕ → SinkView → SinkView → Printed → Type 0
PrintAnswer text sink sink' (Ok done) = Takes sink sink' text
PrintAnswer text sink sink' (Err trouble) = TakesFront sink sink' text

-- ---- keeping the entries

-- the entries' texts stand behind the journal; where the append failed, a front of them, perhaps none
abbrev pub KeepAnswer : ShelfView → ShelfView → List Entry → Kept → Type 0
KeepAnswer before after entries (Ok done) =
    after ≡ record before { held = with_entries before.held entries; wrote = with_write before.wrote entries }
KeepAnswer before after entries (Err fault) =
    AppendLeaves before.held after.held journal_name (entries_text entries) × (after ≡ record before { held = after.held; faults = after.faults })

-- Entries, each of which can be read from its text, were kept in the journal, and reported.
pub record IsKeptAndReported (first : ℕ) (entries : List Entry) (job : Job) (answer : JobAnswer) (depot depot' : ShelfView) (sink sink' : SinkView) (status : ℕ) : Type 0 where
  pub fit : AllByRecursion IsEntry entries
  pub kept : Kept
  pub keeps : KeepAnswer depot depot' entries kept
  pub keep_count : AppendCount kept depot.faults depot'.faults
  pub printed : Printed
  pub prints : PrintAnswer (report_text first entries job answer kept) sink sink' printed
  pub print_count : HasCause sink.faults sink'.faults printed
  pub status_is : status ≡ run_status (answer_status answer) kept printed

-- ---- the run

-- A job was done in the store that was opened, as the author that comes next. The entries of its calls stand behind
-- those of the store, which make a legal history, and were kept and reported. Its cache of manifests began empty.
pub record HasDoneJob (kind : JobKind) (before after : Shelves) (sink sink' : SinkView) (status : ℕ) : Type 0 where
  pub store : StateView
  pub opened : Shelves
  pub opens : Opens before.depot opened.depot (Ok store)
  pub files_same : opened.files ≡ before.files
  pub author : ℕ
  pub author_is : author_after (past_of store) ≡ Some author
  pub new : StateView
  pub done : Shelves
  pub answer : JobAnswer
  pub cache : Entries
  pub job : CommandDone 8 8 author kind store new opened done [] cache answer
  pub points : List Point
  pub calls : JobCalls kind answer points
  pub added : new ≡ record store { entries = store.entries ++ map (made author) points }
  pub legal : IsLegal new
  pub files_kept : after.files ≡ done.files
  pub ending : IsKeptAndReported (length store.entries) (map (made author) points) (record { lane = 1; kind = kind }) answer done.depot after.depot sink sink' status

-- A run of a job: it was done; or the store was not opened, or has no author left, or the run's cache wanted memory, and
-- the cause's line was printed.
pub data JobRun (kind : JobKind) (before after : Shelves) (sink sink' : SinkView) (status : ℕ) : Type 0 where
  ran : HasDoneJob kind before after sink sink' status → JobRun kind before after sink sink' status
  not_opened : (why : Stop) → Opens before.depot after.depot (Err why) → after.files ≡ before.files → Refuses why [] sink sink' status
      → JobRun kind before after sink sink' status
  no_author : (store : StateView) → Opens before.depot after.depot (Ok store) → author_after (past_of store) ≡ None → after.files ≡ before.files
      → Refuses Callers [] sink sink' status → JobRun kind before after sink sink' status
  no_cache : (store : StateView) → Opens before.depot after.depot (Ok store) → after.files ≡ before.files → Refuses Memory [] sink sink' status
      → JobRun kind before after sink sink' status
