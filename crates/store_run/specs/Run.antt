-- What a run did (this project's own).
use Rattle.std.specs.Prelude.{◌≡◌, ℕ, List, [], ◌∷◌, ◌++◌, IfSome, IsTrue}
use Rattle.std.specs.FinMap.{contains_key}
use Rattle.ss_base.specs.declared.profile.Profile.{Profile}
use Rattle.outside.specs.Shelf.{with_object, CreateLeaves, write_of, one_more}
use Rattle.outside.specs.Views.{SourceView, SinkView, ShelfView, SinkFailed, ShelfFailed, Takes, TakesFront}
use Rattle.journal_file.specs.Header.{journal_name, header_text}
use Rattle.store_run.specs.declared.stop.Stop.{Stop}
use Rattle.store_run.specs.declared.stop.Stop.TheVariants.{Usage, Memory, AlreadyStore, DepotFault}
use Rattle.store_run.specs.Feed.{max_stream, IsPrinted, IsCutShort, EndsFor}
use Rattle.store_run.specs.SoFar.{Stage, at_end, so_far}
use Rattle.store_run.specs.Stop.{fault_line, status_of, sink_fault, least_status, SourceCount}

-- A run that ended early, for this cause and behind these lines, printed them and its fault line, and ended with its
-- status. Where the sink failed, a front of them was printed, and the least status stands; where a write wanted
-- memory, a front too, and the status is 8.
pub data Refuses (why : Stop) (lines : List ℕ) (sink sink' : SinkView) (status : ℕ) : Type 0 where
  told : status ≡ status_of why → Takes sink sink' (lines ++ fault_line why) → sink'.faults ≡ sink.faults → Refuses why lines sink sink' status
  sink_failed : status ≡ least_status (status_of why ∷ sink_fault ∷ []) → TakesFront sink sink' (lines ++ fault_line why) → SinkFailed sink sink' → Refuses why lines sink sink' status
  memory_wanted : status ≡ 8 → TakesFront sink sink' (lines ++ fault_line why) → sink'.faults ≡ sink.faults → Refuses why lines sink sink' status

-- A run that prints the text of its source's bytes. It printed all of it; or it ended early, behind the lines that were
-- whole by then; or a line could not be printed, for the sink failed or a write wanted memory.
pub data StreamAnswer (text : Stage → List ℕ → List ℕ) (source source' : SourceView) (sink sink' : SinkView) (status : ℕ) : Type 0 where
  printed : status ≡ 0 → IsPrinted max_stream source source' sink sink' (text at_end) → source'.faults ≡ source.faults → sink'.faults ≡ sink.faults
      → StreamAnswer text source source' sink sink' status
  ended_early : (why : Stop) (lines : List ℕ) → EndsFor why max_stream source source' (text so_far) lines → SourceCount why source.faults source'.faults → Refuses why lines sink sink' status
      → StreamAnswer text source source' sink sink' status
  line_failed : status ≡ sink_fault → IsCutShort source source' sink sink' (text at_end) → source'.faults ≡ source.faults → SinkFailed sink sink'
      → StreamAnswer text source source' sink sink' status
  line_wanted_memory : status ≡ 8 → IsCutShort source source' sink sink' (text at_end) → source'.faults ≡ source.faults → sink'.faults ≡ sink.faults
      → StreamAnswer text source source' sink sink' status

-- a run of words that no command has
abbrev pub UsageAnswer : SinkView → SinkView → ℕ → Type 0
UsageAnswer sink sink' status = Refuses Usage [] sink sink' status

-- what is known of a store's journal, where the depot tells its objects
abbrev pub HasJournal : ShelfView → Type 0
HasJournal depot = IfSome depot.held (λ objects. IsTrue (contains_key objects journal_name))

abbrev pub HasNoJournal : ShelfView → Type 0
HasNoJournal depot = IfSome depot.held (λ objects. IsTrue (contains_key objects journal_name) → ⊥)

-- The journal of a store was not made for want of memory, or for a fault. It may be absent, or hold a front of its
-- header; one that was there is as before. Nothing else was done.
pub record IsLeft (profile : Profile) (depot depot' : ShelfView) : Type 0 where
  pub leaves : CreateLeaves depot.held depot'.held journal_name (header_text profile)
  pub untouched : IfSome depot.held (λ objects. IsTrue (contains_key objects journal_name) → depot'.held ≡ depot.held)
  pub others : depot' ≡ record depot { held = depot'.held; faults = depot'.faults }

-- why no store was made, and what was done: nothing where there is one
abbrev pub IsUnmade : Stop → Profile → ShelfView → ShelfView → Type 0
IsUnmade AlreadyStore profile depot depot' = HasJournal depot × (depot' ≡ depot)
IsUnmade DepotFault profile depot depot' = IsLeft profile depot depot' × ShelfFailed depot depot'
IsUnmade Memory profile depot depot' = IsLeft profile depot depot' × (depot'.faults ≡ depot.faults)
IsUnmade _ profile depot depot' = ⊥

-- A run of `init P`: the journal of a store without entries was made where none was, and nothing was printed; or it
-- was not made, for a cause whose line was printed.
pub data InitAnswer (profile : Profile) (depot depot' : ShelfView) (sink sink' : SinkView) (status : ℕ) : Type 0 where
  made : status ≡ 0 → HasNoJournal depot
      → depot' ≡ record depot { held = with_object depot.held journal_name (header_text profile); wrote = one_more depot.wrote (write_of journal_name (header_text profile)) }
      → sink' ≡ sink → InitAnswer profile depot depot' sink sink' status
  not_made : (why : Stop) → IsUnmade why profile depot depot' → Refuses why [] sink sink' status → InitAnswer profile depot depot' sink sink' status
