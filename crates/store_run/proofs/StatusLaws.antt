-- What a status tells of a run.
use Rattle.std.proofs.Common.{◌≡◌, ℕ, ◌<◌, ◌≤◌, List, [], ◌∷◌, ◌++◌, arith}
use Rattle.ss_base.specs.Search.{least}
use Rattle.ss_base.specs.declared.profile.Profile.{Profile}
use Rattle.outside.specs.Views.{SourceView, SinkView, ShelfView, SourceFailed, Takes}
use Rattle.store_run.specs.declared.stop.Stop.{Stop}
use Rattle.store_run.specs.declared.stop.Stop.TheVariants.{Usage, TooLong, Memory, AlreadyStore, SourceFault, DepotFault, NotStore, BadEntry, IllegalEntry, UnfinishedSession, UnfinishedReading, Callers}
use Rattle.store_run.specs.Feed.{EndsAtFault}
use Rattle.store_run.specs.Run.{Refuses, told, sink_failed, memory_wanted, StreamAnswer, printed, ended_early, line_failed, line_wanted_memory, HasJournal, InitAnswer, made, not_made}
use Rattle.store_run.specs.SoFar.{Stage, so_far}
use Rattle.store_run.specs.Stop.{fault_line, status_of, sink_fault, least_status}

-- beside a sink that failed no status above 9 is answered
least_beside : (why : Stop) → least_status (status_of why ∷ sink_fault ∷ []) ≤ 9
unfolding least_status least
least_beside Usage = omega arith
least_beside TooLong = omega arith
least_beside Memory = omega arith
least_beside AlreadyStore = omega arith
least_beside SourceFault = omega arith
least_beside DepotFault = omega arith
least_beside NotStore = omega arith
least_beside (BadEntry place) = omega arith
least_beside (IllegalEntry number) = omega arith
least_beside (UnfinishedSession session) = omega arith
least_beside (UnfinishedReading reader) = omega arith
least_beside Callers = omega arith

-- above 9 the fault line is whole, and the status is its cause's
told_above : (why : Stop) (lines : List ℕ) (sink sink' : SinkView) (status : ℕ) → 9 < status → Refuses why lines sink sink' status → (status ≡ status_of why) × Takes sink sink' (lines ++ fault_line why)
told_above why lines sink sink' status above (told is whole same) = (is, whole)
told_above why lines sink sink' status above (sink_failed is front rose) = absurd (omega (arith, is, least_beside why))
told_above why lines sink sink' status above (memory_wanted is front same) = absurd (omega (arith, is))

pub source_failed : (text : Stage → List ℕ → List ℕ) (source source' : SourceView) (sink sink' : SinkView) → StreamAnswer text source source' sink sink' 12
    → (lines : List ℕ) × EndsAtFault source source' (text so_far) lines × Takes sink sink' (lines ++ fault_line SourceFault) × SourceFailed source source'
source_failed text source source' sink sink' (printed is all same still) = absurd (omega (arith, is))
source_failed text source source' sink sink' (line_failed is cut same rose) = absurd (omega (arith, is))
source_failed text source source' sink sink' (line_wanted_memory is cut same still) = absurd (omega (arith, is))
source_failed text source source' sink sink' (ended_early SourceFault lines ends count refuses) =
    (lines, ends, (told_above SourceFault lines sink sink' 12 (omega arith) refuses).1, count)
source_failed text source source' sink sink' (ended_early TooLong lines ends count refuses) = absurd (omega (arith, (told_above TooLong lines sink sink' 12 (omega arith) refuses).0))
source_failed text source source' sink sink' (ended_early Memory lines ends count refuses) = absurd (omega (arith, (told_above Memory lines sink sink' 12 (omega arith) refuses).0))
source_failed text source source' sink sink' (ended_early Usage lines ends count refuses) = absurd ends
source_failed text source source' sink sink' (ended_early AlreadyStore lines ends count refuses) = absurd ends
source_failed text source source' sink sink' (ended_early DepotFault lines ends count refuses) = absurd ends
source_failed text source source' sink sink' (ended_early NotStore lines ends count refuses) = absurd ends
source_failed text source source' sink sink' (ended_early (BadEntry place) lines ends count refuses) = absurd ends
source_failed text source source' sink sink' (ended_early (IllegalEntry number) lines ends count refuses) = absurd ends
source_failed text source source' sink sink' (ended_early (UnfinishedSession session) lines ends count refuses) = absurd ends
source_failed text source source' sink sink' (ended_early (UnfinishedReading reader) lines ends count refuses) = absurd ends
source_failed text source source' sink sink' (ended_early Callers lines ends count refuses) = absurd ends

pub is_store : (profile : Profile) (depot depot' : ShelfView) (sink sink' : SinkView) → InitAnswer profile depot depot' sink sink' 11
    → HasJournal depot × (depot' ≡ depot) × Takes sink sink' (fault_line AlreadyStore)
is_store profile depot depot' sink sink' (made is none new same) = absurd (omega (arith, is))
is_store profile depot depot' sink sink' (not_made AlreadyStore unmade refuses) = (unmade.0, unmade.1, (told_above AlreadyStore [] sink sink' 11 (omega arith) refuses).1)
is_store profile depot depot' sink sink' (not_made DepotFault unmade refuses) = absurd (omega (arith, (told_above DepotFault [] sink sink' 11 (omega arith) refuses).0))
is_store profile depot depot' sink sink' (not_made Memory unmade refuses) = absurd (omega (arith, (told_above Memory [] sink sink' 11 (omega arith) refuses).0))
is_store profile depot depot' sink sink' (not_made Usage unmade refuses) = absurd unmade
is_store profile depot depot' sink sink' (not_made TooLong unmade refuses) = absurd unmade
is_store profile depot depot' sink sink' (not_made SourceFault unmade refuses) = absurd unmade
is_store profile depot depot' sink sink' (not_made NotStore unmade refuses) = absurd unmade
is_store profile depot depot' sink sink' (not_made (BadEntry place) unmade refuses) = absurd unmade
is_store profile depot depot' sink sink' (not_made (IllegalEntry number) unmade refuses) = absurd unmade
is_store profile depot depot' sink sink' (not_made (UnfinishedSession session) unmade refuses) = absurd unmade
is_store profile depot depot' sink sink' (not_made (UnfinishedReading reader) unmade refuses) = absurd unmade
is_store profile depot depot' sink sink' (not_made Callers unmade refuses) = absurd unmade
