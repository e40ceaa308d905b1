-- Why a run ends early, what it then prints, and its status (this project's own).
use Rattle.std.specs.Prelude.{◌≡◌, ℕ, Bool, ◌==◌, ◌&&◌, not, if◌then◌else◌, unwrap_or, List, [], ◌∷◌, ◌++◌, codes}
use Rattle.std.specs.List.{list_any}
use Rattle.std.specs.Fmt.{decimal}
use Rattle.ss_base.specs.Search.{least}
use Rattle.outside.specs.Faults.{Rose}
use Rattle.store_run.specs.declared.stop.Stop.{Stop}
use Rattle.store_run.specs.declared.stop.Stop.TheVariants.{Usage, TooLong, Memory, AlreadyStore, SourceFault, DepotFault, NotStore, BadEntry, IllegalEntry, UnfinishedSession, UnfinishedReading, Callers}

-- the line that is printed where a run ends early, with its LF
abbrev pub fault_line : Stop → List ℕ
fault_line Usage = codes "usage" ++ 10 ∷ []
fault_line TooLong = codes "limit stream" ++ 10 ∷ []
fault_line Memory = codes "memory" ++ 10 ∷ []
fault_line AlreadyStore = codes "already a store" ++ 10 ∷ []
fault_line SourceFault = codes "source fault" ++ 10 ∷ []
fault_line DepotFault = codes "depot fault" ++ 10 ∷ []
fault_line NotStore = codes "journal is not a store's" ++ 10 ∷ []
fault_line (BadEntry place) = codes "journal bad entry at byte " ++ decimal place ++ 10 ∷ []
fault_line (IllegalEntry number) = codes "journal illegal entry " ++ decimal number ++ 10 ∷ []
fault_line (UnfinishedSession session) = codes "journal unfinished session " ++ decimal session ++ 10 ∷ []
fault_line (UnfinishedReading reader) = codes "journal unfinished reading " ++ decimal reader ++ 10 ∷ []
fault_line Callers = codes "limit callers" ++ 10 ∷ []

-- the status that stands where a run ends early
abbrev pub status_of : Stop → ℕ
status_of Usage = 1
status_of DepotFault = 4
status_of NotStore = 6
status_of (BadEntry place) = 6
status_of (IllegalEntry number) = 6
status_of (UnfinishedSession session) = 6
status_of (UnfinishedReading reader) = 6
status_of TooLong = 7
status_of Callers = 7
status_of Memory = 8
status_of AlreadyStore = 11
status_of SourceFault = 12

-- the source's count of faults rose where it is the cause, and is as before where it is not
abbrev pub SourceCount : Stop → ℕ → ℕ → Type 0
SourceCount SourceFault before after = Rose before after
SourceCount _ before after = after ≡ before

-- the depot's count of faults rose where it is the cause, and is as before where it is not
abbrev pub DepotCount : Stop → ℕ → ℕ → Type 0
DepotCount DepotFault before after = Rose before after
DepotCount _ before after = after ≡ before

-- the status that stands where the sink failed
abbrev pub sink_fault : ℕ
sink_fault = 9

-- whether a status stands
abbrev pub stands : List ℕ → ℕ → Bool
stands statuses n = list_any (λ s. s == n) statuses

-- the answer of a run in which these statuses stand: the least of them other than 0 and 8; 8 where no other stands,
-- and 0 where none does
unfoldable pub least_status : List ℕ → ℕ
least_status statuses = unwrap_or (least (λ n. stands statuses n && not (n == 8)) 1 12) (if stands statuses 8 then 8 else 0)
