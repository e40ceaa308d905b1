-- Why no segment is given (this project's own).
use Rattle.std.specs.Prelude.{◌≡◌, ℕ, ◌<◌, ◌≤◌, List, ◌++◌, length, Result, Ok, Err}
use Rattle.ss_base.specs.declared.profile.Numbers.{Numbers}
use Rattle.outside.specs.Faults.{Rose}
use Rattle.outside.specs.Views.{SourceView}
use Rattle.outside.specs.declared.trouble.Trouble.{Trouble}
use Rattle.outside.specs.declared.trouble.Trouble.TheVariants as trouble
use Rattle.segment_reader.specs.declared.fault.NextFault.{NextFault}
use Rattle.segment_reader.specs.declared.fault.NextFault.TheVariants.{Fault, TooLong, Memory}
use Rattle.segment_reader.specs.Reads.{IsRead}

-- what a source's trouble makes of a call
abbrev pub next_fault : Trouble → NextFault
next_fault trouble.Fault = Fault
next_fault trouble.Memory = Memory

-- the source's count of faults rose where it is the cause, and is as before elsewhere
abbrev pub NextCount : {T : Type 0} → Result T NextFault → ℕ → ℕ → Type 0
NextCount (Ok x) before after = after ≡ before
NextCount (Err Fault) before after = Rose before after
NextCount (Err TooLong) before after = after ≡ before
NextCount (Err Memory) before after = after ≡ before

-- bytes were read, for which there was room
pub record EndsWithin (n : Numbers) (room : ℕ) (pending : List ℕ) (source source' : SourceView) : Type 0 where
  pub got : List ℕ
  pub reads : IsRead n pending source source' got
  pub within : length got ≤ room

-- bytes were read for which there was room, and a piece for which there was none
pub record EndsAbove (n : Numbers) (room : ℕ) (pending : List ℕ) (source source' : SourceView) : Type 0 where
  pub got : List ℕ
  pub piece : List ℕ
  pub reads : IsRead n pending source source' (got ++ piece)
  pub within : length got ≤ room
  pub over : room < length (got ++ piece)

-- what was read where no segment is given
abbrev pub EndsFor : NextFault → Numbers → ℕ → List ℕ → SourceView → SourceView → Type 0
EndsFor Fault n room pending source source' = EndsWithin n room pending source source'
EndsFor TooLong n room pending source source' = EndsAbove n room pending source source'
EndsFor Memory n room pending source source' = EndsWithin n room pending source source'
