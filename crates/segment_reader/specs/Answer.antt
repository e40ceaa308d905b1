-- What a call that answered did (this project's own).
use Rattle.std.specs.Prelude.{◌≡◌, ℕ, ◌+◌, ◌-◌, ◌<◌, ◌≤◌, true, false, List, [], ◌∷◌, ◌++◌, length, Option, IfSome}
use Rattle.ss_base.specs.declared.profile.Numbers.{Numbers}
use Rattle.outside.specs.Views.{SourceView, IsEnded}
use Rattle.segmenter.specs.declared.segment.Segment.{Segment}
use Rattle.segment_reader.specs.SegmentsOf.{segments_of}
use Rattle.segment_reader.specs.Next.{IsNext}
use Rattle.segment_reader.specs.Reads.{IsRead}
use Rattle.segment_reader.specs.WorkState.{WorkState}

-- the segments of what pended and what the source told are this one, and those of what pends and what it now tells
abbrev pub TellsNext : Numbers → List (List ℕ) → List ℕ → List ℕ → Option (List ℕ) → Option (List ℕ) → Type 0
TellsNext n chunks before after left left' =
    IfSome left (λ bytes. IfSome left' (λ bytes'. segments_of n (before ++ bytes) ≡ chunks ∷ segments_of n (after ++ bytes')))

-- the bytes that pend, and those that may still be taken
abbrev pub may_come : WorkState → ℕ
may_come work = work.limit - work.taken + length work.bytes

-- A segment was given, where the source had not ended: the first of the bytes that pended and those that were read.
pub record GaveSegment (work work' : WorkState) (source source' : SourceView) (segment : Segment) : Type 0 where
  pub going : work.ended ≡ false
  pub got : List ℕ
  pub reads : IsRead work.numbers work.bytes source source' got
  pub next : IsNext work.numbers work'.ended segment (work.bytes ++ got) work'.bytes
  pub told : TellsNext work.numbers next.chunks work.bytes work'.bytes source.left source'.left
  pub end : work'.ended ≡ true → IsEnded source' × (work'.bytes ≡ [])
  pub within : work.taken + length got ≤ work.limit
  pub falls : may_come work' < may_come work
  pub after : work' ≡ record work { taken = work.taken + length got; pending = length work'.bytes; bytes = work'.bytes; ended = work'.ended }

-- No segment is left: nothing pended, and the source ended in this call, or in an earlier one and was not read.
pub record GaveNone (work work' : WorkState) (source source' : SourceView) : Type 0 where
  pub none : work.bytes ≡ []
  pub reads : IsRead work.numbers work.bytes source source' []
  pub before : work.ended ≡ true → source' ≡ source
  pub now : work.ended ≡ false → IsEnded source' × IfSome source.left (λ bytes. segments_of work.numbers (work.bytes ++ bytes) ≡ [])
  pub after : work' ≡ record work { ended = true }
