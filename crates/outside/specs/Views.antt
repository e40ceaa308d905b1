-- What is observed of a source, a sink and a shelf, each as one record (this project's own).
use Rattle.std.specs.Prelude.{◌≡◌, ℕ, Bool, List, Option, IsTrue}
use Rattle.std.specs.Io.KnownBytes.{Consumes, Appends, IsAtEnd}
use Rattle.outside.specs.Bytes.{AppendsFront}
use Rattle.outside.specs.Faults.{Rose}
use Rattle.outside.specs.Shelf.{Objects, Given, Written}
use Rattle.outside.specs.declared.source.Source as source
use Rattle.outside.specs.declared.sink.Sink as sink
use Rattle.outside.specs.declared.shelf.Shelf as shelf

-- a source: the bytes still to come, whether the end was answered, how often it failed
pub record SourceView : Type 0 where
  pub left : Option (List ℕ)
  pub ended : Bool
  pub faults : ℕ

-- a sink: the bytes written so far, how often it failed
pub record SinkView : Type 0 where
  pub written : Option (List ℕ)
  pub faults : ℕ

-- a shelf: its objects, what a recording one tells of its calls, how many reads were made, how often it failed
pub record ShelfView : Type 0 where
  pub held : Option Objects
  pub gave : Option (List Given)
  pub wrote : Option (List Written)
  pub erased : Option (List (List ℕ))
  pub reads : ℕ
  pub faults : ℕ

-- What is observed of a value by the meanings of its trait. A clause of a function over `S: Source` writes them
-- `⟦<S as Source>⟧`.
abbrev pub source_view : {S : Type 0} → source.Ghosts S → S → SourceView
source_view meanings s = record { left = meanings.left s; ended = meanings.ended s; faults = meanings.faults s }

abbrev pub sink_view : {O : Type 0} → sink.Ghosts O → O → SinkView
sink_view meanings o = record { written = meanings.written o; faults = meanings.faults o }

abbrev pub shelf_view : {F : Type 0} → shelf.Ghosts F → F → ShelfView
shelf_view meanings f = record {
  held = meanings.held f;
  gave = meanings.gave f;
  wrote = meanings.wrote f;
  erased = meanings.erased f;
  reads = meanings.reads f;
  faults = meanings.faults f;
}

-- it failed in between
abbrev pub SourceFailed : SourceView → SourceView → Type 0
SourceFailed before after = Rose before.faults after.faults

abbrev pub SinkFailed : SinkView → SinkView → Type 0
SinkFailed before after = Rose before.faults after.faults

abbrev pub ShelfFailed : ShelfView → ShelfView → Type 0
ShelfFailed before after = Rose before.faults after.faults

-- the source gave these bytes
abbrev pub Gives : SourceView → SourceView → List ℕ → Type 0
Gives before after bytes = Consumes before.left after.left bytes

-- the source answered its end
pub record IsEnded (after : SourceView) : Type 0 where
  pub answered : IsTrue after.ended
  pub none_left : IsAtEnd after.left

-- the sink was given these bytes, or a front of them, perhaps none
abbrev pub Takes : SinkView → SinkView → List ℕ → Type 0
Takes before after bytes = Appends before.written after.written bytes

abbrev pub TakesFront : SinkView → SinkView → List ℕ → Type 0
TakesFront before after bytes = AppendsFront before.written after.written bytes

-- no call but reads was made on the shelf that shows in what it tells
pub record OnlyReads (before after : ShelfView) : Type 0 where
  pub held : after.held ≡ before.held
  pub wrote : after.wrote ≡ before.wrote
  pub erased : after.erased ≡ before.erased
