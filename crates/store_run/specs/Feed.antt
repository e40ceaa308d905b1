-- What a run takes of its source, and what becomes of it (this project's own).
use Rattle.std.specs.Prelude.{◌≡◌, ℕ, ◌^◌, ◌<◌, ◌≤◌, List, ◌++◌, length}
use Rattle.outside.specs.Views.{SourceView, SinkView, Gives, IsEnded, Takes, TakesFront}
use Rattle.store_run.specs.Advances.{Advances}
use Rattle.store_run.specs.Lines.{IsLines}
use Rattle.store_run.specs.declared.stop.Stop.{Stop}
use Rattle.store_run.specs.declared.stop.Stop.TheVariants.{TooLong, Memory, SourceFault}

-- the greatest number of bytes of a stream
abbrev pub max_stream : ℕ
max_stream = 2 ^ 40

-- the source gave these bytes, which are at most limit, and ended
pub record GaveAll (limit : ℕ) (source source' : SourceView) (bytes : List ℕ) : Type 0 where
  pub taken : Gives source source' bytes
  pub end : IsEnded source'
  pub within : length bytes ≤ limit

-- the source gave all its bytes, and the text of the stream of just these was written
pub record IsPrinted (limit : ℕ) (source source' : SourceView) (sink sink' : SinkView) (text : List ℕ → List ℕ) : Type 0 where
  pub bytes : List ℕ
  pub gave : GaveAll limit source source' bytes
  pub whole : Takes sink sink' (text bytes)

-- the source gave some bytes, and what is still to be written went on, by whole lines, to what is left of it
pub record IsUnderWay (source source' : SourceView) (sink sink' : SinkView) (text left_text : List ℕ → List ℕ) : Type 0 where
  pub bytes : List ℕ
  pub taken : Gives source source' bytes
  pub way : Advances sink.written sink'.written (λ more. text (bytes ++ more)) left_text
  pub whole : IsLines way.done

-- the source gave some bytes, and a front of the text of these was written
pub record IsCutShort (source source' : SourceView) (sink sink' : SinkView) (text : List ℕ → List ℕ) : Type 0 where
  pub bytes : List ℕ
  pub taken : Gives source source' bytes
  pub front : TakesFront sink sink' (text bytes)

-- The source gave a piece more than limit allows. The lines are those of the bytes before this piece.
pub record EndsAtLimit (limit : ℕ) (source source' : SourceView) (text : List ℕ → List ℕ) (lines : List ℕ) : Type 0 where
  pub bytes : List ℕ
  pub piece : List ℕ
  pub taken : Gives source source' (bytes ++ piece)
  pub within : length bytes ≤ limit
  pub over : limit < length (bytes ++ piece)
  pub all : lines ≡ text bytes

-- The source failed. The lines are those of the bytes that it gave.
pub record EndsAtFault (source source' : SourceView) (text : List ℕ → List ℕ) (lines : List ℕ) : Type 0 where
  pub bytes : List ℕ
  pub taken : Gives source source' bytes
  pub all : lines ≡ text bytes

-- Memory was wanted. The lines are whole, and a front of those of the bytes that the source gave.
pub record EndsForMemory (source source' : SourceView) (text : List ℕ → List ℕ) (lines : List ℕ) : Type 0 where
  pub bytes : List ℕ
  pub rest : List ℕ
  pub taken : Gives source source' bytes
  pub front : text bytes ≡ lines ++ rest
  pub whole : IsLines lines

-- what a cause for which the printing of a stream ends early says of the bytes and the lines
abbrev pub EndsFor : Stop → ℕ → SourceView → SourceView → (List ℕ → List ℕ) → List ℕ → Type 0
EndsFor TooLong limit source source' text lines = EndsAtLimit limit source source' text lines
EndsFor SourceFault limit source source' text lines = EndsAtFault source source' text lines
EndsFor Memory limit source source' text lines = EndsForMemory source source' text lines
EndsFor _ limit source source' text lines = ⊥

-- A stream's printing ended early. Of its lines a front was written, and the others wait.
pub record IsHalted (why : Stop) (limit : ℕ) (source source' : SourceView) (sink sink' : SinkView) (text : List ℕ → List ℕ) (waiting : List ℕ) : Type 0 where
  pub done : List ℕ
  pub written_so_far : Takes sink sink' done
  pub ends : EndsFor why limit source source' text (done ++ waiting)
