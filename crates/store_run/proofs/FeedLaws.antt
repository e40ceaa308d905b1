-- How a stream goes on while its bytes come.
use Rattle.std.proofs.Common.{◌≡◌, ℕ, ◌≤◌, ◌<◌, List, [], ◌++◌, length, Option, refl, sym, ap, ◌∙◌, subst, append_assoc}
use Rattle.std.proofs.lemmas.List.{append-nil}
use Rattle.std.specs.Io.KnownBytes.{Consumes, Keeps}
use Rattle.std.proofs.KnownBytes.{Consumes-nil, Consumes-trans, Consumes-kept}
use Rattle.outside.specs.Views.{SourceView, SinkView, Gives, Takes, TakesFront}
use Rattle.store_run.specs.Advances.{AdvancesByLines}
use Rattle.store_run.specs.Lines.{IsLines}
use Rattle.store_run.specs.declared.stop.Stop.TheVariants.{TooLong, Memory, SourceFault}
use Rattle.store_run.specs.Feed.{IsUnderWay, IsCutShort, IsHalted}
use Rattle.store_run.proofs.AdvancesLaws.{advances-cut, advances-end, by_lines-none, by_lines-of, by_lines-then, IsLines-append}

-- nothing was read yet
pub under_way-start : (source : SourceView) (sink : SinkView) (text : List ℕ → List ℕ) → (way : IsUnderWay source source sink sink text text) × (way.bytes ≡ [])
under_way-start source sink text =
    let by = by_lines-none sink.written text text (λ more. refl) in
    (record { bytes = []; taken = Consumes-nil source.left; way = by.way; whole = by.whole }, refl)

-- how what is still to be written went on
by_lines : (source source' : SourceView) (sink sink' : SinkView) (text now : List ℕ → List ℕ) (way : IsUnderWay source source' sink sink' text now) → AdvancesByLines sink.written sink'.written (λ more. text (way.bytes ++ more)) now
by_lines source source' sink sink' text now way = record { way = way.way; whole = way.whole }

module _ (source source' source'' : SourceView) (sink sink' : SinkView) (text now : List ℕ → List ℕ) (piece : List ℕ) (way : IsUnderWay source source' sink sink' text now) (taken : Gives source' source'' piece) where
  -- more bytes were read, and what is still to be written is so in terms of those that follow
  pub under_way-read : (after : List ℕ → List ℕ) → ((more : List ℕ) → after more ≡ now (piece ++ more)) → (next : IsUnderWay source source'' sink sink' text after) × (next.bytes ≡ way.bytes ++ piece)
  under_way-read after same =
      let by = by_lines-of sink.written sink'.written (λ more. text (way.bytes ++ more)) now (λ (more : List ℕ). piece ++ more) (λ more. text (way.bytes ++ piece ++ more)) after
      (λ more. ap text (append_assoc way.bytes piece more)) same (by_lines source source' sink sink' text now way) in (
        record {
          bytes = way.bytes ++ piece;
          taken = Consumes-trans source.left source'.left source''.left way.bytes piece way.taken taken;
          way = by.way;
          whole = by.whole;
        },
        refl,
      )

  -- memory was wanted while this piece was looked at
  pub halted-memory : (limit : ℕ) (waiting later : List ℕ) → now piece ≡ waiting ++ later → IsLines waiting → IsHalted Memory limit source source'' sink sink' text waiting
  halted-memory limit waiting later split lines = record {
    done = way.way.done;
    written_so_far = way.way.written;
    ends = record {
      bytes = way.bytes ++ piece;
      rest = later;
      taken = Consumes-trans source.left source'.left source''.left way.bytes piece way.taken taken;
      front = way.way.rest piece ∙ ap (λ (l : List ℕ). way.way.done ++ l) split ∙ sym (append_assoc way.way.done waiting later);
      whole = IsLines-append way.way.done waiting way.whole lines;
    };
  }

  -- the lines before the piece are whole
  whole_lines : (waiting : List ℕ) → now [] ≡ waiting → way.way.done ++ waiting ≡ text way.bytes
  whole_lines waiting whole = sym (ap text (sym (append-nil way.bytes)) ∙ way.way.rest [] ∙ ap (λ (l : List ℕ). way.way.done ++ l) whole)

  -- the piece went past the limit
  pub halted-limit : (limit : ℕ) (waiting : List ℕ) → now [] ≡ waiting → length way.bytes ≤ limit → limit < length (way.bytes ++ piece) → IsHalted TooLong limit source source'' sink sink' text waiting
  halted-limit limit waiting whole within over = record {
    done = way.way.done;
    written_so_far = way.way.written;
    ends = record {
      bytes = way.bytes;
      piece = piece;
      taken = Consumes-trans source.left source'.left source''.left way.bytes piece way.taken taken;
      within = within;
      over = over;
      all = whole_lines waiting whole;
    };
  }

-- the source failed, and nothing was taken of it
pub halted-fault : (source source' source'' : SourceView) (sink sink' : SinkView) (text now : List ℕ → List ℕ) (way : IsUnderWay source source' sink sink' text now) → Keeps source'.left source''.left
    → (limit : ℕ) (waiting : List ℕ) → now [] ≡ waiting → IsHalted SourceFault limit source source'' sink sink' text waiting
halted-fault source source' source'' sink sink' text now way keeps limit waiting whole = record {
  done = way.way.done;
  written_so_far = way.way.written;
  ends = record {
    bytes = way.bytes;
    taken = Consumes-kept source.left source'.left source''.left way.bytes way.taken keeps;
    all = sym (ap text (sym (append-nil way.bytes)) ∙ way.way.rest [] ∙ ap (λ (l : List ℕ). way.way.done ++ l) whole);
  };
}

-- lines were printed
pub under_way-printed : (source source' : SourceView) (sink sink' sink'' : SinkView) (text now after : List ℕ → List ℕ)
    → (way : IsUnderWay source source' sink sink' text now) → AdvancesByLines sink'.written sink''.written now after
    → (next : IsUnderWay source source' sink sink'' text after) × (next.bytes ≡ way.bytes)
under_way-printed source source' sink sink' sink'' text now after way step =
    let by = by_lines-then sink.written sink'.written sink''.written (λ more. text (way.bytes ++ more)) now after (by_lines source source' sink sink' text now way) step in
    (record { bytes = way.bytes; taken = way.taken; way = by.way; whole = by.whole }, refl)

-- a front of the lines was printed
pub under_way-cut : (source source' : SourceView) (sink sink' sink'' : SinkView) (text now : List ℕ → List ℕ) → IsUnderWay source source' sink sink' text now → TakesFront sink' sink'' (now []) → IsCutShort source source' sink sink'' text
under_way-cut source source' sink sink' sink'' text now way front = record {
  bytes = way.bytes;
  taken = way.taken;
  front = subst (λ (bytes : List ℕ). TakesFront sink sink'' (text bytes)) (append-nil way.bytes) (advances-cut sink.written sink'.written sink''.written _ now [] way.way front);
}

-- all lines were printed
pub under_way-end : (source source' : SourceView) (sink sink' sink'' : SinkView) (text now : List ℕ → List ℕ) (way : IsUnderWay source source' sink sink' text now) → Takes sink' sink'' (now []) → Takes sink sink'' (text way.bytes)
under_way-end source source' sink sink' sink'' text now way last =
    subst (λ (bytes : List ℕ). Takes sink sink'' (text bytes)) (append-nil way.bytes) (advances-end sink.written sink'.written sink''.written _ now [] way.way last)

-- a failed read takes nothing
pub consumes-kept : (left left' : Option (List ℕ)) → Keeps left left' → Consumes left left' []
consumes-kept left left' keeps = Consumes-kept left left left' [] (Consumes-nil left) keeps
