-- Laws of what a call reads.
use Rattle.std.proofs.Common.{◌≡◌, ℕ, ◌+◌, ◌*◌, ◌<◌, ◌≤◌, true, false, List, [], ◌++◌, length, Option, Some, None, refl, sym, ap, ◌∙◌, subst, arith, lit≤, append_assoc, length-append}
use Rattle.std.specs.Prelude.{MatchOption}
use Rattle.std.specs.Io.KnownBytes.{Keeps}
use Rattle.std.proofs.KnownBytes.{Consumes-trans, Consumes-kept}
use Rattle.std.proofs.lemmas.Bool.{false≢true}
use Rattle.std.proofs.lemmas.List.{append-nil}
use Rattle.ss_base.specs.declared.profile.Numbers.{Numbers}
use Rattle.outside.specs.Views.{SourceView, Gives, IsEnded}
use Rattle.outside.specs.declared.trouble.Trouble.{Trouble}
use Rattle.outside.specs.declared.trouble.Trouble.TheVariants as trouble
use Rattle.segmenter.specs.declared.segment.Segment.{Segment}
use Rattle.segment_reader.specs.declared.grouping.Grouping.{Grouping}
use Rattle.segment_reader.specs.Grouping.{numbers_in, bytes_in, HasNone}
use Rattle.segment_reader.specs.Whole.{has_segment, above_pending}
use Rattle.segment_reader.specs.Next.{IsNext}
use Rattle.segment_reader.specs.Reads.{read, IsRead}
use Rattle.segment_reader.specs.Cause.{next_fault, EndsWithin, EndsAbove, EndsFor}
use Rattle.segment_reader.specs.Found.{HasFound}

-- so many bytes were read, and now these pend
pub record IsReadSoFar (n : Numbers) (before now : List ℕ) (source source' : SourceView) (count : ℕ) : Type 0 where
  pub got : List ℕ
  pub reads : IsRead n before source source' got
  pub bytes : now ≡ before ++ got
  pub number : count ≡ length got

module _ (n : Numbers) (before now : List ℕ) (source source' source'' : SourceView) (count : ℕ) (so : IsReadSoFar n before now source source' count) (none : has_segment n now ≡ false) where
  none_before : has_segment n (before ++ so.got) ≡ false
  none_before = subst (λ (l : List ℕ). has_segment n l ≡ false) so.bytes none

  -- one more piece was read
  pub reads-piece : (piece : List ℕ) → Gives source' source'' piece → length piece ≤ 65536 → IsRead n before source source'' (so.got ++ piece)
  reads-piece piece gives most = record {
    gives = Consumes-trans source.left source'.left source''.left so.got piece so.reads.gives gives;
    late = read so.got piece refl most none_before;
  }

  -- a read gave nothing
  pub reads-nothing : Keeps source'.left source''.left → IsRead n before source source'' so.got
  reads-nothing keeps = record {
    gives = Consumes-kept source.left source'.left source''.left so.got so.reads.gives keeps;
    late = read so.got [] (sym (append-nil so.got)) (lit≤ tt) none_before;
  }

  -- a read gave the end
  pub reads-end : Gives source' source'' [] → IsRead n before source source'' so.got
  reads-end gives = subst (IsRead n before source source'') (append-nil so.got) (reads-piece [] gives (lit≤ tt))

  pub so_far-more : (piece now' : List ℕ) (count' : ℕ) → Gives source' source'' piece → length piece ≤ 65536 → now' ≡ now ++ piece → count' ≡ count + length piece → IsReadSoFar n before now' source source'' count'
  so_far-more piece now' count' gives most is number = record {
    got = so.got ++ piece;
    reads = reads-piece piece gives most;
    bytes = is ∙ ap (λ (l : List ℕ). l ++ piece) so.bytes ∙ append_assoc before so.got piece;
    number = omega (arith, length-append so.got piece, so.number);
  }

  -- the read failed
  pub ends-failed : (room : ℕ) → Keeps source'.left source''.left → count ≤ room → EndsWithin n room before source source''
  ends-failed room keeps within = record { got = so.got; reads = reads-nothing keeps; within = omega (arith, so.number) }

  -- memory was wanted behind the end
  pub ends-end : (room : ℕ) → Gives source' source'' [] → count ≤ room → EndsWithin n room before source source''
  ends-end room gives within = record { got = so.got; reads = reads-end gives; within = omega (arith, so.number) }

  -- memory was wanted for the piece
  pub ends-piece : (room : ℕ) (piece : List ℕ) → Gives source' source'' piece → length piece ≤ 65536 → count + length piece ≤ room → EndsWithin n room before source source''
  ends-piece room piece gives most within = record {
    got = so.got ++ piece;
    reads = reads-piece piece gives most;
    within = omega (arith, length-append so.got piece, so.number);
  }

  -- there was no room for the piece
  pub ends-above : (room : ℕ) (piece : List ℕ) → Gives source' source'' piece → length piece ≤ 65536 → count ≤ room → room < count + length piece → EndsAbove n room before source source''
  ends-above room piece gives most within over = record {
    got = so.got;
    piece = piece;
    reads = reads-piece piece gives most;
    within = omega (arith, so.number);
    over = omega (arith, length-append so.got piece, so.number);
  }

  -- the stream ended
  pub found-end : (room : ℕ) (after : List ℕ) (segment : Option Segment) → Gives source' source'' [] → IsEnded source'' → count ≤ room → after ≡ []
      → MatchOption segment (now ≡ []) (λ s. IsNext n true s now []) → HasFound n room before after source source'' (record { segment = segment; read = count; ended = true })
  found-end room after segment gives ended within is last = record {
    got = so.got;
    reads = reads-end gives;
    count = so.number;
    within = within;
    end = λ _. (ended, is);
    next = next_of segment last;
  }
    where
      next_of : (segment : Option Segment) → MatchOption segment (now ≡ []) (λ s. IsNext n true s now []) → MatchOption segment ((true ≡ true) × (before ++ so.got ≡ [])) (λ s. IsNext n true s (before ++ so.got) after)
      next_of None last = (refl, sym so.bytes ∙ last)
      next_of (Some s) last = subst (λ (l : List ℕ). IsNext n true s (before ++ so.got) l) (sym is) (subst (λ (l : List ℕ). IsNext n true s l []) so.bytes last)

module _ (n : Numbers) (before now : List ℕ) (source source' : SourceView) (count : ℕ) (so : IsReadSoFar n before now source source' count) where
  -- memory was wanted before a read
  pub ends-unread : (room : ℕ) → count ≤ room → EndsWithin n room before source source'
  ends-unread room within = record { got = so.got; reads = so.reads; within = omega (arith, so.number) }

  -- a segment is whole
  pub found-whole : (room : ℕ) (after : List ℕ) (segment : Segment) → count ≤ room → IsNext n false segment now after → HasFound n room before after source source' (record { segment = Some segment; read = count; ended = false })
  found-whole room after segment within next = record {
    got = so.got;
    reads = so.reads;
    count = so.number;
    within = within;
    end = λ ended. absurd (false≢true ended);
    next = subst (λ (l : List ℕ). IsNext n false segment l after) so.bytes next;
  }

-- what a stream with no whole segment says by the numbers that it began with
pub none_whole : (g : Grouping) (n : Numbers) → numbers_in g ≡ n → HasNone g → has_segment n (bytes_in g) ≡ false
none_whole g n same none = subst (λ (m : Numbers). has_segment m (bytes_in g) ≡ false) same none.segment

-- with one more piece fewer bytes pend than may ever
pub few_more : (g : Grouping) (n : Numbers) (piece now : List ℕ) → numbers_in g ≡ n → HasNone g → length piece ≤ 65536 → now ≡ bytes_in g ++ piece → length now < above_pending n
few_more g n piece now same none most is =
    let few : length (bytes_in g) < n.smax * n.tmax = subst (λ (m : Numbers). length (bytes_in g) < m.smax * m.tmax) same none.few in
    omega (arith, few, most, ap length is, length-append (bytes_in g) piece)

-- the trouble of a source is no cause of `TooLong`
pub ends-trouble : (t : Trouble) (n : Numbers) (room : ℕ) (before : List ℕ) (source source' : SourceView) → EndsWithin n room before source source' → EndsFor (next_fault t) n room before source source'
ends-trouble trouble.Fault n room before source source' ends = ends
ends-trouble trouble.Memory n room before source source' ends = ends
