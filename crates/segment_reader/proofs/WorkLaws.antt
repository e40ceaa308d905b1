-- Laws of a work and its calls.
use Rattle.std.proofs.Common.{◌≡◌, ℕ, ◌+◌, ◌-◌, ◌<◌, ◌≤◌, false, [], length, Option, Some, None, refl, sym, ap, ◌∙◌, subst, arith, if◌then◌else◌}
use Rattle.std.specs.Prelude.{IfSome, IfNone}
use Rattle.outside.specs.Views.{SourceView}
use Rattle.segmenter.specs.declared.segment.Segment.{Segment}
use Rattle.segment_reader.specs.declared.grouping.Grouping.{Grouping}
use Rattle.segment_reader.specs.declared.reading.Found.{Found}
use Rattle.segment_reader.specs.declared.work.Work.TheInside.{Inside}
use Rattle.segment_reader.specs.Whole.{above_pending}
use Rattle.segment_reader.specs.Grouping.{numbers_in, bytes_in, IsInStep}
use Rattle.segment_reader.specs.Found.{HasFound}
use Rattle.segment_reader.specs.WorkState.{WorkState}
use Rattle.segment_reader.specs.Answer.{GaveSegment, GaveNone}
use Rattle.segment_reader.specs.Kept.{seen, IsLive, IsKept}
use Rattle.segment_reader.proofs.AnswerLaws.{answered, HasLen, gave-segment, gave-none, pending-after, len-within}

-- by cases on an answer
pub some_of : {P : Segment → Type 0} (found : Option Segment) → ((s : Segment) → found ≡ Some s → P s) → IfSome found P
some_of None f = tt
some_of (Some s) f = f s refl

pub none_of : {P : Type 0} (found : Option Segment) → (found ≡ None → P) → IfNone found P
none_of None f = f refl
none_of (Some s) f = tt

pub has_len : (found : Option Segment) (len : ℕ) → IfNone found (len ≡ 0) → IfSome found (λ s. len ≡ length s.bytes.items) → HasLen found len
has_len None len none some = none
has_len (Some s) len none some = some

-- what is kept after an answer
abbrev pub behind : Inside → Grouping → Found → ℕ → Inside
behind w stream found len = record {
  stream = stream;
  limit = w.limit;
  taken = w.taken + found.read;
  pending = w.pending + found.read - len;
  ended = found.ended;
  spent = false;
}

module _ (w : Inside) (old : WorkState) (seen_is : seen w ≡ old) (kept : IsKept w) (unspent : old.spent ≡ false) where
  is_unspent : w.spent ≡ false
  is_unspent = ap (λ (v : WorkState). v.spent) seen_is ∙ unspent

  pub live : IsLive w
  live = kept.live is_unspent

  -- what contracts see where no call has failed
  abbrev state : WorkState
  state = record { numbers = numbers_in w.stream; limit = w.limit; taken = w.taken; pending = w.pending; bytes = bytes_in w.stream; ended = w.ended; spent = false }

  state_is : state ≡ old
  state_is =
      let same : seen w ≡ state = λ i. record { numbers = numbers_in w.stream; limit = w.limit; taken = w.taken; pending = w.pending; bytes = if is_unspent i then [] else bytes_in w.stream; ended = w.ended; spent = is_unspent i } in
      sym same ∙ seen_is

  module _ (stream : Grouping) (found : Found) (len : ℕ) (source source' : SourceView) (numbers : numbers_in stream ≡ numbers_in w.stream)
      (has : HasFound (numbers_in w.stream) (w.limit - w.taken) (bytes_in w.stream) (bytes_in stream) source source' found) (is : HasLen found.segment len) where
    pub pending_is : w.pending + found.read - len ≡ length (bytes_in stream)
    pending_is = pending-after state (bytes_in stream) source source' kept.within found len is has live.count

    pub len_fits : len ≤ w.pending + found.read
    len_fits = len-within state (bytes_in stream) source source' kept.within found len is has live.count

    answered_is : answered state found (bytes_in stream) ≡ seen (behind w stream found len)
    answered_is = λ i. record {
      numbers = sym numbers i;
      limit = w.limit;
      taken = w.taken + found.read;
      pending = sym pending_is i;
      bytes = bytes_in stream;
      ended = found.ended;
      spent = false;
    }

    pub gives_some : w.ended ≡ false → (segment : Segment) → found.segment ≡ Some segment → GaveSegment old (seen (behind w stream found len)) source source' segment
    gives_some going segment some =
        subst (λ (v : WorkState). GaveSegment v (seen (behind w stream found len)) source source' segment) state_is
        (subst (λ (v : WorkState). GaveSegment state v source source' segment) answered_is
        (gave-segment state (bytes_in stream) source source' kept.within found segment some has going))

    pub gives_none : w.ended ≡ false → found.segment ≡ None → GaveNone old (seen (behind w stream found len)) source source'
    gives_none going none =
        subst (λ (v : WorkState). GaveNone v (seen (behind w stream found len)) source source') state_is
        (subst (λ (v : WorkState). GaveNone state v source source') answered_is
        (gave-none state (bytes_in stream) source source' kept.within found none has going live.count))

    pub few_pend : length (bytes_in stream) < above_pending (numbers_in w.stream) → w.pending + found.read - len < above_pending (numbers_in stream)
    few_pend few = subst (λ n. w.pending + found.read - len < above_pending n) (sym numbers) (subst (λ (k : ℕ). k < above_pending (numbers_in w.stream)) (sym pending_is) few)

    pub kept_behind : IsInStep stream → length (bytes_in stream) < above_pending (numbers_in w.stream) → IsKept (behind w stream found len)
    kept_behind step few = record {
      within = omega (arith, has.within, kept.within);
      held = omega (arith, kept.held);
      few = few_pend few;
      live = λ _. record { in_step = step; count = pending_is; end = λ ended. (has.end ended).1 };
    }
