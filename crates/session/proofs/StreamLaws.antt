-- A stream on its way through a session.
use Rattle.std.proofs.Common.{◌≡◌, ℕ, ◌+◌, ◌-◌, Bool, true, false, List, [], ◌∷◌, ◌++◌, length, refl, sym, ap, ◌∙◌, subst, arith, lit≤, append_assoc, length-append}
use Rattle.std.proofs.KnownBytes.{Consumes-nil, Consumes-trans}
use Rattle.std.proofs.lemmas.Bool.{false≢true}
use Rattle.std.proofs.lemmas.List.{append-nil}
use Rattle.ss_base.specs.declared.profile.Numbers.{Numbers}
use Rattle.journal_entry.specs.declared.entry.Entry.{Entry}
use Rattle.outside.specs.Views.{SourceView, ShelfView, Gives, IsEnded}
use Rattle.segmenter.specs.declared.segment.Segment.{Segment}
use Rattle.segment_reader.specs.Answer.{GaveSegment, GaveNone}
use Rattle.segment_reader.specs.Cause.{EndsFor}
use Rattle.segment_reader.specs.SegmentsOf.{segments_of}
use Rattle.segment_reader.specs.WorkState.{WorkState}
use Rattle.segment_reader.proofs.WholeLaws.{segments_of-nil}
use Rattle.session.specs.Split.{most_bytes, HasSplit, HasGivenAll}
use Rattle.session.specs.Stores.{Reached, HasStored}
use Rattle.segment_reader.specs.declared.fault.NextFault.{NextFault}
use Rattle.depot.specs.declared.fault.BackupFault.{BackupFault}
use Rattle.history_calls.specs.Tokens.{IdleView}
use Rattle.history_calls.specs.SessionSteps.{HasAborted}
use Rattle.segment_store.specs.Loads.{Entries}
use Rattle.session.specs.Causes.{of_next}
use Rattle.session.specs.Stops.{HasGivenUp}
use Rattle.session.specs.Runs.{HasCome, HasStoredStream, HasStoppedStream}
use Rattle.session.specs.Runs.HasStoppedStream.{reading, storing}
use Rattle.session.proofs.StepLaws.{stored_more}

-- nothing was read
abbrev pub nothing_read : Numbers → WorkState
nothing_read n = record { numbers = n; limit = most_bytes; taken = 0; pending = 0; bytes = []; ended = false; spent = false }

pub split_start : (n : Numbers) (source : SourceView) → HasSplit n source source (nothing_read n) []
split_start n source = record {
  got = [];
  gives = Consumes-nil source.left;
  first = λ more ended. refl;
  end = λ ended. absurd (false≢true ended);
  numbers = refl;
  limit = refl;
  taken = refl;
  within = lit≤ tt;
}

module _ (n : Numbers) (source now after : SourceView) (work work' : WorkState) (segments : List (List (List ℕ))) (split : HasSplit n source now work segments) where
  next_first : (segment : Segment) (gave : GaveSegment work work' now after segment) (more : List ℕ) → (work'.ended ≡ true → more ≡ [])
      → segments_of n ((work.bytes ++ gave.got) ++ more) ≡ gave.next.chunks ∷ segments_of n (work'.bytes ++ more)
  next_first segment gave more none =
      subst (λ (m : Numbers). segments_of m ((work.bytes ++ gave.got) ++ more) ≡ gave.next.chunks ∷ segments_of m (work'.bytes ++ more)) split.numbers (gave.next.first more none)

  more_first : (segment : Segment) (gave : GaveSegment work work' now after segment) (more : List ℕ) → (work'.ended ≡ true → more ≡ [])
      → segments_of n ((split.got ++ gave.got) ++ more) ≡ (segments ++ gave.next.chunks ∷ []) ++ segments_of n (work'.bytes ++ more)
  more_first segment gave more none =
      ap (segments_of n) (append_assoc split.got gave.got more)
      ∙ split.first (gave.got ++ more) (λ ended. absurd (false≢true (sym gave.going ∙ ended)))
      ∙ ap (λ (bytes : List ℕ). segments ++ segments_of n bytes) (sym (append_assoc work.bytes gave.got more))
      ∙ ap (λ (rest : List (List (List ℕ))). segments ++ rest) (next_first segment gave more none)
      ∙ sym (append_assoc segments (gave.next.chunks ∷ []) (segments_of n (work'.bytes ++ more)))

  -- one segment more was given
  pub split_more : (segment : Segment) (gave : GaveSegment work work' now after segment) → HasSplit n source after work' (segments ++ gave.next.chunks ∷ [])
  split_more segment gave = record {
    got = split.got ++ gave.got;
    gives = Consumes-trans source.left now.left after.left split.got gave.got split.gives gave.reads.gives;
    first = more_first segment gave;
    end = λ ended. (gave.end ended).0;
    numbers = ap (λ (w : WorkState). w.numbers) gave.after ∙ split.numbers;
    limit = ap (λ (w : WorkState). w.limit) gave.after ∙ split.limit;
    taken = ap (λ (w : WorkState). w.taken) gave.after ∙ ap (λ (k : ℕ). k + length gave.got) split.taken ∙ sym (length-append split.got gave.got);
    within =
        let all = length-append split.got gave.got in
        let taken = split.taken in
        let limit = split.limit in
        let within = gave.within in
        omega (arith, all, taken, limit, within);
  }

  given_now : GaveNone work work' now after → (ended : Bool) → work.ended ≡ ended → IsEnded after
  given_now gave true was = subst IsEnded (sym (gave.before was)) (split.end was)
  given_now gave false was = (gave.now was).0

  -- no segment is left
  pub given_all : GaveNone work work' now after → HasGivenAll n source after segments
  given_all gave = record {
    stream = split.got;
    gives = subst (λ (bytes : List ℕ). Gives source after bytes) (append-nil split.got) (Consumes-trans source.left now.left after.left split.got [] split.gives gave.reads.gives);
    ended = given_now gave work.ended refl;
    within = split.within;
    segments_are =
        ap (segments_of n) (sym (append-nil split.got))
        ∙ split.first [] (λ ended. refl)
        ∙ ap (λ (bytes : List ℕ). segments ++ segments_of n (bytes ++ [])) gave.none
        ∙ ap (λ (rest : List (List (List ℕ))). segments ++ rest) (segments_of-nil n)
        ∙ append-nil segments;
  }

-- How far a session has come with its stream.
pub record IsUnderWay (others : List Entry → Type 0) (standings champions : ℕ) (n : Numbers) (start : Reached) (source now : SourceView) (work : WorkState) (last : Reached) : Type 0 where
  pub segments : List (List (List ℕ))
  pub come : HasCome others standings champions n start source now work segments last

module _ (others : List Entry → Type 0) (standings champions : ℕ) (n : Numbers) (start : Reached) (source : SourceView) where
  pub way_start : (work : WorkState) → work ≡ nothing_read n → IsUnderWay others standings champions n start source source work start
  way_start work is = record {
    segments = [];
    come = record { split = subst (λ (w : WorkState). HasSplit n source source w []) (sym is) (split_start n source); stored = refl };
  }

  module _ (now after : SourceView) (work work' : WorkState) (last : Reached) (way : IsUnderWay others standings champions n start source now work last) where
    pub way_more : (next : Reached) (segment : Segment) (gave : GaveSegment work work' now after segment) → HasStored others standings champions gave.next.chunks last next
        → IsUnderWay others standings champions n start source after work' next
    way_more next segment gave one = record {
      segments = way.segments ++ gave.next.chunks ∷ [];
      come = record {
        split = split_more n source now after work work' way.segments way.come.split segment gave;
        stored = stored_more others standings champions way.segments gave.next.chunks start last next way.come.stored one;
      };
    }

    pub way_end : GaveNone work work' now after → HasStoredStream others standings champions n start source after last
    way_end gave = record {
      segments = way.segments;
      given = given_all n source now after work work' way.segments way.come.split gave;
      stored = way.come.stored;
    }

    -- the next segment was not given, and the session is given up
    pub way_unread : (cause : NextFault) (fault : BackupFault) (idle : IdleView) (shelf : ShelfView) (cache : Entries) → fault ≡ of_next cause → (shelf ≡ last.progress.shelf) × (cache ≡ last.progress.cache)
        → EndsFor cause work.numbers (work.limit - work.taken) work.bytes now after
        → HasAborted others standings champions last.caller last.progress.end.containers last.progress.texts idle
        → HasStoppedStream others standings champions n start source after idle shelf cache fault
    way_unread cause fault idle shelf cache is same ends aborted =
        reading way.segments now work last cause is same way.come
        (subst (λ (limit : ℕ). EndsFor cause n (limit - work.taken) work.bytes now after) way.come.split.limit
        (subst (λ (m : Numbers). EndsFor cause m (work.limit - work.taken) work.bytes now after) way.come.split.numbers ends))
        aborted

    -- it was given, and the session is given up in it
    pub way_unstored : (fault : BackupFault) (idle : IdleView) (shelf : ShelfView) (cache : Entries) (segment : Segment) (gave : GaveSegment work work' now after segment)
        → HasGivenUp others standings champions gave.next.chunks last idle shelf cache fault
        → HasStoppedStream others standings champions n start source after idle shelf cache fault
    way_unstored fault idle shelf cache segment gave given_up =
        storing way.segments gave.next.chunks work' last (split_more n source now after work work' way.segments way.come.split segment gave) way.come.stored given_up
