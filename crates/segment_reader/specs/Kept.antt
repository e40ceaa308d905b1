-- How a work keeps its stream.
use Rattle.std.specs.Prelude.{◌≡◌, ◌<◌, ◌≤◌, true, false, if◌then◌else◌, [], length}
use Rattle.segment_reader.specs.Whole.{above_pending}
use Rattle.segment_reader.specs.Grouping.{numbers_in, bytes_in, IsInStep}
use Rattle.segment_reader.specs.WorkState.{WorkState}
use Rattle.segment_reader.specs.declared.work.Work.TheInside.{Inside}

abbrev pub seen : Inside → WorkState
seen w = record {
  numbers = numbers_in w.stream;
  limit = w.limit;
  taken = w.taken;
  pending = w.pending;
  bytes = if w.spent then [] else bytes_in w.stream;
  ended = w.ended;
  spent = w.spent;
}

-- the stream goes on, and the number of its pending bytes is right; none pend behind its end
pub record IsLive (w : Inside) : Type 0 where
  pub in_step : IsInStep w.stream
  pub count : w.pending ≡ length (bytes_in w.stream)
  pub end : w.ended ≡ true → bytes_in w.stream ≡ []

-- the numbers are within their bounds, and the stream goes on where no call has failed
pub record IsKept (w : Inside) : Type 0 where
  pub within : w.taken ≤ w.limit
  pub held : w.pending ≤ w.taken
  pub few : w.pending < above_pending (numbers_in w.stream)
  pub live : w.spent ≡ false → IsLive w
