use Rattle.job_entries.proofs.InterleavedLaws.{interleaved-more}
use Rattle.job_entries.proofs.caller.entries_beside_more.Goals as goal

pub returns : goal.returns
returns g c = λ author before after points weaker adds. record {
  added = adds.added;
  interleaved = interleaved-more g.O.Others.others g.P.Others.others author weaker adds.added points adds.interleaved;
  after_is = adds.after_is;
}
