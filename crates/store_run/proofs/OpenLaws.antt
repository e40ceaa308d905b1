-- A store that was opened, and how its run ends.
use Rattle.std.proofs.Common.{◌≡◌, ℕ, List, drop, ap, subst}
use Rattle.std.specs.Prelude.{Ok, Err}
use Rattle.journal_entry.specs.declared.entry.Entry.{Entry}
use Rattle.outside.specs.Views.{ShelfView, SinkView}
use Rattle.job_script.specs.declared.job.Job.{Job}
use Rattle.report.specs.declared.answer.JobAnswer.{JobAnswer}
use Rattle.store_core.specs.View.{StateView}
use Rattle.store_run.specs.JobRun.{IsKeptAndReported}
use Rattle.store_run.specs.Opening.{store_limits, Reading, FollowsFrom, Opens}

limits_of : (store : StateView) (reading : Reading) → FollowsFrom reading (Ok store) → store.limits ≡ store_limits
limits_of store (Ok found) follows = ap (λ (view : StateView). view.limits) follows.0
limits_of store (Err fault) follows = absurd (cc)

-- it has the limits of every store
pub opened_limits : (depot depot' : ShelfView) (store : StateView) → Opens depot depot' (Ok store) → store.limits ≡ store_limits
opened_limits depot depot' store opens = limits_of store opens.reads.reading opens.reads.follows

-- what was kept and reported, with the entries and their first number as they are known
pub ending-as : {job : Job} {answer : JobAnswer} {depot depot' : ShelfView} {sink sink' : SinkView} {status first number : ℕ} {behind : List Entry} (entries : List Entry)
    → first ≡ number → drop number entries ≡ behind
    → IsKeptAndReported first (drop first entries) job answer depot depot' sink sink' status → IsKeptAndReported number behind job answer depot depot' sink sink' status
ending-as {job} {answer} {depot} {depot'} {sink} {sink'} {status} {first} {number} {behind} entries same is kept =
    subst (λ (es : List Entry). IsKeptAndReported number es job answer depot depot' sink sink' status) is
    (subst (λ (n : ℕ). IsKeptAndReported n (drop n entries) job answer depot depot' sink sink' status) same kept)
