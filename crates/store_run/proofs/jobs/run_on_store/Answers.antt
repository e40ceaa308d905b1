use Rattle.std.proofs.Common.{◌≡◌, length, map, subst, refl, drop, sym, ap, ◌∙◌, arith, length-append}
use Rattle.std.proofs.Math.Seq.{drop-append_seam}
use Rattle.outside.specs.Views.{shelf_view}
use Rattle.lru.specs.LruCache.{LruCache}
use Rattle.ss_base.specs.declared.ids.ManifestId.{ManifestId}
use Rattle.store_core.specs.View.{StateView, made}
use Rattle.restore.specs.Copies.{Shelves}
use Rattle.manifest_cache.specs.Cached.{CachedView}
use Rattle.segment_store.specs.Loads.{Entries}
use Rattle.job_run.specs.Jobs.{CommandDone}
use Rattle.store_run.specs.JobRun.JobRun.{ran, not_opened, no_author, no_cache}
use Rattle.store_run.proofs.CallLaws.{job-calls}
use Rattle.store_run.proofs.OpenLaws.{opened_limits, ending-as}
use Rattle.store_run.proofs.jobs.run_on_store.Goals as goal

pub returns-in-Err : goal.returns-in-Err
returns-in-Err g c = not_opened c.in-Err.why c.in-Err.ensures refl c.refuse.ensures

pub returns-in_default : goal.returns-in_default
returns-in_default g c = no_author c.in-Ok.state c.in-Ok.ensures (sym c.next_author.ensures ∙ c.in_default.is) refl c.refuse-in_default.ensures

pub returns-in_default-new : goal.returns-in_default-new
returns-in_default-new g c = no_cache c.in-Ok.state c.in-Ok.ensures refl c.refuse-in_default-new.ensures

pub keep_and_report-requires-clause-first : goal.keep_and_report-requires-clause-first
keep_and_report-requires-clause-first g c =
    let calls = job-calls c.in-Some.author c.in-Ok.state c.run_command-answer.new.state c.args.kind _ _ _ _ c.run_command-answer.result (c.run_command-answer.ensures.done) in
    let all = ap (λ (state : StateView). length state.entries) calls.added in
    let sum = length-append c.in-Ok.state.entries (map (made c.in-Some.author) calls.points) in
    omega (arith, all, sum, ap length c.entries-first.ensures.entries)

pub keep_and_report-requires-clause-limits : goal.keep_and_report-requires-clause-limits
keep_and_report-requires-clause-limits g c =
    let calls = job-calls c.in-Some.author c.in-Ok.state c.run_command-answer.new.state c.args.kind _ _ _ _ c.run_command-answer.result (c.run_command-answer.ensures.done) in
    ap (λ (state : StateView). state.limits) calls.added ∙ opened_limits _ _ c.in-Ok.state c.in-Ok.ensures

pub returns : goal.returns
returns g c =
    let store = c.in-Ok.state in
    let author = c.in-Some.author in
    let new = c.run_command-answer.new.state in
    let calls = job-calls author store new c.args.kind _ _ _ _ c.run_command-answer.result (c.run_command-answer.ensures.done) in
    let first : length c.entries-first.result.now ≡ length store.entries = ap length c.entries-first.ensures.entries in
    let behind : drop (length store.entries) new.entries ≡ map (made author) calls.points =
    ap (λ (state : StateView). drop (length store.entries) state.entries) calls.added ∙ drop-append_seam store.entries (map (made author) calls.points) in
    let opened : Shelves = record { files = shelf_view g.F.Shelf c.args.files.now; depot = shelf_view g.K.Shelf c.open.new.depot } in
    let done : Shelves = record { files = shelf_view g.F.Shelf c.run_command-answer.new.files; depot = shelf_view g.K.Shelf c.run_command-answer.new.depot } in
    ran
    (record {
      store = store;
      opened = opened;
      opens = c.in-Ok.ensures;
      files_same = refl;
      author = author;
      author_is = sym c.next_author.ensures ∙ c.in-Some.is;
      new = new;
      done = done;
      answer = c.run_command-answer.result;
      cache = c.run_command-answer.new.cache.entries;
      job =
          subst (λ (es : Entries). CommandDone 8 8 author c.args.kind store new opened done es c.run_command-answer.new.cache.entries c.run_command-answer.result)
          (ap (λ (held : LruCache ManifestId CachedView). held.entries) c.in-Ok-new.ensures) c.run_command-answer.ensures.done;
      points = calls.points;
      calls = calls.calls;
      added = calls.added;
      legal = c.keep_and_report.ensures.legal;
      files_kept = refl;
      ending = ending-as new.entries first behind c.keep_and_report.ensures.kept;
    })
