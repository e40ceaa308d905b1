use Rattle.std.proofs.Common.{ℕ, List, All, drop, length, sym, ap, ◌∙◌, subst, arith}
use Rattle.journal_entry.specs.declared.entry.Entry.{Entry}
use Rattle.journal_entry.specs.Bounds.{IsWithinBounds}
use Rattle.history.specs.declared.rules.Limits.{Limits}
use Rattle.outside.specs.Views.{shelf_view, sink_view}
use Rattle.store_run.specs.JobRun.{run_status, report_text, IsKeptAndReported}
use Rattle.store_run.proofs.KeepLaws.{few_entries, bounded_from, keeps_so, prints_so}
use Rattle.store_run.proofs.jobs.keep_and_report.Goals as goal

pub append-kept-requires : goal.append-kept-requires
append-kept-requires g c =
    subst (λ (entries : List Entry). All IsWithinBounds entries) (sym (c.split_at.ensures.back ∙ ap (drop c.args.first) c.entries.ensures.entries)) (bounded_from c.args.state.now c.args.first c.entries.ensures.legal)

pub overflow_cast-first : goal.overflow_cast-first
overflow_cast-first g c =
    let few = few_entries c.args.state.now c.entries.ensures.legal in
    let limit = ap (λ (l : Limits). l.entries) c.requires.limits in
    let first = c.requires.first in
    omega (arith, few, limit, first)

pub print_report-printed-requires : goal.print_report-printed-requires
print_report-printed-requires g c =
    let few = few_entries c.args.state.now c.entries.ensures.legal in
    let limit = ap (λ (l : Limits). l.entries) c.requires.limits in
    let first = c.requires.first in
    let all = ap length c.entries.ensures.entries in
    omega (arith, few, limit, first, all, c.split_at.ensures.back_len)

pub returns-clause-kept : goal.returns-clause-kept
returns-clause-kept g c =
    let depot = shelf_view g.K.Shelf c.args.depot.now in
    let depot' = shelf_view g.K.Shelf c.append-kept.new.shelf in
    let sink = sink_view g.O.Sink c.args.out.now in
    let sink' = sink_view g.O.Sink c.print_report-printed.new.out in
    let kept = c.append-kept.ensures in
    let printed = c.print_report-printed.ensures in
    subst (λ (entries : List Entry). IsKeptAndReported c.args.first entries c.args.job.now c.args.answer.now depot depot' sink sink' c.status_of_run.result)
    (c.split_at.ensures.back ∙ ap (drop c.args.first) c.entries.ensures.entries)
    (record {
      fit = kept.entries;
      kept = c.append-kept.result;
      keeps = keeps_so depot depot' c.split_at.result.1.now c.append-kept.result kept.held kept.wrote kept.gave kept.erased kept.reads kept.count;
      keep_count = kept.count;
      printed = c.print_report-printed.result;
      prints = prints_so (report_text c.args.first c.split_at.result.1.now c.args.job.now c.args.answer.now c.append-kept.result) sink sink' c.print_report-printed.result printed.ok printed.err;
      print_count = printed.cause;
      status_is = c.status_of_run.ensures ∙ ap (λ (job : ℕ). run_status job c.append-kept.result c.print_report-printed.result) c.status_of.ensures;
    })
