use Rattle.std.proofs.Common.{◌≡◌, ℕ, List, [], ◌++◌, sym, ap, ◌∙◌}
use Rattle.std.proofs.lemmas.Result.{on_err_weaker}
use Rattle.outside.proofs.BytesLaws.{AppendsFront-then}
use Rattle.report.specs.JobLine.{job_line}
use Rattle.store_run.specs.EntryLines.{entry_lines}
use Rattle.store_run.specs.JobRun.{append_line}
use Rattle.store_run.proofs.ReportLaws.{lines_cut, lines_done, report_split}
use Rattle.store_run.proofs.ResultLaws.{on_err}
use Rattle.store_run.proofs.reporting.print_report.Goals as goal

pub returns-in_err-print_entries-clause-err : goal.returns-in_err-print_entries-clause-err
returns-in_err-print_entries-clause-err g c =
    on_err c.from_residual.result
    (lines_cut (entry_lines c.args.first c.args.entries.now) (job_line 1 c.args.job.now c.args.answer.now) (append_line c.args.kept.now) c.new-waiting.result.items [] [] c.new-waiting.ensures.items
    (g.O.Sink.written c.args.out.now) (g.O.Sink.written c.print_entries.new.out) c.in_err-print_entries.ensures.err)

pub returns-in_err-line-clause-err : goal.returns-in_err-line-clause-err
returns-in_err-line-clause-err g c =
    let move = c.in_ok-print_entries.ensures.ok in
    on_err c.from_residual-in_err-line.result
    (lines_done (entry_lines c.args.first c.args.entries.now) (job_line 1 c.args.job.now c.args.answer.now) (append_line c.args.kept.now) c.new-waiting.result.items _ move.done c.new-waiting.ensures.items
    (g.O.Sink.written c.args.out.now) (g.O.Sink.written c.print_entries.new.out) move.rest move.written)

pub returns-in_err-extend_from_slice-clause-err : goal.returns-in_err-extend_from_slice-clause-err
returns-in_err-extend_from_slice-clause-err g c =
    let move = c.in_ok-print_entries.ensures.ok in
    on_err c.from_residual-in_err-extend_from_slice.result
    (lines_done (entry_lines c.args.first c.args.entries.now) (job_line 1 c.args.job.now c.args.answer.now) (append_line c.args.kept.now) c.new-waiting.result.items _ move.done c.new-waiting.ensures.items
    (g.O.Sink.written c.args.out.now) (g.O.Sink.written c.print_entries.new.out) move.rest move.written)

pub returns-clause-err : goal.returns-clause-err
returns-clause-err g c =
    let move = c.in_ok-print_entries.ensures.ok in
    let lines = entry_lines c.args.first c.args.entries.now in
    let job = job_line 1 c.args.job.now c.args.answer.now in
    let ending = append_line c.args.kept.now in
    let waits : c.deref.result.now ≡ c.print_entries.new.waiting.items ++ job =
    c.deref.ensures.value ∙ c.in_ok-extend_from_slice.ensures.items ∙ ap (λ (l : List ℕ). c.print_entries.new.waiting.items ++ l) (c.as_bytes.ensures.value ∙ c.in_ok-line.ensures) in
    on_err_weaker c.print_ending.result
    (λ front.
    AppendsFront-then _ _ _ _ move.done (c.deref.result.now ++ ending)
    (report_split lines job ending c.new-waiting.result.items c.print_entries.new.waiting.items move.done c.new-waiting.ensures.items move.rest
    ∙ ap (λ (l : List ℕ). move.done ++ (l ++ ending)) (sym waits))
    move.written front)
    c.print_ending.ensures.err
