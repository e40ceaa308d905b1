use Rattle.std.proofs.Common.{◌∙◌, arith}
use Rattle.store_run.proofs.AdvancesLaws.{front-none, advances-cut, writes-moves}
use Rattle.store_run.proofs.EntryLineLaws.{lines-first, lines-none, lines-cut, lines-step, advances-moves}
use Rattle.store_run.proofs.ResultLaws.{on_err}
use Rattle.store_run.proofs.listing.print_entries.Goals as goal

pub returns-in_err-line-clause-err : goal.returns-in_err-line-clause-err
returns-in_err-line-clause-err g c = on_err c.from_residual.result (advances-cut _ _ _ _ _ tt c.loop-entry.invariant.way (front-none _ _))

pub returns-in_err-print_text-clause-err : goal.returns-in_err-print_text-clause-err
returns-in_err-print_text-clause-err g c =
    let is = rw c.in-Some.is at c.split_first.ensures.cases in
    on_err c.from_residual-in_err-print_text.result
    (lines-cut _ _ _ _ _ _ _ _ c.loop-entry.invariant.way
    (lines-first c.loop-entry.number c.loop-entry.rest.now c.in-Some.entry.now c.in-Some.behind.now c.as_bytes.result.now is.0 (c.as_bytes.ensures.value ∙ c.in_ok-line.ensures))
    c.in_err-print_text.ensures.err)

pub loop-entry-preserved : goal.loop-entry-preserved
loop-entry-preserved g c =
    let is = rw c.in-Some.is at c.split_first.ensures.cases in
    let line = lines-first c.loop-entry.number c.loop-entry.rest.now c.in-Some.entry.now c.in-Some.behind.now c.as_bytes.result.now is.0 (c.as_bytes.ensures.value ∙ c.in_ok-line.ensures) in
    record {
      few = omega (arith, is.1, c.loop-entry.invariant.few);
      way = lines-step _ _ _ _ _ _ _ _ _ c.loop-entry.invariant.way line (writes-moves _ _ _ _ _ c.in_ok-print_text.ensures.ok);
      count = c.in_ok-print_text.ensures.cause.quiet ∙ c.loop-entry.invariant.count;
    }

pub returns-clause-ok : goal.returns-clause-ok
returns-clause-ok g c =
    let none = rw c.in_default.is at c.split_first.ensures.cases in
    advances-moves _ _ _ _ _ _ c.loop-entry.invariant.way (lines-none c.loop-entry.number c.loop-entry.rest.now none)
