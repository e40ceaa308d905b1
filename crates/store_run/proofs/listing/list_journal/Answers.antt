use Rattle.std.proofs.Common.{List, refl, subst}
use Rattle.journal_entry.specs.declared.entry.Entry.{Entry}
use Rattle.outside.specs.Views.{sink_view, Takes, TakesFront}
use Rattle.store_run.specs.EntryLines.{entry_lines}
use Rattle.store_run.specs.Listing.{listed, not_opened, line_failed, line_wanted_memory}
use Rattle.store_run.proofs.listing.list_journal.Goals as goal

pub returns-in-Err : goal.returns-in-Err
returns-in-Err g c = not_opened c.in-Err.why c.in-Err.ensures c.refuse.ensures

pub returns-in-Ok-print_all : goal.returns-in-Ok-print_all
returns-in-Ok-print_all g c =
    let shown = sink_view g.O.Sink in
    let printed = c.in-Ok-print_all.ensures in
    listed c.in-Ok.state refl c.in-Ok.ensures
    (subst (λ (entries : List Entry). Takes (shown c.args.out.now) (shown c.print_all.new.out) (entry_lines 0 entries)) c.entries.ensures.entries printed.ok)
    printed.cause.quiet

pub returns-in-Err-Memory : goal.returns-in-Err-Memory
returns-in-Err-Memory g c =
    let shown = sink_view g.O.Sink in
    let printed = rw c.in-Err-Memory.field-0-is at c.in-Err-Memory.ensures in
    line_wanted_memory c.in-Ok.state refl c.in-Ok.ensures
    (subst (λ (entries : List Entry). TakesFront (shown c.args.out.now) (shown c.print_all.new.out) (entry_lines 0 entries)) c.entries.ensures.entries printed.err)
    printed.cause.quiet

pub returns : goal.returns
returns g c =
    let shown = sink_view g.O.Sink in
    let printed = rw c.in-Err-Fault.field-0-is at c.in-Err-Fault.ensures in
    line_failed c.in-Ok.state refl c.in-Ok.ensures
    (subst (λ (entries : List Entry). TakesFront (shown c.args.out.now) (shown c.print_all.new.out) (entry_lines 0 entries)) c.entries.ensures.entries printed.err)
    (printed.cause.fault refl)
