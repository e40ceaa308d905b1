use Rattle.std.proofs.Common.{sym, ap, ◌∙◌}
use Rattle.std.specs.List.{sum_by}
use Rattle.std.proofs.lemmas.List.{take_all}
use Rattle.journal_entry.specs.declared.entry.Entry.{Entry}
use Rattle.history.specs.TotalsOf.{objects_named}
use Rattle.history.proofs.Scans.{sum_by-reverse}
use Rattle.history.proofs.totals_scan.reclaimed.Goals as goal

pub returns : goal.returns
returns c =
    let entries = c.args.entries.now in
    let part = λ (entry : Entry). objects_named entry.point in
    c.loop-entry.invariant.0
    ∙ ap (sum_by part) (take_all c.loop-entry.entry-index entries c.loop-entry-test.false)
    ∙ sym (sum_by-reverse part entries)
