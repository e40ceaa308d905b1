use Rattle.std.proofs.Common.{reverse, sym, ap, ◌∙◌}
use Rattle.std.specs.List.{count_by}
use Rattle.std.proofs.lemmas.List.{take_all}
use Rattle.journal_entry.specs.declared.entry.Entry.{Entry}
use Rattle.history.specs.TotalsOf.{stream_began}
use Rattle.history.proofs.Scans.{count_by-reverse}
use Rattle.history.proofs.totals_scan.streams.Goals as goal

pub returns : goal.returns
returns c =
    let entries = c.args.entries.now in
    let test = λ (entry : Entry). stream_began (reverse entries) entry.point in
    c.loop-entry.invariant
    ∙ ap (count_by test) (take_all c.loop-entry.entry-index entries c.loop-entry-test.false)
    ∙ sym (count_by-reverse test entries)
