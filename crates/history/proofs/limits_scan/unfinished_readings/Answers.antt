use Rattle.std.proofs.Common.{reverse, sym, ap, ◌∙◌}
use Rattle.std.specs.List.{count_by}
use Rattle.std.proofs.lemmas.List.{take_all}
use Rattle.journal_entry.specs.declared.entry.Entry.{Entry}
use Rattle.history.specs.Legal.{looks_unfinished, unfinished_readings}
use Rattle.history.proofs.Scans.{count_by-reverse}
use Rattle.history.proofs.limits_scan.unfinished_readings.Goals as goal

pub returns-clause-readings : goal.returns-clause-readings
unfolding unfinished_readings
returns-clause-readings c =
    let entries = c.args.entries.now in
    let test = λ (entry : Entry). looks_unfinished (reverse entries) entry.point in
    c.loop-entry.invariant.1
    ∙ ap (count_by test) (take_all c.loop-entry.entry-index entries c.loop-entry-test.false)
    ∙ sym (count_by-reverse test entries)
