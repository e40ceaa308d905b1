use Rattle.std.proofs.Common.{sym, ap, ◌∙◌}
use Rattle.std.specs.List.{count_by}
use Rattle.std.proofs.lemmas.List.{take_all}
use Rattle.journal_entry.specs.declared.entry.Entry.{Entry}
use Rattle.history.specs.Sessions.{looks_some, reading_count}
use Rattle.history.proofs.Scans.{count_by-reverse}
use Rattle.history.proofs.reading_scan.reading_count.Goals as goal

pub returns-clause-readings : goal.returns-clause-readings
unfolding reading_count
returns-clause-readings c =
    let test = λ (entry : Entry). looks_some entry.point in
    c.loop-entry.invariant.1
    ∙ ap (count_by test) (take_all c.loop-entry.entry-index c.args.entries.now c.loop-entry-test.false)
    ∙ sym (count_by-reverse test c.args.entries.now)
