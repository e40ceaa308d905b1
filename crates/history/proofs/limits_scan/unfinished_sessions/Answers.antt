use Rattle.std.proofs.Common.{reverse, sym, ap, ◌∙◌}
use Rattle.std.specs.List.{count_by}
use Rattle.std.proofs.lemmas.List.{take_all}
use Rattle.journal_entry.specs.declared.entry.Entry.{Entry}
use Rattle.history.specs.Legal.{begins_unfinished, unfinished_sessions}
use Rattle.history.proofs.Scans.{count_by-reverse}
use Rattle.history.proofs.limits_scan.unfinished_sessions.Goals as goal

pub returns-clause-sessions : goal.returns-clause-sessions
unfolding unfinished_sessions
returns-clause-sessions c =
    let entries = c.args.entries.now in
    let test = λ (entry : Entry). begins_unfinished (reverse entries) entry.point in
    c.loop-entry.invariant.1
    ∙ ap (count_by test) (take_all c.loop-entry.entry-index entries c.loop-entry-test.false)
    ∙ sym (count_by-reverse test entries)
