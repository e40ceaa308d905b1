use Rattle.std.proofs.Common.{sym, ap, ◌∙◌}
use Rattle.std.specs.List.{count_by}
use Rattle.std.proofs.lemmas.List.{take_all}
use Rattle.journal_entry.specs.declared.entry.Entry.{Entry}
use Rattle.history.specs.Sessions.{begins_some, session_count}
use Rattle.history.proofs.Scans.{count_by-reverse}
use Rattle.history.proofs.session_scan.session_count.Goals as goal

pub returns-clause-sessions : goal.returns-clause-sessions
unfolding session_count
returns-clause-sessions c =
    let test = λ (entry : Entry). begins_some entry.point in
    c.loop-entry.invariant.1
    ∙ ap (count_by test) (take_all c.loop-entry.entry-index c.args.entries.now c.loop-entry-test.false)
    ∙ sym (count_by-reverse test c.args.entries.now)
