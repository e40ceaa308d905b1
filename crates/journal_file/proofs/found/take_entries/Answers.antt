use Rattle.std.proofs.lemmas.Result.{err_from_is_err_and}
use Rattle.journal_entry.specs.EntryText.{entries_text}
use Rattle.std.proofs.Common.{◌++◌}
use Rattle.journal_file.proofs.ScanLaws.{full_is_bad}
use Rattle.journal_file.proofs.found.take_entries.Goals as goal

pub returns-in_err-add-clause-bad : goal.returns-in_err-add-clause-bad
returns-in_err-add-clause-bad c =
    let p = err_from_is_err_and c.from_residual-in_err-add.result c.from_residual-in_err-add.ensures.1 in
    let begins = rw c.in-Some.is at c.in_ok-entry.ensures.found in
    rw (p.1, p.2) (full_is_bad (entries_text c.args.found.now.entries.items ++ c.args.bytes.now) c.loop-entry.found.entries.items c.loop-entry.found.weight c.loop-entry.found.place c.loop-entry.rest.now c.loop-entry.invariant.0 c.loop-entry.invariant.1 c.in-Some.entry c.in-Some.len begins c.in_err-add.field-0.0 c.in_err-add.ensures.full)
