use Rattle.std.proofs.Common.{refl}
use Rattle.journal_file.proofs.ScanLaws.{none_will_begin}
use Rattle.journal_file.proofs.found.next_entry.Goals as goal

pub returns-in-None-clause-bad : goal.returns-in-None-clause-bad
returns-in-None-clause-bad c =
    (refl, none_will_begin c.args.bytes.now (rw c.in-None.is at c.in_ok-answer.ensures.none) c.if-bytes-ge-LONGEST_ENTRY.true)
