use Rattle.journal_file.proofs.FrontLaws.{no_header_later}
use Rattle.journal_file.proofs.scan.split_front.Goals as goal

pub returns-in-None-split_header-clause-bad : goal.returns-in-None-split_header-clause-bad
returns-in-None-split_header-clause-bad c later =
    (c.in-None.is, no_header_later c.args.bytes.now c.if-bytes-lt-HEADER_LEN.false c.in-None-split_header.ensures.none later)
