use Rattle.std.proofs.Common.{refl}
use Rattle.journal_entry.proofs.Names.{named, unnamed}
use Rattle.journal_entry.proofs.reading.stream_name_at.Goals as goal

pub returns-in-Some : goal.returns-in-Some
returns-in-Some c =
    rw c.in-Some.ensures.bytes (named c.args.bytes.now c.in_ok-len.len c.in_ok-len.rest.now c.in_ok-text.text.now c.in_ok-text.rest.now c.in_ok-len.ensures c.in_ok-text.ensures.read (c.in-Some.ensures.found.0 refl))

pub returns-in-None : goal.returns-in-None
returns-in-None c =
    unnamed c.args.bytes.now c.in_ok-len.len c.in_ok-len.rest.now c.in_ok-text.text.now c.in_ok-text.rest.now c.in_ok-len.ensures c.in_ok-text.ensures.read (λ name. cc (c.in-None.ensures.found.1 name))
