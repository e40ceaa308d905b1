use Rattle.std.proofs.Common.{arith}
use Rattle.journal_entry.proofs.Entries.{decoded, undecoded}
use Rattle.journal_entry.proofs.decoding.decode_entry.Goals as goal

pub overflow_sub-result : goal.overflow_sub-result
overflow_sub-result c =
    (decoded c.args.bytes.now c.in-Ok.entry c.in-Ok.rest.now (λ i. omega (arith, c.type_inv.bytes i)) c.in-Ok.ensures).1

pub returns-in-Ok-clause-found : goal.returns-in-Ok-clause-found
returns-in-Ok-clause-found c =
    (decoded c.args.bytes.now c.in-Ok.entry c.in-Ok.rest.now (λ i. omega (arith, c.type_inv.bytes i)) c.in-Ok.ensures).0

pub returns-in-Err-NotEntry-clause-none : goal.returns-in-Err-NotEntry-clause-none
returns-in-Err-NotEntry-clause-none c =
    undecoded c.args.bytes.now (rw c.in-Err-NotEntry.field-0-is at c.in-Err-NotEntry.ensures)
