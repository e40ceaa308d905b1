use Rattle.std.proofs.Common.{sym, ◌∙◌}
use Rattle.store_core.proofs.UsesLaws.{uses_at_some, uses_at_none}
use Rattle.store_core.proofs.uses.uses_at.Goals as goal

pub returns-in-Some : goal.returns-in-Some
returns-in-Some c =
    let found = c.in-Some.ensures.lookup in
    c.uses_listed.ensures ∙ sym (uses_at_some c.args.entries.now c.args.number c.in-Some.entry.now found.3.0 found.1)

pub returns-in-None : goal.returns-in-None
returns-in-None c = sym (uses_at_none c.args.entries.now c.args.number c.in-None.ensures.lookup.3)
