use Rattle.std.proofs.Common.{sym, ◌∙◌}
use Rattle.store_core.proofs.KeptLaws.{kept_at_some, kept_at_none, get_some, get_past}
use Rattle.store_core.proofs.keeping.kept_at.Goals as goal

pub returns-in_ok-kept-in-Some : goal.returns-in_ok-kept-in-Some
returns-in_ok-kept-in-Some c =
    let found = c.in-Some.ensures.lookup in
    c.in_ok-kept-in-Some.ensures ∙ sym (kept_at_some c.args.entries.now c.args.number c.in-Some.entry.now (get_some _ _ _ found.3.0 found.1))

pub returns-in-None : goal.returns-in-None
returns-in-None c =
    let found = c.in-None.ensures.lookup in
    sym (kept_at_none c.args.entries.now c.args.number (get_past _ _ found.3))
