use Rattle.std.proofs.Common.{sym, ap, ◌∙◌}
use Rattle.turn_lock.specs.Passes.{PassView}
use Rattle.store_shared.proofs.SightLaws.{has_seen}
use Rattle.store_shared.proofs.store.Store.leave.Goals as goal

pub returns-clause-seen : goal.returns-clause-seen
returns-clause-seen g c =
    has_seen g.row.L g.row.M c.leave.result c.args.inside.state
    (c.requires.base_is ∙ sym (ap (λ (p : PassView). p.base) c.leave.ensures))
    (sym (ap (λ (p : PassView). p.seen) c.leave.ensures))
    c.entries-entries.ensures.legal
