use Rattle.std.proofs.Common.{◌≡◌, true, lit<, reverse, refl, subst}
use Rattle.legal_history.specs.Recorded.{Recorded}
use Rattle.history.specs.Legal.{is_legal}
use Rattle.store_core.proofs.AllowLaws.{follows, allowed_inside, end_within, on_ok}
use Rattle.store_core.proofs.state.State.add_end.Goals as goal

pub add-requires : goal.add-requires
add-requires g c =
    let allowed = allowed_inside _ _ _ _ _ c.args.author c.args.point c.self.invariant c.self.view_is c.requires.allowed in
    let legal = subst (λ (r : Recorded). is_legal r.rules (reverse r.entries) ≡ true) c.history.ensures c.entries-entries.ensures.legal in
    (lit< tt, follows _ _ _ allowed (end_within _ c.args.author c.args.point _ legal allowed c.requires.ends))

pub returns : goal.returns
returns g c =
    let allowed = allowed_inside _ _ _ _ _ c.args.author c.args.point c.self.invariant c.self.view_is c.requires.allowed in
    let legal = subst (λ (r : Recorded). is_legal r.rules (reverse r.entries) ≡ true) c.history.ensures c.entries-entries.ensures.legal in
    let added = on_ok _ c.add.ensures.ok (c.add.ensures.ends c.requires.ends) in
    rw (added, ← c.self.view_is) (record { added = refl; fits = end_within _ c.args.author c.args.point _ legal allowed c.requires.ends })
