use Rattle.std.proofs.Common.{rules, arith, sym, ap, ◌∙◌}
use Rattle.std.proofs.lemmas.Grind.{common_steps}
use Rattle.turn_lock.specs.Passes.{pass_of, first_view}
use Rattle.turn_lock.proofs.Calls.{gives_at, only_view}
use Rattle.turn_lock.proofs.turns.Turns.split.Goals as goal

pub split_seat-given-requires : goal.split_seat-given-requires
split_seat-given-requires g c =
    let one = only_view _ _ _ c.into_seat-seat.ensures.2 (ap (λ b. b.views) c.replace-badge.ensures.value ∙ c.pass.invariant.0) in
    (search rules, search rules, gives_at g.T.Logged.entries g.T.Logged.base _ _ (pass_of c.pass.inside.badge.table_id (first_view c.pass.inside.badge.views)) c.in-Some.next one (sym c.pass.invariant.2 ∙ c.in-Some.is) (first_of (search rules, grind (arith, common_steps))))
