use Rattle.std.proofs.Common.{sym, ◌∙◌, ap, subst, ◌≤◌, ◌<◌, ℕ, length, get_or, take, drop, ◌++◌, ◌∷◌, ◌==◌, ◌||◌, arith}
use Rattle.pins_counts.specs.Waiting.{awaits, IsAscending}
use Rattle.pins_counts.proofs.AscendingLaws.{ascending_length, ascending_apart, ascending_inserted, awaits-inserted, awaits_again, length-inserted, ok_given}
use Rattle.pins_counts.proofs.waiting.Waiting.add.Goals as goal

pub returns-then-stands_at-clause-sessions : goal.returns-then-stands_at-clause-sessions
returns-then-stands_at-clause-sessions c q =
    let there = c.stands_at.ensures.yes c.if-stands_at.true in
    let within = there.0 in
    ap (λ v. awaits v.sessions q) (sym c.self.view_is)
    ∙ awaits_again c.self.inside.sessions.items c.place_of-at.result c.args.session q (omega (arith, within)) there.1
    ∙ ap (λ v. (q == c.args.session) || awaits v.sessions q) c.self.view_is

pub invariant_of-self : goal.invariant_of-self
invariant_of-self c =
    let xs = c.self.inside.sessions.items in
    let below = c.self.inside.below in
    let at = c.place_of-at.result in
    let e = c.place_of-at.ensures in
    let apart = c.stands_at.ensures.no_other c.if-stands_at.false in
    let bound = ap (λ v. v.below) c.self.view_is in
    let low = c.requires in
    let behind : (k : ℕ) → at ≤ k → k < length xs → c.args.session < get_or xs k 0 =
    λ k least within. ascending_apart 0 below xs at c.args.session k c.self.invariant.0 (λ j d from inside. e.behind j d from (omega (arith, inside))) (λ inside same. apart (omega (arith, inside)) same) least within in
    let all = ascending_inserted 0 below xs at c.args.session (omega arith) (omega (arith, low, bound)) c.self.invariant.0 (λ k less within. e.before k 0 less) behind in
    let size = ascending_length 0 below (take at xs ++ c.args.session ∷ drop at xs) all in
    let one = length-inserted xs at c.args.session in
    let room = c.self.invariant.1 in
    let items = ok_given c.insert.result c.insert.ensures.items c.insert.ensures.full (λ full. omega (arith, size, one, room, full)) in
    let more = c.insert.ensures.capacity in
    (subst (IsAscending 0 below) (sym items) all, omega (arith, room, more))

pub returns-clause-sessions : goal.returns-clause-sessions
returns-clause-sessions c q =
    let xs = c.self.inside.sessions.items in
    let below = c.self.inside.below in
    let at = c.place_of-at.result in
    let e = c.place_of-at.ensures in
    let apart = c.stands_at.ensures.no_other c.if-stands_at.false in
    let bound = ap (λ v. v.below) c.self.view_is in
    let low = c.requires in
    let behind : (k : ℕ) → at ≤ k → k < length xs → c.args.session < get_or xs k 0 =
    λ k least within. ascending_apart 0 below xs at c.args.session k c.self.invariant.0 (λ j d from inside. e.behind j d from (omega (arith, inside))) (λ inside same. apart (omega (arith, inside)) same) least within in
    let all = ascending_inserted 0 below xs at c.args.session (omega arith) (omega (arith, low, bound)) c.self.invariant.0 (λ k less within. e.before k 0 less) behind in
    let size = ascending_length 0 below (take at xs ++ c.args.session ∷ drop at xs) all in
    let one = length-inserted xs at c.args.session in
    let room = c.self.invariant.1 in
    let items = ok_given c.insert.result c.insert.ensures.items c.insert.ensures.full (λ full. omega (arith, size, one, room, full)) in
    ap (λ l. awaits l q) items ∙ awaits-inserted xs at c.args.session q ∙ ap (λ v. (q == c.args.session) || awaits v.sessions q) c.self.view_is
