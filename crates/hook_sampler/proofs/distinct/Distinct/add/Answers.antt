use Rattle.std.proofs.Common.{◌≡◌, true, false, cond, List, [], ◌∷◌, ◌++◌, subst, sym, ap, ◌∙◌}
use Rattle.std.specs.List.{list_any}
use Rattle.ss_base.specs.declared.name.Name.{Name}
use Rattle.ss_base.specs.Ids.{same_name}
use Rattle.hook_sampler.proofs.HooksLaws.{HasSeen-add, new_is}
use Rattle.hook_sampler.proofs.distinct.Distinct.add.Goals as goal

pub invariant_of-self-in-Continue-branch-3 : goal.invariant_of-self-in-Continue-branch-3
invariant_of-self-in-Continue-branch-3 c =
    rw (c.in_ok-push.ensures.items, c.in_ok-reserve.ensures.items)
    (HasSeen-add c.self.inside.seen.keys _ _ c.args.name c.self.invariant c.in_ok-insert.ensures.updates.0)

pub returns-in_ok-push-clause-ok : goal.returns-in_ok-push-clause-ok
returns-in_ok-push-clause-ok c =
    let name = c.args.name in
    let names = c.self.inside.names.items in
    let new = new_is c.self.inside.seen.keys names name c.in_ok-insert.field-0 c.self.invariant c.in_ok-insert.ensures.added true c.if-branch.true in
    subst (λ (now : List Name). c.push.new.self.items ≡ cond (list_any (same_name name) now) now (now ++ name ∷ [])) c.self.view_is
    (c.in_ok-push.ensures.items
    ∙ ap (λ xs. xs ++ name ∷ []) c.in_ok-reserve.ensures.items
    ∙ sym (ap (λ b. cond b names (names ++ name ∷ [])) new))

pub returns-else-branch-clause-ok : goal.returns-else-branch-clause-ok
returns-else-branch-clause-ok c =
    let name = c.args.name in
    let names = c.self.inside.names.items in
    let known = new_is c.self.inside.seen.keys names name c.in_ok-insert.field-0 c.self.invariant c.in_ok-insert.ensures.added false c.if-branch.false in
    subst (λ (now : List Name). c.reserve.new.self.items ≡ cond (list_any (same_name name) now) now (now ++ name ∷ [])) c.self.view_is
    (c.in_ok-reserve.ensures.items ∙ sym (ap (λ b. cond b names (names ++ name ∷ [])) known))
