use Rattle.std.proofs.Common.{◌-◌, List, length, take, drop, sym, ap, ◌∙◌, subst}
use Rattle.ss_base.specs.declared.name.Name.{Name}
use Rattle.ss_base.specs.Ids.{are_distinct}
use Rattle.store_core.specs.Seen.{HasSeen}
use Rattle.store_core.proofs.SeenLaws.{seen_more, new_is, front_is}
use Rattle.store_core.proofs.hooks.+put_distinct.Goals as goal

pub returns-in_ok-is_new-in-len1-up-clause-distinct :
    goal.returns-in_ok-is_new-in-len1-up-clause-distinct
returns-in_ok-is_new-in-len1-up-clause-distinct t c =
    let hooks = c.args.hooks.now in
    let rest = c.in_ok-distinct-in-len1-up.ensures in
    new_is _ (take (length hooks - 1) (drop 1 hooks)) _ _ (rest.seen c.if-not-distinct.false) c.in_ok-is_new-in-len1-up.ensures.added (sym rest.distinct ∙ c.if-not-distinct.false)
    ∙ ap are_distinct (front_is hooks _ c.in-len1-up.len_at_least)

pub returns-in_ok-is_new-in-len1-up-clause-seen : goal.returns-in_ok-is_new-in-len1-up-clause-seen
returns-in_ok-is_new-in-len1-up-clause-seen t c =
    λ is.
    let hooks = c.args.hooks.now in
    let rest = c.in_ok-distinct-in-len1-up.ensures in
    subst (λ (names : List Name). HasSeen c.insert.new.self.keys names) (front_is hooks _ c.in-len1-up.len_at_least)
    (seen_more _ _ (take (length hooks - 1) (drop 1 hooks)) _ (rest.seen c.if-not-distinct.false) c.in_ok-is_new-in-len1-up.ensures.updates.0)
