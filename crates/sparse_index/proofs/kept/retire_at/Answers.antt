use Rattle.std.proofs.Common.{◌≡◌, Some, None, rules, sym, ap, ◌∙◌, subst}
use Rattle.std.specs.Option.{option_copied_mut}
use Rattle.ss_base.specs.Standings.{without_manifest}
use Rattle.sparse_index.specs.Lists.{Changes}
use Rattle.sparse_index.specs.Kept.{Kept, kept_at, lists_of}
use Rattle.sparse_index.proofs.KeptLaws.{one_set, changed, unchanged}
use Rattle.sparse_index.proofs.kept.retire_at.Goals as goal

pub returns-in-Some : goal.returns-in-Some
returns-in-Some g c =
    let m = c.args.lists.now in
    let k = c.args.hook.now in
    let w = c.retire.new.list in
    let is : kept_at m k ≡ Some c.in-Some.list.now = sym c.get_mut.ensures.value ∙ ap option_copied_mut c.in-Some.is in
    changed m (c.get_mut.follows.lender w) k w (one_set m (c.get_mut.follows.lender w) k w ((c.get_mut.follows.holds w).3 (search rules))) (without_manifest c.args.id) c.in-Some.list.now is c.retire.ensures

pub returns-in_default : goal.returns-in_default
returns-in_default g c =
    let m = c.args.lists.now in
    let k = c.args.hook.now in
    let is : kept_at m k ≡ None = sym c.get_mut.ensures.value ∙ ap option_copied_mut c.in_default.is in
    subst (λ (n : Kept). Changes (lists_of m.entries) (lists_of n.entries) k (without_manifest c.args.id)) (sym c.get_mut.follows.holds-at-none) (unchanged m k (without_manifest c.args.id) is)
