use Rattle.std.proofs.Common.{◌≡◌, Some, None, sym, ap, ◌∙◌}
use Rattle.std.specs.Option.{option_copied}
use Rattle.sparse_index.specs.Kept.{kept_at, items_in}
use Rattle.sparse_index.proofs.KeptLaws.{list_is}
use Rattle.sparse_index.proofs.kept.list_of.Goals as goal

pub returns-in-Some : goal.returns-in-Some
returns-in-Some g c =
    let is : kept_at c.args.lists.now c.args.hook.now ≡ Some c.in-Some.list.now = sym c.get.ensures.value ∙ ap option_copied c.in-Some.is in
    c.as_slice.ensures.value ∙ ap items_in (sym is) ∙ sym (list_is c.args.lists.now c.args.hook.now)

pub returns-in-None : goal.returns-in-None
returns-in-None g c =
    let is : kept_at c.args.lists.now c.args.hook.now ≡ None = sym c.get.ensures.value ∙ ap option_copied c.in-None.is in
    ap items_in (sym is) ∙ sym (list_is c.args.lists.now c.args.hook.now)
