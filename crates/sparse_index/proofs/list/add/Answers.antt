use Rattle.std.proofs.Common.{◌++◌, take, sym, ap, ◌∙◌}
use Rattle.std.specs.Option.{option_to_list}
use Rattle.sparse_index.proofs.BoundLaws.{fits_none}
use Rattle.sparse_index.proofs.list.add.Goals as goal

pub returns-in_default : goal.returns-in_default
returns-in_default g c =
    fits_none g.row.L c.args.list.now.items c.is_full.ensures.fits ∙ ap (λ o. take g.row.L (c.args.list.now.items ++ option_to_list o)) (sym c.in_default.is)
