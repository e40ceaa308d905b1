use Rattle.std.proofs.Common.{List, sym, ap, ◌∙◌}
use Rattle.ss_base.specs.declared.ids.Standing.{Standing}
use Rattle.ss_base.specs.Champions.{stands_in}
use Rattle.sparse_index.proofs.StayLaws.{without_stays}
use Rattle.sparse_index.proofs.list.retire.Goals as goal

pub returns-else-stands_in : goal.returns-else-stands_in
returns-else-stands_in g c =
    sym (without_stays c.args.id c.args.list.now.items (ap (λ (l : List Standing). stands_in c.args.id l) (sym c.as_slice.ensures.value) ∙ sym c.stands_in.ensures ∙ c.if-stands_in.false))
