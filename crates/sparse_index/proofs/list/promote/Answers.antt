use Rattle.std.proofs.Common.{List, drop, sym, ap, ◌∙◌}
use Rattle.std.specs.List.{list_any}
use Rattle.ss_base.specs.declared.ids.Standing.{Standing}
use Rattle.ss_base.specs.Ids.{has_manifest}
use Rattle.sparse_index.proofs.StayLaws.{promoted_first}
use Rattle.sparse_index.proofs.list.promote.Goals as goal

pub returns-else-one_stands_behind : goal.returns-else-one_stands_behind
returns-else-one_stands_behind g c =
    let ids = c.args.champions.now in
    sym (promoted_first ids c.args.list.now.items c.requires (ap (λ (l : List Standing). list_any (λ (s : Standing). has_manifest s.id ids) (drop 1 l)) (sym c.as_slice.ensures.value) ∙ sym c.one_stands_behind.ensures ∙ c.if-one_stands_behind.false))
