use Rattle.std.proofs.Common.{◌∙◌}
use Rattle.std.specs.FinMap as map
use Rattle.outside.proofs.ObjectMapLaws.{objects_of-set}
use Rattle.outside.proofs.object_map.ObjectMap.put.Goals as goal

pub returns-clause-ok : goal.returns-clause-ok
returns-clause-ok c =
    let bytes = c.in_ok-copy.ensures.items_if_clones_equal (λ x y same. same) in
    objects_of-set _ c.self.inside.objects c.insert.new.self c.in_ok-copy.copy c.in_ok-insert.ensures.updates ∙ (λ i. map.insert (c.self.view_is i) (c.in_ok-key.ensures.ok i) (bytes i))
