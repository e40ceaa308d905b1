use Rattle.std.proofs.Common.{◌∙◌, ap}
use Rattle.std.specs.FinMap as map
use Rattle.outside.proofs.ObjectMapLaws.{objects_of-removed}
use Rattle.outside.proofs.object_map.ObjectMap.remove.Goals as goal

pub returns : goal.returns
returns c = objects_of-removed c.args.name.now c.self.inside.objects c.remove.new.self c.remove.ensures.updates ∙ ap (λ m. map.remove m c.args.name.now) c.self.view_is
