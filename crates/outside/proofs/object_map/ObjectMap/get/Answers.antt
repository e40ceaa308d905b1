use Rattle.std.proofs.Common.{◌∙◌, ap, Some, None}
use Rattle.outside.proofs.ObjectMapLaws.{found_in}
use Rattle.outside.proofs.object_map.ObjectMap.get.Goals as goal

pub returns-in-Some : goal.returns-in-Some
returns-in-Some c = ap Some c.deref.ensures.value ∙ found_in c.args.self.now c.self.inside.objects c.args.name.now (Some c.in-Some.bytes.now) c.self.view_is c.in-Some.ensures.value

pub returns-in-None : goal.returns-in-None
returns-in-None c = found_in c.args.self.now c.self.inside.objects c.args.name.now None c.self.view_is c.in-None.ensures.value
