use Rattle.manifest_cache.proofs.HeldLaws.{held_still}
use Rattle.manifest_cache.proofs.cache.ManifestCache.get.Goals as goal

pub returns-clause-same : goal.returns-clause-same
returns-clause-same c = λ other. held_still c.args.self.now c.hand_out.new.self c.args.kept.now other c.len-len.ensures.valid.0 c.in_ok-copy.ensures.order
