use Rattle.std.proofs.Common.{subst}
use Rattle.manifest_cache.specs.Cached.{CachedView, IsOf, kept_of}
use Rattle.manifest_cache.proofs.cached.Cached.copy.Goals as goal

pub returns-clause-good : goal.returns-clause-good
returns-clause-good c = λ id. subst (λ (v : CachedView). IsOf (kept_of id v) v.manifest) c.self.view_is (c.self.invariant id)
