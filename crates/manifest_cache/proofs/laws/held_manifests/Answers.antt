use Rattle.manifest_cache.proofs.HeldLaws.{held_lies, lies_held}
use Rattle.manifest_cache.proofs.laws.held_manifests.Goals as goal

pub returns-clause-found : goal.returns-clause-found
returns-clause-found c = λ cache kept manifest is. held_lies cache.entries kept manifest is

pub returns-clause-lies : goal.returns-clause-lies
returns-clause-lies c = λ cache kept manifest valid lies. lies_held cache.entries kept manifest valid.0 lies
