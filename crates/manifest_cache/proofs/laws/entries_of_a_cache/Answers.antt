use Rattle.lru.proofs.CallerLemmas.{Contains-promoted}
use Rattle.ss_base.specs.Ids.{same_manifest}
use Rattle.manifest_cache.proofs.HeldLaws.{put_each}
use Rattle.manifest_cache.proofs.laws.entries_of_a_cache.Goals as goal

pub returns-clause-copied : goal.returns-clause-copied
returns-clause-copied c = λ cache id entry there. Contains-promoted (same_manifest id) cache.entries entry there

pub returns-clause-put : goal.returns-clause-put
returns-clause-put c = λ cache id new entry there. put_each cache id new entry there
