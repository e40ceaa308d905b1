use Rattle.segment_store.proofs.CopyLaws.{has_put}
use Rattle.segment_store.proofs.loading.put.Goals as goal

pub returns : goal.returns
returns c = has_put c.put.result c.args.cache.now c.put.new.self c.args.kept.now c.args.manifest.now c.put.ensures.ok c.put.ensures.err
