use Rattle.std.proofs.Common.{sym, ◌∙◌}
use Rattle.sparse_index.proofs.KeptLaws.{ready_is}
use Rattle.sparse_index.proofs.kept.is_kept.Goals as goal

pub returns : goal.returns
returns g c = c.contains_key.ensures ∙ sym (ready_is c.args.lists.now c.args.hook.now)
