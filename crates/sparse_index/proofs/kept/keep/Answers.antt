use Rattle.std.proofs.Common.{sym, ◌∙◌}
use Rattle.sparse_index.proofs.KeptLaws.{one_set, made, kept_already, none_kept}
use Rattle.sparse_index.proofs.kept.keep.Goals as goal

pub returns-in_ok-insert-clause-ok : goal.returns-in_ok-insert-clause-ok
returns-in_ok-insert-clause-ok g c =
    let m = c.args.lists.now in
    let k = c.args.hook.now in
    made m c.insert.new.self k c.new.result (one_set m c.insert.new.self k c.new.result c.in_ok-insert.ensures.updates) (none_kept m k (sym c.contains_key.ensures ∙ c.if-not-contains_key.true)) c.new.ensures

pub returns-else-not-contains_key-clause-ok : goal.returns-else-not-contains_key-clause-ok
returns-else-not-contains_key-clause-ok g c = kept_already c.args.lists.now c.args.hook.now (sym c.contains_key.ensures ∙ c.if-not-contains_key.false)
