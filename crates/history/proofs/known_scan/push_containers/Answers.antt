use Rattle.std.proofs.Common.{[], ◌∷◌, ◌++◌, sym, ap, ◌∙◌, append_assoc, arith}
use Rattle.std.proofs.lemmas.List.FromFn.{map-range_with_len_more}
use Rattle.ss_base.specs.KnownObjects.{container_at, numbered}
use Rattle.history.proofs.known_scan.push_containers.Goals as goal

pub loop-ordinal-preserved : goal.loop-ordinal-preserved
loop-ordinal-preserved c =
    let n = c.loop-ordinal.ordinal in
    c.in_ok-push.ensures.items
    ∙ ap (λ xs. xs ++ container_at c.args.session n ∷ []) c.loop-ordinal.invariant
    ∙ append_assoc c.args.found.now.items (numbered (container_at c.args.session) 0 n) (container_at c.args.session n ∷ [])
    ∙ ap (λ xs. c.args.found.now.items ++ xs) (sym (map-range_with_len_more (container_at c.args.session) 0 n n (omega arith)))
