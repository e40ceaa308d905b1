use Rattle.std.proofs.Common.{[], ◌∷◌, ◌++◌, sym, ap, ◌∙◌, append_assoc, arith}
use Rattle.std.proofs.lemmas.List.FromFn.{map-range_with_len_more}
use Rattle.ss_base.specs.KnownObjects.{manifest_at, numbered}
use Rattle.history.proofs.known_scan.push_manifests.Goals as goal

pub loop-seq-preserved : goal.loop-seq-preserved
loop-seq-preserved c =
    let n = c.loop-seq.seq in
    c.in_ok-push.ensures.items
    ∙ ap (λ xs. xs ++ manifest_at c.args.session n ∷ []) c.loop-seq.invariant
    ∙ append_assoc c.args.found.now.items (numbered (manifest_at c.args.session) 0 n) (manifest_at c.args.session n ∷ [])
    ∙ ap (λ xs. c.args.found.now.items ++ xs) (sym (map-range_with_len_more (manifest_at c.args.session) 0 n n (omega arith)))
