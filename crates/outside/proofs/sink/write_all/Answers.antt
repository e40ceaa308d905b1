use Rattle.std.proofs.Common.{◌++◌, take, sym, ◌∙◌, ap, take-append-drop}
use Rattle.std.proofs.lemmas.Result.{err_from_is_err_and}
use Rattle.outside.proofs.BytesLaws.{Appends-then, AppendsFront-then, split_more}
use Rattle.outside.proofs.sink.write_all.Goals as goal

pub returns-in_err-taken-clause-err : goal.returns-in_err-taken-clause-err
returns-in_err-taken-clause-err g c =
    let p = err_from_is_err_and c.from_residual.result c.from_residual.ensures.1 in
    let so_far = c.loop-rest.invariant.0 in
    rw (p.1) (AppendsFront-then _ _ _ c.args.bytes.now so_far.0 c.loop-rest.rest.now so_far.1 so_far.2 c.in_err-taken.ensures.err)

pub loop-rest-preserved : goal.loop-rest-preserved
loop-rest-preserved g c =
    let so_far = c.loop-rest.invariant.0 in
    let part = take c.in_ok-taken.taken c.loop-rest.rest.now in
    let next = sym (take-append-drop c.in_ok-taken.taken c.loop-rest.rest.now) ∙ ap (λ l. part ++ l) (sym c.split_at.ensures.back) in (
      (so_far.0 ++ part, split_more c.args.bytes.now so_far.0 c.loop-rest.rest.now part _ so_far.1 next, Appends-then _ _ _ so_far.0 part so_far.2 c.in_ok-taken.ensures.bytes),
      c.in_ok-taken.ensures.cause.quiet ∙ c.loop-rest.invariant.1,
    )
