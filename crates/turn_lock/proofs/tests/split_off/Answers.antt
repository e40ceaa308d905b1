use Rattle.std.proofs.Common.{◌≡◌, suc, Some, ap, ◌∙◌}
use Rattle.std.proofs.lemmas.List.Elements.{All-push, All-same}
use Rattle.turn_lock.specs.Passes.{PassView}
use Rattle.turn_lock.specs.Steps.{next_number}
use Rattle.turn_lock.proofs.tests.split_off.Goals as goal

pub loop-preserved : goal.loop-preserved
loop-preserved c =
    let changed : c.split.new.pass ≡ record c.loop.opener { next = Some (suc (next_number c.loop.opener.next)) } = c.in-Ok.ensures.pass in
    let given = c.in-Ok.ensures.result.1 in (
      ap (λ (p : PassView). p.turns) changed ∙ c.loop.invariant.0,
      (_, ap (λ (p : PassView). p.next) changed),
      All-same (λ (p : PassView). p.turns ≡ c.args.turns.now) _ _ c.in_ok-push.ensures.items
          (All-push (λ (p : PassView). p.turns ≡ c.args.turns.now) c.loop.passes.items c.in-Ok.pass c.loop.invariant.2 (ap (λ (p : PassView). p.turns) given ∙ c.loop.invariant.0)),
    )
