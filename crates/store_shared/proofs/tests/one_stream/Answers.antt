use Rattle.std.proofs.Common.{ap, ◌∙◌, lit<}
use Rattle.turn_lock.specs.Passes.{PassView}
use Rattle.history_calls.proofs.AskLaws.{begun_idle, can_finish}
use Rattle.store_shared.specs.Sight.{AreByOthers}
use Rattle.store_shared.specs.Tokens.{idle_of, open_of}
use Rattle.store_shared.proofs.CallLaws.{has_begun}
use Rattle.store_shared.proofs.tests.one_stream.Goals as goal

pub finish-pass-requires : goal.finish-pass-requires
finish-pass-requires g c =
    let begun = has_begun 8 8 c.args.pass _ c.in-Ok.session c.in-Ok.ensures in (
      lit< tt,
      (
        ap (λ (p : PassView). p.turns) c.in-Ok.ensures.same ∙ c.requires,
        can_finish (open_of c.in-Ok.session) 0 0 (begun_idle (AreByOthers c.args.pass) 8 8 (idle_of c.args.pass) _ (open_of c.in-Ok.session) begun),
      ),
    )
