use Rattle.std.proofs.Common.{refl}
use Rattle.pins_counts.proofs.FactLaws.{sound_run, gone_grows}
use Rattle.pins_counts.proofs.run.set_run.Goals as goal

pub returns-then-is_some-clause-sound : goal.returns-then-is_some-clause-sound
returns-then-is_some-clause-sound c =
    let m = c.args.facts.now in
    let n = c.set_fact.new.facts in
    let grows = gone_grows m n c.args.object _ c.set_fact.ensures refl in
    sound_run m n c.args.object _ c.set_fact.ensures refl c.args.run refl c.requires.sound (λ x from to. grows _ (c.requires.gone x from to)) c.requires.within.0 c.requires.within.1
