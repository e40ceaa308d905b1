use Rattle.ss_base.specs.Profile.{numbers_of}
use Rattle.ss_base.proofs.SoundLaws.{AreSound-numbers_of}
use Rattle.restored_streams.proofs.StreamLaws.{IsKnown}
use Rattle.restored_streams.proofs.FrontLaws.{front_whole}
use Rattle.restored_streams.proofs.DamageLaws.{no_damage}
use Rattle.restored_streams.proofs.CallLaws.{answered_front_whole, answered_undamaged}
use Rattle.restored_streams.proofs.laws.whole_objects_show_no_damage.Goals as goal

pub returns-clause-copied : goal.returns-clause-copied
returns-clause-copied c = λ profile rules streams past session objects output before after fault legal entries of_streams whole retained copy held.
    let n = numbers_of profile in
    let known : IsKnown n streams rules past = record { sound = AreSound-numbers_of profile; legal = legal; entries = entries; of_streams = of_streams } in (
      no_damage n streams rules past session objects output before after fault known whole retained copy held,
      front_whole n streams rules past session objects output before after fault known whole retained copy held,
    )

pub returns-clause-answered : goal.returns-clause-answered
returns-clause-answered c = λ profile rules streams objects before after author name output old new fault legal entries of_streams whole answer held.
    let n = numbers_of profile in
    let known : IsKnown n streams rules _ = record { sound = AreSound-numbers_of profile; legal = legal; entries = entries; of_streams = of_streams } in (
      answered_undamaged n streams rules objects before after author name output old new fault known whole answer held,
      answered_front_whole n streams rules objects before after author name output old new fault known whole answer held,
    )
