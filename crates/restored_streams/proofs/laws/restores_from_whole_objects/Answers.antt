use Rattle.ss_base.specs.Profile.{numbers_of}
use Rattle.ss_base.proofs.SoundLaws.{AreSound-numbers_of}
use Rattle.restored_streams.proofs.WholeLaws.{whole_is_stream}
use Rattle.restored_streams.proofs.CallLaws.{copied_whole, answered_whole}
use Rattle.restored_streams.proofs.laws.restores_from_whole_objects.Goals as goal

pub returns-clause-read : goal.returns-clause-read
returns-clause-read c = λ profile rules streams past session objects depot manifests legal entries of_streams whole retained are kepts held.
    whole_is_stream (numbers_of profile) streams rules past session objects depot manifests
    (record { sound = AreSound-numbers_of profile; legal = legal; entries = entries; of_streams = of_streams })
    whole retained are kepts held

pub returns-clause-copied : goal.returns-clause-copied
returns-clause-copied c = λ profile rules streams past session count objects output before after legal entries of_streams whole retained copy held.
    copied_whole (numbers_of profile) streams rules past session objects output before after count
    (record { sound = AreSound-numbers_of profile; legal = legal; entries = entries; of_streams = of_streams })
    whole retained copy held

pub returns-clause-answered : goal.returns-clause-answered
returns-clause-answered c = λ profile rules streams objects before after author count name output old new legal entries of_streams whole answer held.
    answered_whole (numbers_of profile) streams rules objects before after author count name output old new
    (record { sound = AreSound-numbers_of profile; legal = legal; entries = entries; of_streams = of_streams })
    whole answer held
