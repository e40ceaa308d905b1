use Rattle.ss_base.specs.Profile.{numbers_of}
use Rattle.ss_base.proofs.SoundLaws.{AreSound-numbers_of}
use Rattle.restored_streams.proofs.GivenLaws.{read_is_stream, hashed_is_stream}
use Rattle.restored_streams.proofs.CallLaws.{copied_stream, answered_stream}
use Rattle.restored_streams.proofs.laws.restores_what_was_read.Goals as goal

pub returns-clause-read : goal.returns-clause-read
returns-clause-read c = λ profile rules streams past session all reads depot manifests legal entries of_streams retained are kepts among tells.
    read_is_stream (numbers_of profile) streams rules past session all reads depot manifests
    (record { sound = AreSound-numbers_of profile; legal = legal; entries = entries; of_streams = of_streams })
    retained are kepts among tells

pub returns-clause-hashed : goal.returns-clause-hashed
returns-clause-hashed c = λ profile rules streams past session all depot manifests legal entries of_streams retained are kepts hashed.
    hashed_is_stream (numbers_of profile) streams rules past session all depot manifests
    (record { sound = AreSound-numbers_of profile; legal = legal; entries = entries; of_streams = of_streams })
    retained are kepts hashed

pub returns-clause-copied : goal.returns-clause-copied
returns-clause-copied c = λ profile rules streams past session count all reads output before after legal entries of_streams retained copy among tells.
    copied_stream (numbers_of profile) streams rules past session all reads output before after count
    (record { sound = AreSound-numbers_of profile; legal = legal; entries = entries; of_streams = of_streams })
    retained copy among tells

pub returns-clause-answered : goal.returns-clause-answered
returns-clause-answered c = λ profile rules streams all reads before after author count name output old new legal entries of_streams answer among tells.
    answered_stream (numbers_of profile) streams rules all reads before after author count name output old new
    (record { sound = AreSound-numbers_of profile; legal = legal; entries = entries; of_streams = of_streams })
    answer among tells
