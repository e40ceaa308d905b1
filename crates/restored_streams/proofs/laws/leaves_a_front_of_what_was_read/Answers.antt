use Rattle.ss_base.specs.Profile.{numbers_of}
use Rattle.ss_base.proofs.SoundLaws.{AreSound-numbers_of}
use Rattle.restored_streams.proofs.FrontLaws.{front_read}
use Rattle.restored_streams.proofs.CallLaws.{answered_front}
use Rattle.restored_streams.proofs.laws.leaves_a_front_of_what_was_read.Goals as goal

pub returns-clause-copied : goal.returns-clause-copied
returns-clause-copied c = λ profile rules streams past session all reads output before after fault legal entries of_streams retained copy among tells.
    front_read (numbers_of profile) streams rules past session all reads output before after fault
    (record { sound = AreSound-numbers_of profile; legal = legal; entries = entries; of_streams = of_streams })
    retained copy among tells

pub returns-clause-answered : goal.returns-clause-answered
returns-clause-answered c = λ profile rules streams all reads before after author name output old new fault legal entries of_streams answer among tells.
    answered_front (numbers_of profile) streams rules all reads before after author name output old new fault
    (record { sound = AreSound-numbers_of profile; legal = legal; entries = entries; of_streams = of_streams })
    answer among tells
