use Rattle.ss_base.specs.Profile.{numbers_of}
use Rattle.ss_base.proofs.SoundLaws.{AreSound-numbers_of}
use Rattle.whole_objects.proofs.ReclaimLaws.{whole_without}
use Rattle.whole_objects.proofs.keeping.stays_whole_without_reclaimed.Goals as goal

pub returns : goal.returns
returns c = λ profile rules streams past objects object legal entries of_streams named whole.
    whole_without (numbers_of profile) streams rules past objects object (AreSound-numbers_of profile) legal entries of_streams named whole
