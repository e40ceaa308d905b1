use Rattle.ss_base.specs.Profile.{numbers_of}
use Rattle.ss_base.proofs.SoundLaws.{AreSound-numbers_of}
use Rattle.stored_streams.proofs.BesideLaws.{whole_beside}
use Rattle.stored_streams.proofs.laws.stays_whole_beside_new_objects.Goals as goal

pub returns : goal.returns
returns c = λ profile rules streams past objects name bytes legal entries is whole none.
    whole_beside (numbers_of profile) streams rules past objects name bytes (AreSound-numbers_of profile) legal entries is whole none
