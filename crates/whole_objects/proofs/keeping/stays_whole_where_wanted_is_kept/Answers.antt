use Rattle.ss_base.specs.Profile.{numbers_of}
use Rattle.ss_base.proofs.SoundLaws.{AreSound-numbers_of}
use Rattle.whole_objects.proofs.KeepLaws.{whole_kept}
use Rattle.whole_objects.proofs.keeping.stays_whole_where_wanted_is_kept.Goals as goal

pub returns : goal.returns
returns c = λ profile rules streams past objects now legal entries is whole keeps.
    whole_kept (numbers_of profile) streams rules past objects now (AreSound-numbers_of profile) legal entries is whole keeps
