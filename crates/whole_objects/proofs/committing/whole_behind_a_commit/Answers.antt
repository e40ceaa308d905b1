use Rattle.ss_base.specs.Profile.{numbers_of}
use Rattle.ss_base.proofs.SoundLaws.{AreSound-numbers_of}
use Rattle.whole_objects.proofs.CommitLaws.{whole_committed}
use Rattle.whole_objects.proofs.committing.whole_behind_a_commit.Goals as goal

pub returns : goal.returns
returns c = λ profile rules streams author id content text chunks bytes fresh fresh_bytes uses past objects legal entries is whole held records.
    whole_committed (numbers_of profile) streams rules author id content text chunks bytes fresh fresh_bytes uses past objects (AreSound-numbers_of profile) legal entries is whole held records
