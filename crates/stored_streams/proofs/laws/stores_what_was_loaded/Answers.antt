use Rattle.std.proofs.Common.{◌++◌}
use Rattle.ss_base.specs.Profile.{numbers_of}
use Rattle.ss_base.proofs.SoundLaws.{AreSound-numbers_of}
use Rattle.stored_streams.specs.Reads.{IsGiven}
use Rattle.stored_streams.proofs.LoadLaws.{stores_loaded}
use Rattle.stored_streams.proofs.laws.stores_what_was_loaded.Goals as goal

pub returns : goal.returns
returns c = λ profile rules streams loads reads newer older legal entries of_streams contents stores.
    stores_loaded (numbers_of profile) streams rules loads (IsGiven reads (newer ++ older)) newer older (AreSound-numbers_of profile) legal entries of_streams contents stores
