use Rattle.ss_base.specs.Profile.{numbers_of}
use Rattle.whole_objects.proofs.EntryLaws.{whole_behind}
use Rattle.whole_objects.proofs.keeping.stays_whole_behind_entries.Goals as goal

pub returns : goal.returns
returns c = λ profile rules streams newer older objects legal none whole.
    whole_behind (numbers_of profile) streams rules newer older objects legal none whole
