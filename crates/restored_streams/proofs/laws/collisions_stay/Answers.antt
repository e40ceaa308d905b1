use Rattle.ss_base.specs.Profile.{numbers_of}
use Rattle.restored_streams.proofs.LaterLaws.{collide_given_later, chunks_collide_later}
use Rattle.restored_streams.proofs.laws.collisions_stay.Goals as goal

pub returns-clause-hashed : goal.returns-clause-hashed
returns-clause-hashed c = λ profile rules streams newer older all legal collides. collide_given_later (numbers_of profile) streams rules newer older all legal collides

pub returns-clause-chunks : goal.returns-clause-chunks
returns-clause-chunks c = λ profile streams newer older collides. chunks_collide_later (numbers_of profile) streams newer older collides
