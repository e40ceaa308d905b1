use Rattle.backed_up_streams.proofs.CollisionLaws.{collision-longer, collision-among}
use Rattle.backed_up_streams.proofs.laws.collisions_stay.Goals as goal

pub returns-clause-longer : goal.returns-clause-longer
returns-clause-longer c = λ n streams rules reads newer older legal collides. collision-longer n streams rules reads newer older legal collides

pub returns-clause-among : goal.returns-clause-among
returns-clause-among c = λ n streams past before reads behind collides. collision-among n streams past before reads behind collides
