use Rattle.restore.proofs.DamageLaws.{stream_damage, stream_unlike}
use Rattle.restore.proofs.laws.damage_of_a_restore.Goals as goal

pub returns-clause-damaged : goal.returns-clause-damaged
returns-clause-damaged c = stream_damage

pub returns-clause-unlike : goal.returns-clause-unlike
returns-clause-unlike c = stream_unlike
