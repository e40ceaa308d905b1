use Rattle.roll_hash.proofs.WindowLaws.{IsRolled-empty}
use Rattle.roll_hash.proofs.roll.Roll.clear.Goals as goal

pub invariant_of-self : goal.invariant_of-self
invariant_of-self c = IsRolled-empty c.clear.new.self c.self.inside.ring.capacity c.self.invariant.capacity c.clear.ensures
