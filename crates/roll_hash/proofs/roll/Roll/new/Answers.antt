use Rattle.std.proofs.Common.{refl}
use Rattle.roll_hash.proofs.WindowLaws.{IsRolled-empty}
use Rattle.roll_hash.proofs.roll.Roll.new.Goals as goal

pub invariant_of-result : goal.invariant_of-result
invariant_of-result c = IsRolled-empty c.in_ok-ring.ring 48 refl c.in_ok-ring.ensures
