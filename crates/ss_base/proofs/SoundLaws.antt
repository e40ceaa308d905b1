-- The numbers of every profile are sound.
use Rattle.std.proofs.Common.{refl, lit≤, lit<}
use Rattle.ss_base.specs.declared.profile.Profile.{Profile}
use Rattle.ss_base.specs.declared.profile.Profile.TheVariants.{Tiny, Small, Large}
use Rattle.ss_base.specs.Profile.{AreSound, numbers_of}

pub AreSound-numbers_of : (p : Profile) → AreSound (numbers_of p)
AreSound-numbers_of Tiny = record { window = lit≤ tt; thresholds = lit≤ tt; chunk = lit≤ tt; backup = lit< tt; main = refl; segment = lit< tt; segments = lit≤ tt; pieces = lit≤ tt; divisor = lit< tt; bits = lit≤ tt; room = lit≤ tt; container = lit≤ tt }
AreSound-numbers_of Small = record { window = lit≤ tt; thresholds = lit≤ tt; chunk = lit≤ tt; backup = lit< tt; main = refl; segment = lit< tt; segments = lit≤ tt; pieces = lit≤ tt; divisor = lit< tt; bits = lit≤ tt; room = lit≤ tt; container = lit≤ tt }
AreSound-numbers_of Large = record { window = lit≤ tt; thresholds = lit≤ tt; chunk = lit≤ tt; backup = lit< tt; main = refl; segment = lit< tt; segments = lit≤ tt; pieces = lit≤ tt; divisor = lit< tt; bits = lit≤ tt; room = lit≤ tt; container = lit≤ tt }
