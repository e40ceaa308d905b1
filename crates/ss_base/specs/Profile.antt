-- The numbers of the profiles (this project's own).
use Rattle.std.specs.Prelude.{ℕ, ◌≡◌, ◌+◌, ◌*◌, ◌<◌, ◌≤◌}
use Rattle.ss_base.specs.declared.limits.TheConstants.{MAX_CHUNK_LEN, MAX_CHUNKS}
use Rattle.ss_base.specs.declared.profile.Profile.{Profile}
use Rattle.ss_base.specs.declared.profile.Profile.TheVariants.{Tiny, Small, Large}
use Rattle.ss_base.specs.declared.profile.Numbers.{Numbers}

-- the numbers that a profile fixes
abbrev pub numbers_of : Profile → Numbers
numbers_of Tiny = record { tmin = 64; tmax = 256; d = 60; d2 = 30; smin = 2; smax = 8; sdiv = 4; bits = 1; room = 4096 }
numbers_of Small = record { tmin = 460; tmax = 2800; d = 540; d2 = 270; smin = 64; smax = 1024; sdiv = 256; bits = 4; room = 1048576 }
numbers_of Large = record { tmin = 1840; tmax = 11200; d = 2160; d2 = 1080; smin = 512; smax = 4096; sdiv = 1024; bits = 6; room = 4194304 }

-- What holds of the numbers of every profile. A window of 48 bytes fits below the lower threshold, so a cut
-- depends on bytes of its own chunk alone, and a place that meets the main test meets the backup test.
pub record AreSound (n : Numbers) : Type 0 where
  pub window : 48 ≤ n.tmin
  pub thresholds : n.tmin ≤ n.tmax
  pub chunk : n.tmax ≤ MAX_CHUNK_LEN
  pub backup : 0 < n.d2
  pub main : n.d ≡ 2 * n.d2
  pub segment : 0 < n.smin
  pub segments : n.smin ≤ n.smax
  pub pieces : n.smax ≤ MAX_CHUNKS
  pub divisor : 0 < n.sdiv
  pub bits : n.bits ≤ 32
  pub room : n.tmax + 52 ≤ n.room
  pub container : n.room ≤ 4194304

-- a profile's number, by which formats name it
abbrev pub profile_code : Profile → ℕ
profile_code Tiny = 1
profile_code Small = 2
profile_code Large = 3
