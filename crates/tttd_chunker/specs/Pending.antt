-- What contracts see of a chunker.
use Rattle.std.specs.Prelude.{ℕ, List}
use Rattle.ss_base.specs.declared.profile.Profile.{Profile}

-- the profile by which the stream is cut, and the bytes that were pushed and are in no chunk yet
pub record Pending : Type 0 where
  pub profile : Profile
  pub bytes : List ℕ
