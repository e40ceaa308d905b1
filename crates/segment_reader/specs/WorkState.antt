-- What contracts see of a work.
use Rattle.std.specs.Prelude.{ℕ, Bool, true, false, List, []}
use Rattle.ss_base.specs.declared.profile.Profile.{Profile}
use Rattle.ss_base.specs.declared.profile.Numbers.{Numbers}
use Rattle.ss_base.specs.Profile.{numbers_of}

-- The numbers by which the stream is cut and grouped; the most bytes that it may have; how many bytes were taken by calls
-- that answered, and how many of these are in no segment yet; the latter bytes themselves, of which a spent work keeps
-- none; whether the source has ended, and whether a call failed.
pub record WorkState : Type 0 where
  pub numbers : Numbers
  pub limit : ℕ
  pub taken : ℕ
  pub pending : ℕ
  pub bytes : List ℕ
  pub ended : Bool
  pub spent : Bool

-- at the start of a stream
abbrev pub unused : Profile → ℕ → WorkState
unused profile limit = record { numbers = numbers_of profile; limit = limit; taken = 0; pending = 0; bytes = []; ended = false; spent = false }

-- after a call that failed
abbrev pub failed : WorkState → WorkState
failed work = record work { bytes = []; spent = true }
