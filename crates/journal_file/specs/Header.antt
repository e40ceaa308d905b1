-- The header of a journal, and the object that holds it (this project's own format).
use Rattle.std.specs.Prelude.{ℕ, List, [], ◌∷◌, ◌++◌, codes}
use Rattle.ss_base.specs.declared.profile.Profile.{Profile}
use Rattle.ss_base.specs.Profile.{profile_code}

-- the name of the object that holds the journal
abbrev pub journal_name : List ℕ
journal_name = codes "journal"

-- the four letters of the format, the profile's number, and three zero bytes
abbrev pub header_text : Profile → List ℕ
header_text profile = codes "SSJ1" ++ profile_code profile ∷ 0 ∷ 0 ∷ 0 ∷ []
