-- What the bytes of a journal are (this project's own).
use Rattle.std.specs.Prelude.{◌≡◌, ◌≢◌, ℕ, ◌≤◌, List, [], ◌∷◌, ◌++◌, length}
use Rattle.std.specs.List.{AllByRecursion}
use Rattle.ss_base.specs.declared.profile.Profile.{Profile}
use Rattle.journal_entry.specs.declared.entry.Entry.{Entry}
use Rattle.journal_entry.specs.Bounds.{IsEntry, Begins}
use Rattle.journal_entry.specs.EntryText.{entries_text}
use Rattle.journal_entry.specs.Weight.{weight}
use Rattle.journal_file.specs.declared.limits.TheConstants.{MAX_ENTRIES, MAX_WEIGHT}
use Rattle.journal_file.specs.Header.{header_text}

-- the header, and the texts of the entries
abbrev pub journal_text : Profile → List Entry → List ℕ
journal_text profile entries = header_text profile ++ entries_text entries

-- a journal has at most 2^20 entries, and they have at most a weight of 2^24
pub record FitsJournal (entries : List Entry) : Type 0 where
  pub count : length entries ≤ MAX_ENTRIES
  pub weight : weight entries ≤ MAX_WEIGHT

-- the bytes are a journal of this profile with these entries
pub record IsJournal (bytes : List ℕ) (profile : Profile) (entries : List Entry) : Type 0 where
  pub text : bytes ≡ journal_text profile entries
  pub valid : AllByRecursion IsEntry entries
  pub fits : FitsJournal entries

-- no header begins the bytes
abbrev pub HasNoHeader : List ℕ → Type 0
HasNoHeader bytes = (profile : Profile) (rest : List ℕ) → bytes ≢ header_text profile ++ rest

-- Entries stand up to this place. More bytes follow, and they don't begin with the text of a further entry that
-- a journal has room for.
pub record IsBadAt (bytes : List ℕ) (place : ℕ) : Type 0 where
  pub profile : Profile
  pub before : List Entry
  pub rest : List ℕ
  pub text : bytes ≡ journal_text profile before ++ rest
  pub place_is : place ≡ length (journal_text profile before)
  pub valid : AllByRecursion IsEntry before
  pub fits : FitsJournal before
  pub more : rest ≢ []
  pub bad : (entry : Entry) (n : ℕ) → Begins entry n rest → FitsJournal (before ++ entry ∷ []) → ⊥
