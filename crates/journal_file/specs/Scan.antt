-- A journal of which only a front was read (this project's own).
use Rattle.std.specs.Prelude.{◌≡◌, ◌≢◌, ℕ, ◌+◌, ◌<◌, List, [], ◌∷◌, ◌++◌, length, Option, Some, None}
use Rattle.std.specs.List.{AllByRecursion}
use Rattle.ss_base.specs.declared.profile.Profile.{Profile}
use Rattle.journal_entry.specs.declared.entry.Entry.{Entry}
use Rattle.journal_entry.specs.Bounds.{IsEntry, Begins}
use Rattle.journal_entry.specs.EntryText.{entries_text}
use Rattle.journal_entry.specs.Weight.{weight}
use Rattle.journal_file.specs.declared.fault.JournalFault.{JournalFault}
use Rattle.journal_file.specs.declared.fault.JournalFault.TheVariants.{Shelf, NotStore, BadEntry, Memory}
use Rattle.journal_file.specs.Header.{header_text}
use Rattle.journal_file.specs.Journal.{FitsJournal}
use Rattle.journal_file.specs.Answer.{IsRefusedBy}

-- the length of the longest text of an entry, that of a choice with the longest lists
abbrev pub longest_entry : ℕ
longest_entry = 133124

-- entries of a journal, with their weight and the place behind them
pub record AreFound (entries : List Entry) (sum place : ℕ) : Type 0 where
  pub valid : AllByRecursion IsEntry entries
  pub fits : FitsJournal entries
  pub sum_is : sum ≡ weight entries
  pub place_is : place ≡ 8 + length (entries_text entries)

-- no entry's text begins the bytes
abbrev pub NoneBegins : List ℕ → Type 0
NoneBegins bytes = (entry : Entry) (n : ℕ) → Begins entry n bytes → ⊥

-- no entry's text begins the bytes, however they go on
abbrev pub NoneWillBegin : List ℕ → Type 0
NoneWillBegin bytes = (bytes ≢ []) × ((later : List ℕ) → NoneBegins (bytes ++ later))

-- want of memory, or a bad entry at this place for this reason
abbrev pub IsBadFor : JournalFault → ℕ → Type 0 → Type 0
IsBadFor Shelf place reason = ⊥
IsBadFor NotStore place reason = ⊥
IsBadFor (BadEntry at) place reason = (at ≡ place) × reason
IsBadFor Memory place reason = Unit {0}

-- Behind the header stand these bytes, and, however they go on, entries up to this place and then none that a
-- journal has room for.
pub record IsBadBody (bytes : List ℕ) (place : ℕ) : Type 0 where
  pub before : List Entry
  pub rest : List ℕ
  pub text : bytes ≡ entries_text before ++ rest
  pub place_is : place ≡ 8 + length (entries_text before)
  pub valid : AllByRecursion IsEntry before
  pub fits : FitsJournal before
  pub more : rest ≢ []
  pub bad : (later : List ℕ) (entry : Entry) (n : ℕ) → Begins entry n (rest ++ later) → FitsJournal (before ++ entry ∷ []) → ⊥

-- want of memory, or a bad entry in these bytes behind the header
abbrev pub IsBodyFault : JournalFault → List ℕ → Type 0
IsBodyFault Shelf bytes = ⊥
IsBodyFault NotStore bytes = ⊥
IsBodyFault (BadEntry place) bytes = IsBadBody bytes place
IsBodyFault Memory bytes = Unit {0}

-- no failure of the shelf, and what it says of the bytes is so
abbrev pub IsBytesFault : JournalFault → List ℕ → Type 0
IsBytesFault Shelf bytes = ⊥
IsBytesFault fault bytes = IsRefusedBy fault bytes

-- the header, once it was read
abbrev pub head_text : Option Profile → List ℕ
head_text None = []
head_text (Some profile) = header_text profile

-- the bytes that were read
abbrev pub scanned_text : Option Profile → List Entry → List ℕ → List ℕ
scanned_text profile entries pending = head_text profile ++ (entries_text entries ++ pending)

-- before the header is whole there are no entries, and behind it no whole entry is pending
abbrev pub IsPending : Option Profile → List Entry → List ℕ → Type 0
IsPending None entries pending = (entries ≡ []) × (length pending < 8)
IsPending (Some profile) entries pending = NoneBegins pending × (length pending < longest_entry)
