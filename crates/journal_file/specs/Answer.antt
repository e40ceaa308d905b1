-- What reading a journal answers (this project's own).
use Rattle.std.specs.Prelude.{◌≡◌, ◌≢◌, ℕ, ◌+◌, List, [], ◌∷◌, ◌++◌, ◌⊎◌, length, Option, Result, Ok, Err, Vec}
use Rattle.std.specs.Option.{option_map}
use Rattle.std.specs.List.{AllByRecursion, flat_map}
use Rattle.std.specs.declared.alloc.Global.{Global}
use Rattle.ss_base.specs.declared.limits.TheConstants.{PIECE_LEN}
use Rattle.ss_base.specs.declared.profile.Profile.{Profile}
use Rattle.journal_entry.specs.declared.entry.Entry.{Entry}
use Rattle.outside.specs.Shelf.{Given, read_of, next_read}
use Rattle.journal_file.specs.declared.fault.JournalFault.{JournalFault}
use Rattle.journal_file.specs.declared.fault.JournalFault.TheVariants.{Shelf, NotStore, BadEntry, Memory}
use Rattle.journal_file.specs.Header.{journal_name}
use Rattle.journal_file.specs.Journal.{IsJournal, HasNoHeader, IsBadAt}

-- what a refusal says of the bytes; of a failure of the shelf and of want of memory they are no cause
abbrev pub IsRefusedBy : JournalFault → List ℕ → Type 0
IsRefusedBy Shelf bytes = Unit {0}
IsRefusedBy NotStore bytes = HasNoHeader bytes
IsRefusedBy (BadEntry place) bytes = IsBadAt bytes place
IsRefusedBy Memory bytes = Unit {0}

-- the bytes are a journal with the answered profile and entries, or have the cause of the refusal
abbrev pub IsAnswer : Result (Profile × Vec Entry Global) JournalFault → List ℕ → Type 0
IsAnswer (Ok found) bytes = IsJournal bytes found.0 found.1.items
IsAnswer (Err fault) bytes = IsRefusedBy fault bytes

-- reads of the journal in pieces of at most `PIECE_LEN` bytes, each from where the one before ended
abbrev pub reads_from : ℕ → List (List ℕ) → List Given
reads_from place [] = []
reads_from place (piece ∷ pieces) = read_of journal_name place PIECE_LEN piece ∷ reads_from (place + length piece) pieces

-- the pieces in one
abbrev pub joined : List (List ℕ) → List ℕ
joined pieces = flat_map (λ piece. piece) pieces

-- the told reads, and those that gave these pieces
abbrev pub with_reads : Option (List Given) → List (List ℕ) → Option (List Given)
with_reads told pieces = option_map (λ gave. gave ++ reads_from 0 pieces) told

-- the count of reads after one more for each piece
abbrev pub count_reads : ℕ → List (List ℕ) → ℕ
count_reads reads [] = reads
count_reads reads (piece ∷ pieces) = count_reads (next_read reads) pieces

-- The reads that were made: those that gave a piece, and, where the shelf failed or wanted memory, perhaps one that
-- gave none.
abbrev pub AreCounted : Result (Profile × Vec Entry Global) JournalFault → ℕ → ℕ → List (List ℕ) → Type 0
AreCounted (Ok found) before after pieces = after ≡ count_reads before pieces
AreCounted (Err NotStore) before after pieces = after ≡ count_reads before pieces
AreCounted (Err (BadEntry place)) before after pieces = after ≡ count_reads before pieces
AreCounted (Err Shelf) before after pieces = (after ≡ count_reads before pieces) ⊎ (after ≡ next_read (count_reads before pieces))
AreCounted (Err Memory) before after pieces = (after ≡ count_reads before pieces) ⊎ (after ≡ next_read (count_reads before pieces))

-- each piece has bytes
abbrev pub AreParts : List (List ℕ) → Type 0
AreParts pieces = AllByRecursion (λ piece. piece ≢ []) pieces

-- the reads went on up to the first that gave nothing
pub record ReadToEnd (pieces : List (List ℕ)) : Type 0 where
  pub parts : List (List ℕ)
  pub last : pieces ≡ parts ++ [] ∷ []
  pub are_parts : AreParts parts

-- an answer is read to the end, and a refusal perhaps not
abbrev pub EndsWith : Result (Profile × Vec Entry Global) JournalFault → List (List ℕ) → Type 0
EndsWith (Ok found) pieces = ReadToEnd pieces
EndsWith (Err fault) pieces = AreParts pieces ⊎ ReadToEnd pieces

-- Reads of the journal were made, one behind the other and no others, and what they gave has the answer.
pub record HasRead (old new : Option (List Given)) (before after : ℕ) (result : Result (Profile × Vec Entry Global) JournalFault) : Type 0 where
  pub pieces : List (List ℕ)
  pub count : AreCounted result before after pieces
  pub gave : new ≡ with_reads old pieces
  pub end : EndsWith result pieces
  pub answer : IsAnswer result (joined pieces)
