-- The calls on a shelf that answered Ok, as a recording handle keeps them (this project's own).
use Rattle.std.specs.Prelude.{ℕ, List, string_bytes}
use Rattle.outside.specs.Shelf.{Given, Written, read_of, write_of}
use Rattle.outside.specs.declared.call_record.ReadCall.{ReadCall}
use Rattle.outside.specs.declared.call_record.WriteCall.{WriteCall}

-- its reads, its creates and appends, and the names of its erases, each in order
pub record Calls : Type 0 where
  pub gave : List Given
  pub wrote : List Written
  pub erased : List (List ℕ)

-- what is told of a read, and of a create or an append
abbrev pub given_of : ReadCall → Given
given_of call = read_of (string_bytes call.name) call.at call.max call.bytes.items

abbrev pub written_of : WriteCall → Written
written_of call = write_of (string_bytes call.name) call.bytes.items

-- a handle's calls, and how many reads it made
pub record RecordState : Type 0 where
  pub calls : Calls
  pub reads : ℕ
