-- A source over a reader, as contracts see it (this project's own).
use Rattle.std.specs.Prelude.{ℕ, Bool}
use Rattle.std.specs.declared.io.traits.Read.{Ghosts}
use Rattle.outside.specs.declared.read_source.ReadSource.{ReadSource}

module _ {R : Type 0} {reads : Ghosts R} where
  -- the reader
  abbrev pub reader_of : ReadSource R reads → R
  reader_of source = source.reader

  -- the end was answered
  abbrev pub reader_ended : ReadSource R reads → Bool
  reader_ended source = source.has_ended

  -- how often it failed
  abbrev pub reader_faults : ReadSource R reads → ℕ
  reader_faults source = source.faults
