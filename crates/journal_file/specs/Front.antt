-- What was read of a journal that comes in pieces (this project's own).
use Rattle.std.specs.Prelude.{ℕ, List}
use Rattle.journal_file.specs.declared.scan.Scan.{Scan}
use Rattle.journal_file.specs.Scan.{AreFound, IsPending, scanned_text}

-- the bytes that were read
abbrev pub scan_text : Scan → List ℕ
scan_text scan = scanned_text scan.profile scan.found.entries.items scan.pending.items

-- entries were found, and what is pending is no whole entry
pub record IsFront (scan : Scan) : Type 0 where
  pub found : AreFound scan.found.entries.items scan.found.weight scan.found.place
  pub rest : IsPending scan.profile scan.found.entries.items scan.pending.items
