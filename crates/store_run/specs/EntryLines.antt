-- The lines that commands print of a store's history (this project's own).
use Rattle.std.specs.Prelude.{ℕ, ◌+◌, List, [], ◌∷◌, ◌++◌}
use Rattle.journal_entry.specs.declared.entry.Entry.{Entry}
use Rattle.report.specs.EntryLine.{entry_line}

-- the lines of entries, the first of which has this number
abbrev pub entry_lines : ℕ → List Entry → List ℕ
entry_lines number [] = []
entry_lines number (e ∷ es) = entry_line number e ++ entry_lines (number + 1) es
