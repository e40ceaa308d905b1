-- What is added to a journal (this project's own).
use Rattle.std.specs.Prelude.{List, [], ◌∷◌, Option}
use Rattle.outside.specs.Shelf.{Objects, Written, with_added, write_of, one_more}
use Rattle.journal_entry.specs.declared.entry.Entry.{Entry}
use Rattle.journal_entry.specs.EntryText.{entries_text}
use Rattle.journal_file.specs.Header.{journal_name}

-- the told objects with the texts of these entries behind the journal; no entries change nothing
abbrev pub with_entries : Option Objects → List Entry → Option Objects
with_entries held [] = held
with_entries held (e ∷ es) = with_added held journal_name (entries_text (e ∷ es))

-- the told writes, and the one with which entries are added; no entries need none
abbrev pub with_write : Option (List Written) → List Entry → Option (List Written)
with_write told [] = told
with_write told (e ∷ es) = one_more told (write_of journal_name (entries_text (e ∷ es)))
