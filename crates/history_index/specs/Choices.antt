-- The choices of a session by the numbers of their entries (this project's own). `entries` has the first entry first,
-- `past` the newest.
use Rattle.std.specs.Prelude.{ℕ, ◌==◌, Bool, ◌||◌, not, List, [], slice_get, Some, option_map, unwrap_or}
use Rattle.ss_base.specs.declared.ids.Standing.{Standing}
use Rattle.ss_base.specs.declared.name.Name.{Name}
use Rattle.ss_base.specs.Ids.{has_name}
use Rattle.journal_entry.specs.declared.entry.Entry.{Entry}
use Rattle.journal_entry.specs.declared.entry.Point.{Point}
use Rattle.journal_entry.specs.declared.entry.Point.TheVariants.{Commit, Abort, Delete}
use Rattle.history.specs.Sessions.{chooses, hooks_chosen}
use Rattle.history_laws.specs.EntryNumbers.{numbers_of}

-- the numbers of the choices of the session that an entry commits, aborts or deletes
unfoldable pub choices_for : Point → List Entry → List ℕ
choices_for (Commit manifest content text chunks bytes fresh fresh_bytes uses) past = numbers_of (chooses manifest.session) past
choices_for (Abort session containers texts) past = numbers_of (chooses session) past
choices_for (Delete name (Some session)) past = numbers_of (chooses session) past
choices_for _ past = []

-- the hooks that the entry with a number chose with
unfoldable pub hooks_at : List Entry → ℕ → List Name
hooks_at entries n = unwrap_or (option_map (λ (entry : Entry). hooks_chosen entry.point) (slice_get entries n)) []

-- of the choices with these numbers, the hooks of the one in a place
unfoldable pub hooks_of : List Entry → List ℕ → ℕ → List Name
hooks_of entries choices place = unwrap_or (option_map (hooks_at entries) (slice_get choices place)) []

-- whether a manifest, if it is the session's, was chosen with the hook: the choice in the place of its seq has it
unfoldable pub was_chosen : List Entry → List ℕ → ℕ → Name → Standing → Bool
was_chosen entries choices session hook stands =
    not (stands.id.session == session) || has_name hook (hooks_of entries choices stands.id.seq)
