-- Entries by their numbers, of which the first entry has 0 (this project's own).
use Rattle.std.specs.Prelude.{ℕ, ◌≡◌, Bool, List, [], ◌∷◌, ◌++◌, length, map, reverse, slice_get, Option, None, Some, option_and_then, unwrap_or, if◌then◌else◌}
use Rattle.ss_base.specs.declared.ids.ContainerId.{ContainerId}
use Rattle.ss_base.specs.declared.ids.ManifestId.{ManifestId}
use Rattle.journal_entry.specs.declared.entry.Entry.{Entry}
use Rattle.journal_entry.specs.declared.entry.Seen.{Seen}
use Rattle.journal_entry.specs.declared.entry.Point.{Point}
use Rattle.journal_entry.specs.declared.entry.Point.TheVariants.{Commit}
use Rattle.history.specs.Sessions.{newest, chooses, looks, champions_chosen, reading_begun}

-- the numbers of the entries that do something, ascending
unfoldable pub numbers_of : (Point → Bool) → List Entry → List ℕ
numbers_of does [] = []
numbers_of does (entry ∷ past) = if does entry.point then numbers_of does past ++ length past ∷ [] else numbers_of does past

-- the entry with a number
unfoldable pub entry_at : ℕ → List Entry → Option Entry
entry_at n past = slice_get (reverse past) n

-- the manifest that an entry commits
unfoldable pub manifest_of : Point → Option ManifestId
manifest_of (Commit manifest content text chunks bytes fresh fresh_bytes uses) = Some manifest
manifest_of _ = None

-- the containers in which the chunks lie that an entry commits
unfoldable pub uses_listed : Point → List ContainerId
uses_listed (Commit manifest content text chunks bytes fresh fresh_bytes uses) = uses
uses_listed _ = []

-- the manifest that the entry with a number commits
unfoldable pub committed_at : List Entry → ℕ → Option ManifestId
committed_at past n = option_and_then (λ (entry : Entry). manifest_of entry.point) (entry_at n past)

-- the entries with these numbers commit these manifests, one each
unfoldable pub CommitThese : List ℕ → List ManifestId → List Entry → Type 0
CommitThese numbers ids past = map (committed_at past) numbers ≡ map (λ id. Some id) ids

-- the champions of the session's last choice, whether it is pending or not
unfoldable pub last_champions : ℕ → List Entry → List ManifestId
last_champions session past =
    unwrap_or (option_and_then (λ (entry : Entry). champions_chosen entry.point) (newest (chooses session) past)) []

-- what a reading was begun with: its number and the session whose stream it reads
unfoldable pub reading : ℕ → List Entry → Option Seen
reading reader past = option_and_then (λ (entry : Entry). reading_begun entry.point) (newest (looks reader) past)
