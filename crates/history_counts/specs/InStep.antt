-- What stays true of the counts while an entry is taken in (this project's own).
use Rattle.std.specs.Prelude.{ℕ, ◌≡◌, ◌+◌, ◌==◌, ◌&&◌, nat_lt, Bool, true, false, List, count_by}
use Rattle.std.specs.Option.{option_map_or}
use Rattle.ss_base.specs.declared.ids.ContainerId.{ContainerId}
use Rattle.ss_base.specs.declared.ids.ManifestId.{ManifestId}
use Rattle.ss_base.specs.declared.object.Object.{Object}
use Rattle.ss_base.specs.Ids.{same_manifest, has_container}
use Rattle.journal_entry.specs.declared.entry.Entry.{Entry}
use Rattle.journal_entry.specs.declared.entry.Point.{Point}
use Rattle.journal_entry.specs.declared.entry.Point.TheVariants.{Commit}
use Rattle.history.specs.declared.rules.Rules.{Rules}
use Rattle.history.specs.Sessions.{has}
use Rattle.history.specs.Legal.{is_legal}
use Rattle.history_laws.specs.EntryNumbers.{committed_at}
use Rattle.pins_counts.specs.Counts.{Counted, use_number, hold_number, is_ready}
use Rattle.history_counts.specs.CountsOf.{lists_object}

-- the entries are a legal history by some rules
abbrev pub IsHistory : List Entry → Type 0
IsHistory past = (rules : Rules) × (is_legal rules past ≡ true)

-- whether an entry commits a manifest that has a hold, with chunks in the container
unfoldable pub uses_held : Counted → ContainerId → Point → Bool
uses_held counted id (Commit manifest content text chunks bytes fresh fresh_bytes uses) = has_container id uses && nat_lt 0 (hold_number counted manifest)
uses_held counted id _ = false

-- each use is one of a manifest that has a hold, and each object that a Commit lists has room for a number
pub record Agrees (counted : Counted) (past : List Entry) : Type 0 where
  pub uses_agree : (id : ContainerId) → use_number counted id ≡ count_by (λ (entry : Entry). uses_held counted id entry.point) past
  pub ready_are : (object : Object) → has (lists_object object) past ≡ true → is_ready counted object ≡ true

-- whether the entry with a number commits the manifest
unfoldable pub commits_at : ManifestId → List Entry → ℕ → Bool
commits_at id past n = option_map_or (same_manifest id) (committed_at past n) false

-- how many of the entries with these numbers commit the manifest
unfoldable pub times : List ℕ → List Entry → ManifestId → ℕ
times numbers past id = count_by (commits_at id past) numbers

-- the second has so many holds more than the first, and else they differ in uses alone
pub record HasHolds (more : ManifestId → ℕ) (less counted : Counted) : Type 0 where
  pub holds : (id : ManifestId) → hold_number counted id ≡ hold_number less id + more id
  pub ready : (object : Object) → is_ready counted object ≡ is_ready less object
  pub sessions : counted.sessions ≡ less.sessions
  pub gone : counted.gone ≡ less.gone

-- whether an entry commits a manifest that has no hold, with chunks in the container
unfoldable pub gives_up : Counted → ContainerId → Point → Bool
gives_up counted id (Commit manifest content text chunks bytes fresh fresh_bytes uses) = has_container id uses && (hold_number counted manifest == 0)
gives_up counted id _ = false
