-- Counts that are the recount over the entries of a history, newest first (this project's own).
use Rattle.std.specs.Prelude.{ℕ, ◌≡◌, ◌<◌, Bool, true, List, ◌∷◌, Some, if◌then◌else◌}
use Rattle.ss_base.specs.declared.ids.ContainerId.{ContainerId}
use Rattle.ss_base.specs.declared.ids.ManifestId.{ManifestId}
use Rattle.ss_base.specs.declared.object.Object.{Object}
use Rattle.ss_base.specs.declared.object.Object.TheVariants.{Container, Manifest}
use Rattle.ss_base.specs.Ids.{has_container, has_object}
use Rattle.journal_entry.specs.declared.entry.Entry.{Entry}
use Rattle.journal_entry.specs.declared.entry.Point.{Point}
use Rattle.journal_entry.specs.declared.entry.Point.TheVariants.{Begin, Commit, Reclaim}
use Rattle.history.specs.Sessions.{has}
use Rattle.history.specs.Need.{commits_manifest, all_ended, reclaims}
use Rattle.history_laws.specs.Recount.{holds, uses_of}
use Rattle.history_laws.specs.EntryNumbers.{uses_listed}
use Rattle.pins_counts.specs.Counts.{Counted, use_number, hold_number, is_ready, is_gone, containers}

-- how often a committed manifest is held; 0 of one that isn't committed
unfoldable pub held : ManifestId → List Entry → ℕ
held id past = if has (commits_manifest id) past then holds id past else 0

-- whether an entry commits the manifest, or a manifest with chunks in the container
unfoldable pub lists_object : Object → Point → Bool
lists_object (Container id) point = has_container id (uses_listed point)
lists_object (Manifest id) point = commits_manifest id point

-- the numbers are those of the recount, and each object that a Commit lists has room for one
pub record AreCountsOf (counted : Counted) (past : List Entry) : Type 0 where
  pub holds_are : (id : ManifestId) → hold_number counted id ≡ held id past
  pub uses_are : (id : ContainerId) → use_number counted id ≡ uses_of id past
  pub sessions_are : counted.sessions ≡ all_ended past
  pub gone_are : (object : Object) → is_gone counted object ≡ has (reclaims object) past
  pub ready_are : (object : Object) → has (lists_object object) past ≡ true → is_ready counted object ≡ true

-- there is room for what an entry adds
abbrev pub HasRoomFor : Point → Counted → Type 0
HasRoomFor (Begin name (Some session)) counted = 0 < counted.room
HasRoomFor (Commit manifest content text chunks bytes fresh fresh_bytes uses) counted =
    (object : Object) → has_object object (Manifest manifest ∷ containers uses) ≡ true → is_ready counted object ≡ true
HasRoomFor (Reclaim objects) counted = (object : Object) → has_object object objects ≡ true → is_ready counted object ≡ true
HasRoomFor _ counted = Unit {0}
