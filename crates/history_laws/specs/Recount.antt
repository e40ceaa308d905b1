-- How often each object is needed, counted anew over a history (this project's own).
use Rattle.std.specs.Prelude.{ℕ, ◌+◌, ◌==◌, ◌&&◌, ◌||◌, List, count_by, if◌then◌else◌}
use Rattle.ss_base.specs.declared.ids.ContainerId.{ContainerId}
use Rattle.ss_base.specs.declared.ids.ManifestId.{ManifestId}
use Rattle.ss_base.specs.Ids.{has_manifest}
use Rattle.journal_entry.specs.declared.entry.Entry.{Entry}
use Rattle.journal_entry.specs.declared.entry.Seen.{Seen}
use Rattle.history.specs.Sessions.{sessions, readings, is_unfinished, is_retained, is_reading, pending_champions}
use Rattle.history.specs.Need.{uses_live}

-- how often a manifest is pinned: once by each pending choice of which it is a champion, and once by each unfinished
-- reading of its session
unfoldable pub pins : ManifestId → List Entry → ℕ
pins id past =
    count_by (λ session. has_manifest id (pending_champions session past)) (sessions past)
    + count_by (λ (seen : Seen). (seen.session == id.session) && is_reading seen.reader past) (readings past)

-- how often a manifest is held: once for its session while that is unfinished or retained, and once for each pin
unfoldable pub holds : ManifestId → List Entry → ℕ
holds id past = (if is_unfinished id.session past || is_retained id.session past then 1 else 0) + pins id past

-- how many live manifests have chunks in the container
unfoldable pub uses_of : ContainerId → List Entry → ℕ
uses_of id past = count_by (λ (entry : Entry). uses_live id past entry.point) past
