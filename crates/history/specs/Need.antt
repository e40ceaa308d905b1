-- Which stored objects a history still needs, and which can be erased (this project's own).
use Rattle.std.specs.Prelude.{ℕ, Bool, false, ◌==◌, ◌&&◌, ◌||◌, not, List, filter, map, Option, None, Some, option_and_then}
use Rattle.std.specs.List.{list_any, range_with_len}
use Rattle.ss_base.specs.declared.ended.Ended.{Ended}
use Rattle.ss_base.specs.declared.ids.ContainerId.{ContainerId}
use Rattle.ss_base.specs.declared.ids.ManifestId.{ManifestId}
use Rattle.ss_base.specs.declared.object.Object.{Object}
use Rattle.ss_base.specs.declared.object.Object.TheVariants.{Container, Manifest}
use Rattle.ss_base.specs.Ids.{same_manifest, has_manifest, has_container, has_object}
use Rattle.ss_base.specs.KnownObjects.{known_objects}
use Rattle.journal_entry.specs.declared.entry.Entry.{Entry}
use Rattle.journal_entry.specs.declared.entry.Seen.{Seen}
use Rattle.journal_entry.specs.declared.entry.Point.{Point}
use Rattle.journal_entry.specs.declared.entry.Point.TheVariants.{Commit, Finish, Abort, Reclaim}
use Rattle.history.specs.Sessions.{sessions, session_count, readings, closes, has, newest, is_unfinished, is_retained, is_reading, commits_of, pending_champions}

-- whether a manifest is a champion of a pending choice
unfoldable pub is_champion : ManifestId → List Entry → Bool
is_champion id past = list_any (λ session. has_manifest id (pending_champions session past)) (sessions past)

-- whether a session's stream is being read
unfoldable pub is_being_read : ℕ → List Entry → Bool
is_being_read session past = list_any (λ (seen : Seen). (seen.session == session) && is_reading seen.reader past) (readings past)

-- a manifest is pinned while it is a champion of a pending choice, or its session's stream is being read
unfoldable pub is_pinned : ManifestId → List Entry → Bool
is_pinned id past = is_champion id past || is_being_read id.session past

-- whether an entry commits the manifest
unfoldable pub commits_manifest : ManifestId → Point → Bool
commits_manifest id (Commit manifest content text chunks bytes fresh fresh_bytes uses) = same_manifest id manifest
commits_manifest id _ = false

-- A manifest is live where it is committed, and its session is unfinished, or its stream is retained, or it is
-- pinned.
unfoldable pub is_live : ManifestId → List Entry → Bool
is_live id past =
    has (commits_manifest id) past
    && (is_unfinished id.session past || (is_retained id.session past || is_pinned id past))

-- whether an entry commits a live manifest whose chunks lie in the container
unfoldable pub uses_live : ContainerId → List Entry → Point → Bool
uses_live id past (Commit manifest content text chunks bytes fresh fresh_bytes uses) = has_container id uses && is_live manifest past
uses_live id past _ = false

-- a container is needed where its session is unfinished, or a live manifest has chunks in it
unfoldable pub is_needed : ContainerId → List Entry → Bool
is_needed id past = is_unfinished id.session past || has (uses_live id past) past

-- what an entry closes its session with: its containers, and the manifests that it wrote
unfoldable pub ended_by : List Entry → Point → Option Ended
ended_by past (Finish session containers) = Some (record { containers = containers; texts = commits_of session past })
ended_by past (Abort session containers texts) = Some (record { containers = containers; texts = texts })
ended_by past _ = None

-- what a session was closed with; none before that
unfoldable pub ended : ℕ → List Entry → Option Ended
ended session past = option_and_then (λ (entry : Entry). ended_by past entry.point) (newest (closes session) past)

-- what each session was closed with, session by session
unfoldable pub all_ended : List Entry → List (Option Ended)
all_ended past = map (λ session. ended session past) (range_with_len 0 (session_count past))

-- the known objects, which are those of closed sessions, in the order of objects
unfoldable pub known : List Entry → List Object
known past = known_objects (all_ended past)

-- whether an entry gives the object over to be removed
unfoldable pub reclaims : Object → Point → Bool
reclaims object (Reclaim objects) = has_object object objects
reclaims object _ = false

-- whether an object is still wanted: a container that is needed, a manifest that is live
unfoldable pub is_wanted : Object → List Entry → Bool
is_wanted (Container id) past = is_needed id past
is_wanted (Manifest id) past = is_live id past

unfoldable pub is_erasable : Object → List Entry → Bool
is_erasable object past = not (has (reclaims object) past) && not (is_wanted object past)

-- what can be erased: the known objects that no Reclaim has named and that are not wanted
unfoldable pub erasable : List Entry → List Object
erasable past = filter (λ object. is_erasable object past) (known past)
