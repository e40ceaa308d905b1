-- A legal history that is that of some streams (this project's own).
use Rattle.std.specs.Prelude.{ℕ, ◌≡◌, ◌<◌, ◌≤◌, true, false, List, [], ◌∷◌, length, map}
use Rattle.ss_base.specs.declared.ids.ContainerId.{ContainerId}
use Rattle.ss_base.specs.declared.ids.ManifestId.{ManifestId}
use Rattle.ss_base.specs.declared.name.Name.{Name}
use Rattle.ss_base.specs.declared.profile.Numbers.{Numbers}
use Rattle.chunk_name.specs.Pieces.{name_of_bytes}
use Rattle.hook_sampler.specs.Hooks.{hooks}
use Rattle.manifest_codec.specs.Text.{manifest_text}
use Rattle.manifest_codec.specs.PiecesPart.{pieces_part}
use Rattle.manifest_codec.specs.Containers.{AreContainers}
use Rattle.container_file.specs.Chunk.{Chunk}
use Rattle.segment_plan.specs.Plan.{Located, pieces_of, fresh_of}
use Rattle.segment_plan.specs.Planned.{total_len}
use Rattle.journal_entry.specs.declared.entry.Entry.{Entry}
use Rattle.journal_entry.specs.declared.entry.Point.{Point}
use Rattle.journal_entry.specs.declared.entry.Point.TheVariants.{Choose, Commit, Finish, Abort}
use Rattle.history.specs.Sessions.{commits_of, is_pending, pending_champions}
use Rattle.stored_streams.specs.Streams.{Streams, segment_count, manifest_chunks, manifest_pieces}
use Rattle.stored_streams.specs.Plans.{Planned, located_of, plan_for, plans_of, end_of}

-- the manifest of the session's next commit
abbrev pub next_of : ℕ → List Entry → ManifestId
next_of session past = record { session = session; seq = commits_of session past }

-- ---- contents: what is chosen and committed is of the session's stream

-- a choice is for the session's next segment, and has its hooks
pub record ChoosesSegment (n : Numbers) (streams : Streams) (past : List Entry) (session : ℕ) (chosen : List Name) : Type 0 where
  pub there : commits_of session past < segment_count n streams session
  pub hooks_are : chosen ≡ hooks n.bits (manifest_pieces n streams (next_of session past))

-- a commit has its segment's number of chunks, bytes and content digest
pub record HoldsSegment (n : Numbers) (streams : Streams) (id : ManifestId) (content : Name) (chunks bytes : ℕ) : Type 0 where
  pub there : id.seq < segment_count n streams id.session
  pub chunk_count : chunks ≡ length (manifest_pieces n streams id)
  pub byte_count : bytes ≡ total_len (manifest_pieces n streams id)
  pub digest : content ≡ name_of_bytes (pieces_part (manifest_pieces n streams id))

abbrev pub ContentOf : Numbers → Streams → List Entry → Point → Type 0
ContentOf n streams past (Choose session chosen champions) = ChoosesSegment n streams past session chosen
ContentOf n streams past (Commit id content text chunks bytes fresh fresh_bytes uses) = HoldsSegment n streams id content chunks bytes
ContentOf n streams past _ = Unit {0}

-- a session finishes only where all its segments are committed
abbrev pub IsComplete : Numbers → Streams → List Entry → Point → Type 0
IsComplete n streams past (Finish session containers) = commits_of session past ≡ segment_count n streams session
IsComplete n streams past _ = Unit {0}

-- ---- stored: what a commit says of what it stored

-- Of a segment that is planned against what is located, behind these plans: the numbers of its fresh chunks, the
-- containers of its places, and its text's digest.
pub record StoresSegment (n : Numbers) (streams : Streams) (id : ManifestId) (located : List Located) (plans : List Planned) (text : Name) (fresh fresh_bytes : ℕ) (uses : List ContainerId) : Type 0 where
  pub fresh_count : fresh ≡ length (fresh_of (manifest_chunks n streams id) (pieces_of located))
  pub fresh_sum : fresh_bytes ≡ total_len (map (λ (c : Chunk). c.piece) (fresh_of (manifest_chunks n streams id) (pieces_of located)))
  pub containers : AreContainers (plan_for n streams id located plans).places uses
  pub digest : text ≡ name_of_bytes (manifest_text (manifest_pieces n streams id) (plan_for n streams id located plans).places)

-- a commit stores its segment against its session's pending champions
abbrev pub StoredOf : Numbers → Streams → List Entry → Point → Type 0
StoredOf n streams past (Commit id content text chunks bytes fresh fresh_bytes uses) =
    let plans = plans_of n streams past in
    StoresSegment n streams id (located_of n streams (pending_champions id.session past) plans) plans text fresh fresh_bytes uses
StoredOf n streams past _ = Unit {0}

-- ---- ends: how many containers a session ended with

-- A session that is given up has as many containers as are laid out for its commits, or, where a choice is pending, up
-- to as many as with the segment laid out that was chosen for.
pub record AbortsWith (n : Numbers) (streams : Streams) (past : List Entry) (session containers : ℕ) : Type 0 where
  pub least : (end_of session (plans_of n streams past)).containers ≤ containers
  pub idle : is_pending session past ≡ false → containers ≡ (end_of session (plans_of n streams past)).containers
  pub pending : is_pending session past ≡ true →
      containers ≤ (let plans = plans_of n streams past in plan_for n streams (next_of session past) (located_of n streams (pending_champions session past) plans) plans).end.containers

abbrev pub EndOf : Numbers → Streams → List Entry → Point → Type 0
EndOf n streams past (Finish session containers) = containers ≡ (end_of session (plans_of n streams past)).containers
EndOf n streams past (Abort session containers texts) = AbortsWith n streams past session containers
EndOf n streams past _ = Unit {0}

-- an entry that stores nothing: no choice, commit or end of a session
abbrev pub StoresNothing : Point → Type 0
StoresNothing (Choose session chosen champions) = ⊥
StoresNothing (Commit id content text chunks bytes fresh fresh_bytes uses) = ⊥
StoresNothing (Finish session containers) = ⊥
StoresNothing (Abort session containers texts) = ⊥
StoresNothing _ = Unit {0}

-- ---- the parts of a history

-- each entry has what is asked of it after those before it
abbrev pub EachEntry : (List Entry → Point → Type 0) → List Entry → Type 0
EachEntry asks [] = Unit {0}
EachEntry asks (entry ∷ past) = EachEntry asks past × asks past entry.point

-- the part that holds without exception: the contents, and that only a complete session finishes
pub record HasContents (n : Numbers) (streams : Streams) (past : List Entry) : Type 0 where
  pub contents : EachEntry (ContentOf n streams) past
  pub complete : EachEntry (IsComplete n streams) past

-- the part that holds unless there is a collision: what is stored, and how many containers each session ended with
pub record HasStored (n : Numbers) (streams : Streams) (past : List Entry) : Type 0 where
  pub stored : EachEntry (StoredOf n streams) past
  pub ends : EachEntry (EndOf n streams) past

-- a history of these streams
pub record IsOfStreams (n : Numbers) (streams : Streams) (past : List Entry) : Type 0 where
  pub contents : HasContents n streams past
  pub stored : HasStored n streams past
