-- What a backup wrote to its depot, by its history (this project's own).
use Rattle.std.specs.Prelude.{◌≡◌, ◌⊎◌, true, List, [], ◌∷◌, ◌++◌, map, option_map}
use Rattle.ss_base.specs.declared.ids.ManifestId.{ManifestId}
use Rattle.ss_base.specs.declared.object.Object.TheVariants.{Manifest}
use Rattle.ss_base.specs.declared.profile.Numbers.{Numbers}
use Rattle.ss_base.specs.ObjectName.{object_text}
use Rattle.manifest_codec.specs.Text.{manifest_text}
use Rattle.container_file.specs.Layout.{Written as PutBytes}
use Rattle.segment_plan.specs.Plan.{Located, puts_against}
use Rattle.outside.specs.Shelf.{Written, write_of}
use Rattle.outside.specs.Views.{ShelfView}
use Rattle.journal_entry.specs.declared.entry.Entry.{Entry}
use Rattle.journal_entry.specs.declared.entry.Point.{Point}
use Rattle.journal_entry.specs.declared.entry.Point.TheVariants.{Commit, Abort}
use Rattle.history.specs.Sessions.{is_pending, pending_champions}
use Rattle.depot.specs.Storing.{put_name}
use Rattle.stored_streams.specs.Streams.{Streams, manifest_chunks, manifest_pieces}
use Rattle.stored_streams.specs.Plans.{Planned, end_of, located_of, plan_for, plans_of}
use Rattle.stored_streams.specs.OfStreams.{next_of}
use Rattle.stored_streams.specs.Reads.{Reads, IsGiven}
use Rattle.stored_streams.specs.Collision.{Collide}

-- a put, as a depot tells it
abbrev pub write_of_put : PutBytes → Written
write_of_put put = write_of (put_name put) put.bytes

-- what is written of a manifest's segment that is planned against what is located, behind these plans: the puts of its
-- fresh chunks, and then the manifest
unfoldable pub segment_writes : Numbers → Streams → ManifestId → List Located → List Planned → List Written
segment_writes n streams id located plans =
    map write_of_put (puts_against (manifest_chunks n streams id) located (end_of id.session plans) n.room)
    ++ write_of (object_text (Manifest id)) (manifest_text (manifest_pieces n streams id) (plan_for n streams id located plans).places) ∷ []

-- against its session's pending champions
unfoldable pub next_writes : Numbers → Streams → List Entry → ManifestId → List Written
next_writes n streams past id =
    let plans = plans_of n streams past in
    segment_writes n streams id (located_of n streams (pending_champions id.session past) plans) plans

-- a Commit stands for the writes of its segment
abbrev pub entry_writes : Numbers → Streams → List Entry → Point → List Written
entry_writes n streams past (Commit id content text chunks bytes fresh fresh_bytes uses) = next_writes n streams past id
entry_writes n streams past _ = []

-- the writes of the newer entries of a history, in order
unfoldable pub writes_since : Numbers → Streams → List Entry → List Entry → List Written
writes_since n streams [] older = []
writes_since n streams (entry ∷ newer) older = writes_since n streams newer older ++ entry_writes n streams (newer ++ older) entry.point

-- a session that is given up with a choice pending: a front of what the chosen segment would have
abbrev pub IsFrontOf : Numbers → Streams → List Entry → Point → List Written → Type 0
IsFrontOf n streams past (Abort session containers texts) front =
    (is_pending session past ≡ true) × (back : List Written) × (next_writes n streams past (next_of session past) ≡ front ++ back)
IsFrontOf n streams past _ front = ⊥

-- nothing more; or such a front, where the newest entry gives a session up
abbrev pub IsRest : Numbers → Streams → List Entry → List Entry → List Written → Type 0
IsRest n streams [] older rest = rest ≡ []
IsRest n streams (entry ∷ newer) older rest = (rest ≡ []) ⊎ IsFrontOf n streams (newer ++ older) entry.point rest

-- the writes are those of the newer entries, and perhaps of a segment that was given up
pub record AreWritesOf (n : Numbers) (streams : Streams) (older past : List Entry) (writes : List Written) : Type 0 where
  pub newer : List Entry
  pub past_is : past ≡ newer ++ older
  pub rest : List Written
  pub writes_are : writes ≡ writes_since n streams newer older ++ rest
  pub rest_is : IsRest n streams newer older rest

-- the writes that a depot tells behind those before
abbrev pub WritesMore : ShelfView → ShelfView → List Written → Type 0
WritesMore depot depot' writes = depot'.wrote ≡ option_map (λ wrote. wrote ++ writes) depot.wrote

-- What a backup wrote, where its depot tells it: the writes of the entries that were added, or there is a collision among
-- what was hashed, and these reads can have given. It erased nothing.
pub record HasWritten (n : Numbers) (streams : Streams) (reads : List Reads) (older past : List Entry) (depot depot' : ShelfView) : Type 0 where
  pub writes : List Written
  pub more : WritesMore depot depot' writes
  pub erased : depot'.erased ≡ depot.erased
  pub are : AreWritesOf n streams older past writes ⊎ Collide n streams past (IsGiven reads past)
