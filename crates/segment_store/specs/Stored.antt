-- What is stored of a segment, and what a commit asks of it (this project's own).
use Rattle.std.specs.Prelude.{ℕ, ◌≡◌, ◌<◌, ◌≤◌, ◌+◌, ◌*◌, ◌^◌, true, List, length, map, Contains}
use Rattle.std.specs.List.{sum_by}
use Rattle.ss_base.specs.declared.ids.ContainerId.{ContainerId}
use Rattle.ss_base.specs.declared.ids.ManifestId.{ManifestId}
use Rattle.ss_base.specs.declared.object.Object.TheVariants.{Manifest}
use Rattle.ss_base.specs.ObjectName.{object_text}
use Rattle.ss_base.specs.Order.{are_ascending}
use Rattle.chunk_name.specs.Pieces.{name_of_bytes, pieces}
use Rattle.manifest_codec.specs.PiecesPart.{pieces_part}
use Rattle.manifest_codec.specs.Text.{manifest_text}
use Rattle.manifest_codec.specs.Containers.{AreContainers}
use Rattle.container_file.specs.declared.container_end.ContainerEnd.{ContainerEnd}
use Rattle.container_file.specs.Chunk.{Chunk}
use Rattle.container_file.specs.Layout.{Written as PutBytes}
use Rattle.segment_plan.specs.declared.segment_plan.SegmentPlan.{SegmentPlan}
use Rattle.segment_plan.specs.Plan.{Located, pieces_of, fresh_of, places_against, puts_against}
use Rattle.segment_plan.specs.Planned.{total_len}
use Rattle.segment_plan.specs.Located.{MayUse}
use Rattle.journal_entry.specs.Bounds.{are_counts, most_uses}
use Rattle.store_core.specs.declared.values.Stored.{Stored}
use Rattle.outside.specs.Views.{ShelfView}
use Rattle.depot.specs.Calls.{after_create}
use Rattle.depot.specs.Storing.{after_puts}
use Rattle.depot.specs.Tokens.{WrittenView}

-- the text of the manifest of a segment with these chunks, planned against these manifests
abbrev pub text_against : List (List ℕ) → List Located → ContainerEnd → ℕ → List ℕ
text_against chunks manifests end room = manifest_text (pieces chunks) (places_against chunks manifests end room)

-- after a segment is stored: its fresh chunks are put, and then its manifest is made
abbrev pub after_segment : ShelfView → ManifestId → List (List ℕ) → List Located → ContainerEnd → ℕ → ShelfView
after_segment shelf id chunks manifests end room =
    after_create (after_puts shelf (puts_against chunks manifests end room)) (object_text (Manifest id)) (text_against chunks manifests end room)

-- how many bytes are put
abbrev pub bytes_put : List PutBytes → ℕ
bytes_put puts = sum_by (λ (put : PutBytes). length put.bytes) puts

-- what a commit says of a segment with these chunks, stored against these manifests
pub record IsStoredOf (chunks : List (List ℕ)) (manifests : List Located) (end : ContainerEnd) (room : ℕ) (stored : Stored) : Type 0 where
  pub content : stored.content ≡ name_of_bytes (pieces_part (pieces chunks))
  pub text : stored.text ≡ name_of_bytes (text_against chunks manifests end room)
  pub chunk_count : stored.chunks ≡ length (pieces chunks)
  pub byte_count : stored.bytes ≡ total_len (pieces chunks)
  pub fresh_count : stored.fresh ≡ length (fresh_of chunks (pieces_of manifests))
  pub fresh_len : stored.fresh_bytes ≡ total_len (map (λ (c : Chunk). c.piece) (fresh_of chunks (pieces_of manifests)))
  pub uses : AreContainers (places_against chunks manifests end room) stored.uses.items

-- what a commit says of a plan that was stored
abbrev pub stored_by : SegmentPlan → Stored
stored_by plan = record {
  content = plan.content;
  text = name_of_bytes plan.text.items;
  chunks = plan.chunks;
  bytes = plan.bytes;
  fresh = plan.fresh;
  fresh_bytes = plan.fresh_bytes;
  uses = plan.uses;
}

-- what shows that it is written: of this manifest and text, behind these puts, which have the fresh chunks and 36 bytes
-- more for each
pub record IsWrittenFor (id : ManifestId) (puts : List PutBytes) (stored : Stored) (written : WrittenView) : Type 0 where
  pub id_is : written.id ≡ id
  pub text_is : written.text ≡ stored.text
  pub sum_is : written.sum ≡ bytes_put puts
  pub least : 36 * stored.fresh + stored.fresh_bytes ≤ written.sum

-- Containers go on behind what was there, by at most so many.
pub record GoesOn (before after : ContainerEnd) (most_new : ℕ) : Type 0 where
  pub session : after.session ≡ before.session
  pub least : before.containers ≤ after.containers
  pub most : after.containers ≤ before.containers + most_new

-- What is stored is within the bounds of a commit. Each use is a container of the session's own, as far as they go
-- then, or one of a manifest.
pub record CanBeCommitted (manifests : List Located) (end : ContainerEnd) (stored : Stored) : Type 0 where
  pub counts : are_counts stored.chunks stored.bytes stored.fresh stored.fresh_bytes ≡ true
  pub ascending : are_ascending stored.uses.items ≡ true
  pub most : length stored.uses.items ≤ most_uses
  pub each : (id : ContainerId) → Contains stored.uses.items id → MayUse manifests end id
  pub few : end.containers < 2 ^ 32
