-- What a plan of a segment says (this project's own).
use Rattle.std.specs.Prelude.{ℕ, ◌≡◌, ◌<◌, ◌≤◌, ◌+◌, ◌*◌, ◌^◌, List, length, map, Contains}
use Rattle.std.specs.List.{sum_by}
use Rattle.ss_base.specs.declared.ids.ContainerId.{ContainerId}
use Rattle.ss_base.specs.declared.limits.TheConstants.{MAX_CHUNK_LEN, MAX_CHUNKS}
use Rattle.ss_base.specs.declared.name.Piece.{Piece}
use Rattle.chunk_name.specs.Pieces.{name_of_bytes, pieces}
use Rattle.segmenter.specs.declared.segment.Segment.{Segment}
use Rattle.segmenter.specs.Joined.{parts_of}
use Rattle.manifest_codec.specs.declared.manifest.Manifest.{Manifest}
use Rattle.manifest_codec.specs.PiecesPart.{pieces_part}
use Rattle.manifest_codec.specs.Text.{manifest_text}
use Rattle.manifest_codec.specs.Containers.{AreContainers}
use Rattle.container_file.specs.declared.container_end.ContainerEnd.{ContainerEnd}
use Rattle.container_file.specs.declared.layout.Put.{Put}
use Rattle.container_file.specs.Chunk.{Chunk}
use Rattle.container_file.specs.Layout.{written}
use Rattle.segment_plan.specs.declared.segment_plan.SegmentPlan.{SegmentPlan}
use Rattle.segment_plan.specs.Plan.{Located, pieces_of, fresh_of, places_against, end_against, puts_against}
use Rattle.segment_plan.specs.Located.{MayUse}

-- the chunks of a segment
abbrev pub segment_chunks : Segment → List (List ℕ)
segment_chunks segment = parts_of segment.pieces.items segment.bytes.items

-- manifests, as a segment is planned against them
abbrev pub located : List Manifest → List Located
located manifests = map (λ (m : Manifest). record { pieces = m.pieces.items; places = m.places.items }) manifests

-- how many bytes some pieces stand for
abbrev pub total_len : List Piece → ℕ
total_len pieces = sum_by (λ (p : Piece). p.len) pieces

-- how many bytes puts have
abbrev pub puts_len : List Put → ℕ
puts_len puts = sum_by (λ (put : Put). length put.bytes.items) puts

-- the plan of a segment with these chunks, against these manifests, behind what the session has stored
pub record IsPlanOf (chunks : List (List ℕ)) (manifests : List Located) (before : ContainerEnd) (room : ℕ) (plan : SegmentPlan) : Type 0 where
  pub puts : map written plan.puts.items ≡ puts_against chunks manifests before room
  pub end : plan.end ≡ end_against chunks manifests before room
  pub text : plan.text.items ≡ manifest_text (pieces chunks) (places_against chunks manifests before room)
  pub content : plan.content ≡ name_of_bytes (pieces_part (pieces chunks))
  pub chunk_count : plan.chunks ≡ length (pieces chunks)
  pub byte_count : plan.bytes ≡ total_len (pieces chunks)
  pub fresh_count : plan.fresh ≡ length (fresh_of chunks (pieces_of manifests))
  pub fresh_len : plan.fresh_bytes ≡ total_len (map (λ (c : Chunk). c.piece) (fresh_of chunks (pieces_of manifests)))
  pub uses : AreContainers (places_against chunks manifests before room) plan.uses.items

-- the numbers of a plan are those of a commit
pub record HasCounts (plan : SegmentPlan) : Type 0 where
  pub some : 1 ≤ plan.chunks
  pub chunks : plan.chunks ≤ MAX_CHUNKS
  pub bytes : plan.chunks ≤ plan.bytes
  pub bounded : plan.bytes ≤ MAX_CHUNKS * MAX_CHUNK_LEN
  pub fresh : plan.fresh ≤ plan.chunks
  pub fresh_bytes : plan.fresh_bytes ≤ plan.bytes

-- its uses are those of a commit: at most as many as chunks, each the session's own or that of a manifest
pub record HasUses (manifests : List Located) (plan : SegmentPlan) : Type 0 where
  pub count : length plan.uses.items ≤ MAX_CHUNKS
  pub each : (id : ContainerId) → Contains plan.uses.items id → MayUse manifests plan.end id

-- it goes on behind what was there, by at most one container for each fresh chunk
pub record GoesOn (before : ContainerEnd) (plan : SegmentPlan) : Type 0 where
  pub session : plan.end.session ≡ before.session
  pub least : before.containers ≤ plan.end.containers
  pub most : plan.end.containers ≤ before.containers + plan.fresh

-- the bytes of its puts are at least those of the fresh chunks' records, 36 more than those of each chunk
pub record HasPuts (plan : SegmentPlan) : Type 0 where
  pub least : 36 * plan.fresh + plan.fresh_bytes ≤ puts_len plan.puts.items
  pub bounded : puts_len plan.puts.items < 2 ^ 64

-- what a commit and the depot ask of a plan
pub record CanBeStored (manifests : List Located) (before : ContainerEnd) (plan : SegmentPlan) : Type 0 where
  pub counts : HasCounts plan
  pub uses : HasUses manifests plan
  pub goes_on : GoesOn before plan
  pub puts : HasPuts plan
