-- The streams of a history's sessions (this project's own).
use Rattle.std.specs.Prelude.{ℕ, List, [], length, map}
use Rattle.std.specs.List.{slice_index_or}
use Rattle.ss_base.specs.declared.ids.ManifestId.{ManifestId}
use Rattle.ss_base.specs.declared.name.Piece.{Piece}
use Rattle.ss_base.specs.declared.profile.Numbers.{Numbers}
use Rattle.segment_reader.specs.SegmentsOf.{segments_of}
use Rattle.chunk_name.specs.Pieces.{piece}

-- a stream table: the bytes of each session
abbrev pub Streams : Type 0
Streams = ℕ → List ℕ

-- how many segments the session's stream has
unfoldable pub segment_count : Numbers → Streams → ℕ → ℕ
segment_count n streams session = length (segments_of n (streams session))

-- the chunks of a manifest's segment: of its session's stream the one with the manifest's number, none past the last
unfoldable pub manifest_chunks : Numbers → Streams → ManifestId → List (List ℕ)
manifest_chunks n streams id = slice_index_or (segments_of n (streams id.session)) id.seq []

-- its pieces
unfoldable pub manifest_pieces : Numbers → Streams → ManifestId → List Piece
manifest_pieces n streams id = map piece (manifest_chunks n streams id)
