-- The chunks of a segment have the lengths of chunks.
use Rattle.std.proofs.Common.{◌≡◌, ℕ, zero, suc, ◌<◌, ◌≤◌, List, [], ◌∷◌, length, drop, refl, sym, subst, inl, inr, arith}
use mathlib.Core.List.{map}
use Rattle.std.specs.List.{All, slice_index_or}
use Rattle.ss_base.specs.declared.ids.ManifestId.{ManifestId}
use Rattle.ss_base.specs.declared.name.Piece.{Piece}
use Rattle.ss_base.specs.declared.profile.Numbers.{Numbers}
use Rattle.ss_base.specs.Profile.{AreSound}
use Rattle.ss_base.specs.Parts.{parts, parts_within}
use Rattle.ss_base.proofs.MemberLaws.{In, take_in, map_in, All-from_in}
use Rattle.tttd_chunker.specs.Cut.{cut}
use Rattle.tttd_chunker.specs.IsCut.{IsSized}
use Rattle.tttd_chunker.proofs.CutLaws.{cut-sized}
use Rattle.segmenter.specs.Segments.{segments, first_count}
use Rattle.segment_reader.specs.SegmentsOf.{segments_of}
use Rattle.chunk_name.specs.Pieces.{piece, HasChunkLen}
use Rattle.chunk_name.proofs.NameLaws.{length-name_of_bytes}
use Rattle.stored_streams.specs.Streams.{Streams, manifest_chunks, manifest_pieces}

drop_in : {X : Type 0} (x : X) (n : ℕ) (xs : List X) → In x (drop n xs) → In x xs
drop_in x zero xs h = h
drop_in x (suc n) [] h = h
drop_in x (suc n) (y ∷ ys) h = inr (drop_in x n ys h)

-- an item of a part is an item of the list
part_in : {X : Type 0} (count : ℕ) (first : List X → ℕ) (xs part : List X) (x : X) → In part (parts_within count first xs) → In x part → In x xs
unfolding parts_within
part_in zero first xs part x there h = absurd there
part_in (suc count) first [] part x there h = absurd there
part_in (suc count) first (y ∷ ys) part x (inl is) h = take_in x (first (y ∷ ys)) (y ∷ ys) (subst (λ (p : _). In x p) (sym is) h)
part_in (suc count) first (y ∷ ys) part x (inr later) h = drop_in x (first (y ∷ ys)) (y ∷ ys) (part_in count first (drop (first (y ∷ ys)) (y ∷ ys)) part x later h)

-- what stands at a place of a list of lists, or nothing
item_in : {X : Type 0} (lists : List (List X)) (i : ℕ) (x : X) → In x (slice_index_or lists i []) → (list : List X) × In list lists × In x list
item_in [] zero x h = absurd h
item_in [] (suc i) x h = absurd h
item_in (list ∷ lists) zero x h = (list, inl refl, h)
item_in (list ∷ lists) (suc i) x h = let found = item_in lists i x h in (found.0, inr found.1, found.2)

sized_in : (n : Numbers) (chunks : List (List ℕ)) (chunk : List ℕ) → IsSized n chunks → In chunk chunks → (0 < length chunk) × (length chunk ≤ n.tmax)
sized_in n [] chunk sized h = absurd h
sized_in n (c ∷ chunks) chunk (some, most, least, rest) (inl is) = subst (λ (c : List ℕ). (0 < length c) × (length c ≤ n.tmax)) is (some, most)
sized_in n (c ∷ chunks) chunk (some, most, least, rest) (inr later) = sized_in n chunks chunk rest later

-- a chunk of a manifest's segment has the length of a chunk
pub chunk_sized : (n : Numbers) (streams : Streams) (id : ManifestId) (chunk : List ℕ) → AreSound n → In chunk (manifest_chunks n streams id) → (0 < length chunk) × (length chunk ≤ n.tmax)
unfolding manifest_chunks segments_of segments parts
chunk_sized n streams id chunk sound h =
    let bytes = streams id.session in
    let found = item_in (segments n (cut n bytes)) id.seq chunk h in
    let inside = part_in (length (cut n bytes)) (first_count n) (cut n bytes) found.0 chunk found.1 found.2 in
    sized_in n (cut n bytes) chunk (cut-sized n bytes sound) inside

piece_sized : (n : Numbers) (chunk : List ℕ) → AreSound n → (0 < length chunk) × (length chunk ≤ n.tmax) → HasChunkLen (piece chunk)
piece_sized n chunk sound (some, most) = let limit = sound.chunk in (omega (arith, some), omega (arith, most, limit))

-- so have its pieces, and their names are digests
pub pieces_sized : (n : Numbers) (streams : Streams) (id : ManifestId) → AreSound n → All HasChunkLen (manifest_pieces n streams id)
unfolding manifest_pieces
pieces_sized n streams id sound = All-from_in HasChunkLen (map piece (manifest_chunks n streams id)) (λ p h.
    let from = map_in piece p (manifest_chunks n streams id) h in
    subst HasChunkLen from.2 (piece_sized n from.0 sound (chunk_sized n streams id from.0 sound from.1)))

pub pieces_named : (n : Numbers) (streams : Streams) (id : ManifestId) → All (λ (p : Piece). length p.name.0 ≡ 32) (manifest_pieces n streams id)
unfolding manifest_pieces
pieces_named n streams id = All-from_in (λ (p : Piece). length p.name.0 ≡ 32) (map piece (manifest_chunks n streams id)) (λ p h.
    let from = map_in piece p (manifest_chunks n streams id) h in
    subst (λ (q : Piece). length q.name.0 ≡ 32) from.2 (length-name_of_bytes from.0))
