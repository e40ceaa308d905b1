-- Laws of the text of a manifest.
use Rattle.std.proofs.Common.{◌≡◌, ℕ, ◌*◌, ◌<◌, ◌^◌, List, length, get_or, take, drop, All, refl, sym, subst, ap, ◌∙◌, arith}
use Rattle.std.specs.Int.{w32, to_be_bytes, from_be_bytes}
use Rattle.std.proofs.lemmas.List.{take_at, drop_at, length-append}
use Rattle.std.proofs.lemmas.Nat.{from_be_bytes-to_be_bytes_4}
use Rattle.ss_base.specs.declared.name.Piece.{Piece}
use Rattle.ss_base.specs.declared.ids.Place.{Place}
use Rattle.chunk_name.specs.Pieces.{HasChunkLen}
use Rattle.manifest_codec.specs.PiecesPart.{piece_text, pieces_part}
use Rattle.manifest_codec.specs.Text.{place_text, places_part, manifest_text, IsPlace, AreManifest}
use Rattle.manifest_codec.proofs.FixedLaws.{length-texts, text-at, same-texts}

-- a piece as its type has it
pub record IsPiece (p : Piece) : Type 0 where
  pub name : length p.name.0 ≡ 32
  pub len : p.len < 2 ^ 32

same_number : (a b : ℕ) → a < 2 ^ 32 → b < 2 ^ 32 → to_be_bytes w32 a ≡ to_be_bytes w32 b → a ≡ b
same_number a b fa fb same = sym (from_be_bytes-to_be_bytes_4 a fa) ∙ ap (from_be_bytes w32) same ∙ from_be_bytes-to_be_bytes_4 b fb

-- no two pieces have one text
pub same_piece : (p q : Piece) → IsPiece p → IsPiece q → piece_text p ≡ piece_text q → p ≡ q
same_piece p q fp fq same =
    let name : p.name.0 ≡ q.name.0 = sym (take_at p.name.0 (to_be_bytes w32 p.len) 32 fp.name) ∙ ap (take 32) same ∙ take_at q.name.0 (to_be_bytes w32 q.len) 32 fq.name in
    let bytes : to_be_bytes w32 p.len ≡ to_be_bytes w32 q.len = sym (drop_at p.name.0 (to_be_bytes w32 p.len) 32 fp.name) ∙ ap (drop 32) same ∙ drop_at q.name.0 (to_be_bytes w32 q.len) 32 fq.name in
    let len = same_number p.len q.len fp.len fq.len bytes in
    λ i. record { name = record { 0 = name i }; len = len i }

-- no two places have one text
pub same_place : (p q : Place) → IsPlace p → IsPlace q → place_text p ≡ place_text q → p ≡ q
same_place p q fp fq same =
    let session = same_number p.container.session q.container.session fp.session fq.session (ap (take 4) same) in
    let ordinal = same_number p.container.ordinal q.container.ordinal fp.ordinal fq.ordinal (ap (λ t. take 4 (drop 4 t)) same) in
    let offset = same_number p.offset q.offset fp.offset fq.offset (ap (drop 8) same) in
    λ i. record { container = record { session = session i; ordinal = ordinal i }; offset = offset i }

-- each piece takes 36 bytes, and each place 12
pub piece_sizes : (ps : List Piece) → All (λ p. length p.name.0 ≡ 32) ps → All (λ p. length (piece_text p) ≡ 36) ps
piece_sizes ps named = λ k d lt.
    let p = get_or ps k d in
    let name = named k d lt in
    let whole = length-append p.name.0 (to_be_bytes w32 p.len) in
    omega (arith, name, whole)

pub place_sizes : (ps : List Place) → All (λ p. length (place_text p) ≡ 12) ps
place_sizes ps = λ k d lt. refl

pub length-manifest_text : (pieces : List Piece) (places : List Place) → AreManifest pieces places → length (manifest_text pieces places) ≡ 48 * length pieces
length-manifest_text pieces places are =
    let front = length-texts piece_text 36 pieces (piece_sizes pieces are.names) in
    let back = length-texts place_text 12 places (place_sizes places) in
    let located = are.listed.located in
    omega (arith, length-append (pieces_part pieces) (places_part places), front, back, located)

-- a piece that stands at a piece's place in such a text has its length
pub has_its_length : (ps : List Piece) (text : List ℕ) (count i : ℕ) (piece : Piece) → All (λ p. length p.name.0 ≡ 32) ps → All HasChunkLen ps → pieces_part ps ≡ text → length text ≡ 36 * count → i < count → IsPiece piece → piece_text piece ≡ take 36 (drop (36 * i) text) → HasChunkLen piece
has_its_length ps text count i piece named lengths same len lt fits read =
    let sizes = piece_sizes ps named in
    let whole = length-texts piece_text 36 ps sizes in
    let inside : i < length ps = omega (arith, whole, ap length same, len) in
    let other = get_or ps i piece in
    let its = lengths i piece inside in
    let other_fits : IsPiece other = record { name = named i piece inside; len = omega (arith, its.1) } in
    let equal : other ≡ piece = same_piece other piece other_fits fits
    (sym (text-at piece_text 36 ps i piece sizes inside) ∙ ap (λ t. take 36 (drop (36 * i) t)) same ∙ sym read) in
    subst HasChunkLen equal its

pieces_fit : (pieces : List Piece) (places : List Place) → AreManifest pieces places → All IsPiece pieces
pieces_fit pieces places are = λ k d lt. let its = are.listed.lengths k d lt in record { name = are.names k d lt; len = omega (arith, its.1) }

-- no two manifests have one text
pub same_manifest : (pieces others : List Piece) (places spots : List Place) → AreManifest pieces places → AreManifest others spots → manifest_text pieces places ≡ manifest_text others spots → (pieces ≡ others) × (places ≡ spots)
same_manifest pieces others places spots a b same =
    let la = length-manifest_text pieces places a in
    let lb = length-manifest_text others spots b in
    let count : length pieces ≡ length others = omega (arith, la, lb, ap length same) in
    let fa = length-texts piece_text 36 pieces (piece_sizes pieces a.names) in
    let fb = length-texts piece_text 36 others (piece_sizes others b.names) in
    let fb_a : length (pieces_part others) ≡ 36 * length pieces = omega (arith, fb, count) in
    let front : pieces_part pieces ≡ pieces_part others = sym (take_at (pieces_part pieces) (places_part places) (36 * length pieces) fa) ∙ ap (take (36 * length pieces)) same ∙ take_at (pieces_part others) (places_part spots) (36 * length pieces) fb_a in
    let back : places_part places ≡ places_part spots = sym (drop_at (pieces_part pieces) (places_part places) (36 * length pieces) fa) ∙ ap (drop (36 * length pieces)) same ∙ drop_at (pieces_part others) (places_part spots) (36 * length pieces) fb_a in
    let locations : length places ≡ length spots = a.listed.located ∙ count ∙ sym b.listed.located in (
      same-texts piece_text 36 IsPiece same_piece pieces others (piece_sizes pieces a.names) (piece_sizes others b.names) (pieces_fit pieces places a) (pieces_fit others spots b) count front,
      same-texts place_text 12 IsPlace same_place places spots (place_sizes places) (place_sizes spots) a.numbers b.numbers locations back,
    )
