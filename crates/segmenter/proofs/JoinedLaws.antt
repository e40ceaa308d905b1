-- Laws of chunks that are kept as pieces and joined bytes.
use Rattle.std.proofs.Common.{◌≡◌, ℕ, ◌≤◌, List, [], ◌∷◌, ◌++◌, length, take, drop, refl, sym, subst, suc, ap, ◌∙◌, arith, sum_by, length-append, length-drop}
use Rattle.std.specs.List.{All, concat}
use Rattle.std.proofs.lemmas.List.{take-append-le, drop-append-le, take-append-drop, map-append, nil_from_length}
use Rattle.std.proofs.lemmas.List.Sums.{sum_by-append, sum_by-cons}
use Rattle.std.proofs.lemmas.List.Elements.{All-map}
use Rattle.std.proofs.Math.Seq.{take-length}
use Rattle.ss_base.specs.declared.name.Piece.{Piece}
use Rattle.chunk_name.specs.Pieces.{piece, pieces}
use Rattle.segmenter.specs.Joined.{parts_of, ArePieces}

-- one more piece and its bytes are one more part
pub parts_of-push : (ps : List Piece) (bytes chunk : List ℕ) (p : Piece) → sum_by (λ q. q.len) ps ≡ length bytes → p.len ≡ length chunk → parts_of (ps ++ p ∷ []) (bytes ++ chunk) ≡ parts_of ps bytes ++ chunk ∷ []
parts_of-push [] [] chunk p sum len = ap (λ n. take n chunk ∷ []) len ∙ ap (λ c. c ∷ []) (take-length chunk)
parts_of-push [] (b ∷ bytes) chunk p sum len = absurd (omega arith)
parts_of-push (q ∷ ps) bytes chunk p sum len =
    let total = sum_by-cons (λ (r : Piece). r.len) q ps in
    let fits : q.len ≤ length bytes = omega (arith, total) in
    let left = length-drop q.len bytes in
    let rest = parts_of-push ps (drop q.len bytes) chunk p (omega (arith, total, left)) len in
    ap (λ t. t ∷ parts_of (ps ++ p ∷ []) (drop q.len (bytes ++ chunk))) (take-append-le q.len bytes chunk fits)
    ∙ ap (λ r. take q.len bytes ∷ parts_of (ps ++ p ∷ []) r) (drop-append-le q.len bytes chunk fits)
    ∙ ap (λ r. take q.len bytes ∷ r) rest

-- the parts of some bytes are these bytes
pub concat-parts_of : (ps : List Piece) (bytes : List ℕ) → sum_by (λ q. q.len) ps ≡ length bytes → concat (parts_of ps bytes) ≡ bytes
concat-parts_of [] bytes sum = sym (nil_from_length bytes (sym sum))
concat-parts_of (q ∷ ps) bytes sum =
    let total = sum_by-cons (λ (r : Piece). r.len) q ps in
    let left = length-drop q.len bytes in
    ap (λ r. take q.len bytes ++ r) (concat-parts_of ps (drop q.len bytes) (omega (arith, total, left))) ∙ take-append-drop q.len bytes

-- a chunk is added by its piece and its bytes
pub ArePieces-push : (ps : List Piece) (bytes chunk : List ℕ) → ArePieces ps bytes → ArePieces (ps ++ piece chunk ∷ []) (bytes ++ chunk)
ArePieces-push ps bytes chunk are =
    let total = sum_by-append (λ (r : Piece). r.len) ps (piece chunk ∷ []) in
    let whole = length-append bytes chunk in
    let before = are.sum in
    record {
      sum = omega (arith, total, whole, before);
      parts = ap pieces (parts_of-push ps bytes chunk (piece chunk) are.sum refl)
          ∙ map-append piece (parts_of ps bytes) (chunk ∷ [])
          ∙ ap (λ r. r ++ piece chunk ∷ []) are.parts;
    }

-- as many parts as pieces
pub length-parts_of : (ps : List Piece) (bytes : List ℕ) → length (parts_of ps bytes) ≡ length ps
length-parts_of [] bytes = refl
length-parts_of (q ∷ ps) bytes = ap (λ n. suc n) (length-parts_of ps (drop q.len bytes))

-- what holds of the pieces of some chunks holds of the pieces
pub All-pieces : (P : Piece → Type 0) (chunks : List (List ℕ)) (ps : List Piece) → pieces chunks ≡ ps → All (λ chunk. P (piece chunk)) chunks → All P ps
All-pieces P chunks ps same all = subst (λ qs. All P qs) same (All-map P piece chunks all)
