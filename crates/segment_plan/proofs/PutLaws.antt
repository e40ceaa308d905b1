-- How many bytes the puts of fresh chunks have.
use Rattle.std.proofs.Common.{◌≡◌, ℕ, ◌+◌, ◌*◌, ◌≤◌, Bool, true, false, List, [], ◌∷◌, ◌++◌, map, length, All, refl, sym, ap, ◌∙◌, inl, inr, arith, length-append, append_assoc, append-nil}
use Rattle.std.specs.List.{sum_by}
use Rattle.std.proofs.lemmas.List.Sums.{sum_by-append, sum_by-cons}
use Rattle.std.specs.Int.{w32, to_be_bytes}
use Rattle.ss_base.specs.declared.ids.ContainerId.{ContainerId}
use Rattle.container_file.specs.declared.container_end.ContainerEnd.{ContainerEnd}
use Rattle.container_file.specs.declared.layout.Put.{Put}
use Rattle.container_file.specs.Chunk.{Chunk, IsChunk}
use Rattle.container_file.specs.Text.{record_text}
use Rattle.container_file.specs.Layout.{Written, written, puts}
use Rattle.container_file.specs.Plan.{new_put, TakesPut}
use Rattle.container_file.specs.Plan.TakesPut.{last, fresh}
use Rattle.container_file.proofs.LayoutLaws.{with_record}
use Rattle.container_file.proofs.PutsLaws.{target, rises, puts-push}
use Rattle.container_file.proofs.TextLaws.{All-first, All-rest}
use Rattle.segment_plan.specs.Planned.{puts_len}

abbrev pub written_len : List Written → ℕ
written_len ws = sum_by (λ (w : Written). length w.bytes) ws

abbrev pub chunks_len : List Chunk → ℕ
chunks_len cs = sum_by (λ (c : Chunk). c.piece.len) cs

pub puts-written : (ps : List Put) → puts_len ps ≡ written_len (map written ps)
puts-written [] = refl
puts-written (p ∷ ps) =
    sum_by-cons (λ (put : Put). length put.bytes.items) p ps
    ∙ ap (λ n. length p.bytes.items + n) (puts-written ps)
    ∙ sym (sum_by-cons (λ (w : Written). length w.bytes) (written p) (map written ps))

-- the put to which a record goes, and what comes before it
record Takes (id : ContainerId) (starts : Bool) (old : List Written) : Type 0 where
  pub new : List Written
  pub put : Written
  pub takes : TakesPut id starts old new put
  pub least : written_len old ≤ written_len new + length put.bytes
  pub most : written_len new + length put.bytes ≤ written_len old + 16

back : (w : Written) (ws : List Written) → (front : List Written) × (end : Written) × (w ∷ ws ≡ front ++ end ∷ [])
back w [] = ([], w, refl)
back w (v ∷ ws) = let rest = back v ws in (w ∷ rest.0, rest.1, ap (λ vs. w ∷ vs) rest.2)

taken : (id : ContainerId) (starts : Bool) (old : List Written) → Takes id starts old
taken id true old = record {
  new = old;
  put = new_put id true;
  takes = fresh (inl refl) refl refl;
  least = omega arith;
  most = omega arith;
}
taken id false [] = record {
  new = [];
  put = new_put id false;
  takes = fresh (inr refl) refl refl;
  least = omega arith;
  most = omega arith;
}
taken id false (w ∷ ws) =
    let end = back w ws in
    let size = ap written_len end.2 in
    let both = sum_by-append (λ (v : Written). length v.bytes) end.0 (end.1 ∷ []) in
    let one = sum_by-cons (λ (v : Written). length v.bytes) end.1 [] in
    record {
      new = end.0;
      put = end.1;
      takes = last refl end.2;
      least = omega (arith, size, both, one);
      most = omega (arith, size, both, one);
    }

record_len : (c : Chunk) → IsChunk c → length (record_text c) ≡ 36 + c.piece.len
record_len c is =
    let name = is.name in
    let bytes = is.bytes in
    let size = to_be_bytes w32 c.piece.len in
    let front = length-append (size ++ c.piece.name.0) c.bytes in
    let others = length-append size c.piece.name.0 in
    omega (arith, name, bytes, front, others)

-- one more chunk
abbrev Grows : ℕ → Chunk → ℕ → Type 0
Grows old c new = (old + 36 + c.piece.len ≤ new) × (new ≤ old + 52 + c.piece.len)

grown : (end : ContainerEnd) (room : ℕ) (cs : List Chunk) (c : Chunk) → IsChunk c → Grows (written_len (puts end room cs)) c (written_len (puts end room (cs ++ c ∷ [])))
grown end room cs c is =
    let old = puts end room cs in
    let t = taken (target end room cs c) (rises end room cs c) old in
    let now = puts-push end room cs c old t.new t.put refl t.takes in
    let size = ap written_len (sym now) in
    let both = sum_by-append (λ (w : Written). length w.bytes) t.new (with_record t.put c ∷ []) in
    let one = sum_by-cons (λ (w : Written). length w.bytes) (with_record t.put c) [] in
    let text = length-append t.put.bytes (record_text c) in
    let len = record_len c is in
    let least = t.least in
    let most = t.most in
    (omega (arith, size, both, one, text, len, least), omega (arith, size, both, one, text, len, most))

-- more chunks
abbrev GrowsBy : ℕ → List Chunk → ℕ → Type 0
GrowsBy old cs new = (old + 36 * length cs + chunks_len cs ≤ new) × (new ≤ old + 52 * length cs + chunks_len cs)

grown-by : (end : ContainerEnd) (room : ℕ) (done cs : List Chunk) → All IsChunk cs → GrowsBy (written_len (puts end room done)) cs (written_len (puts end room (done ++ cs)))
grown-by end room done [] all = let same = ap (λ ds. written_len (puts end room ds)) (append-nil done) in (omega (arith, same), omega (arith, same))
grown-by end room done (c ∷ cs) all =
    let one = grown end room done c (All-first IsChunk c cs all) in
    let rest = grown-by end room (done ++ c ∷ []) cs (All-rest IsChunk c cs all) in
    let same = ap (λ ds. written_len (puts end room ds)) (append_assoc done (c ∷ []) cs) in
    let whole = sum_by-cons (λ (d : Chunk). d.piece.len) c cs in
    (omega (arith, one.0, rest.0, same, whole), omega (arith, one.1, rest.1, same, whole))

none-put : (end : ContainerEnd) (room : ℕ) → puts end room [] ≡ []
unfolding puts
none-put end room = refl

-- each record has 36 bytes more than its chunk, and each header 16
pub put-bytes : (end : ContainerEnd) (room : ℕ) (cs : List Chunk) → All IsChunk cs →
    (36 * length cs + chunks_len cs ≤ written_len (puts end room cs)) × (written_len (puts end room cs) ≤ 52 * length cs + chunks_len cs)
put-bytes end room cs all =
    let none = ap written_len (none-put end room) in
    let whole = grown-by end room [] cs all in
    (omega (arith, none, whole.0), omega (arith, none, whole.1))
