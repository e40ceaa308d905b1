-- Laws of the text of a container.
use Rattle.std.proofs.Common.{◌≡◌, ℕ, suc, ◌+◌, ◌<◌, ◌^◌, List, [], ◌∷◌, ◌++◌, length, take, drop, All, refl, sym, ap, ◌∙◌, append_assoc, length-append, arith}
use Rattle.std.specs.Int.{w32, to_be_bytes, from_be_bytes}
use Rattle.std.proofs.lemmas.List.{take_at, drop_at, append-nil}
use Rattle.std.proofs.lemmas.List.Concat.{flat_map-cons}
use Rattle.std.proofs.lemmas.Nat.{from_be_bytes-to_be_bytes_4}
use Rattle.std.proofs.lemmas.Grind.{flat_map-append}
use Rattle.container_file.specs.Chunk.{Chunk, IsChunk}
use Rattle.container_file.specs.Text.{record_text, records_text, HasNoRecord}
use Rattle.container_file.specs.declared.scanning.ScanRecord.{ScanRecord}
use Rattle.container_file.specs.Scanned.{records_from}

-- what holds of all holds of the first, and of all but the first
pub All-first : {X : Type 0} (P : X → Type 0) (x : X) (xs : List X) → All P (x ∷ xs) → P x
All-first P x xs all = all 0 x (omega arith)

pub All-rest : {X : Type 0} (P : X → Type 0) (x : X) (xs : List X) → All P (x ∷ xs) → All P xs
All-rest P x xs all = λ k d lt. all (suc k) d (omega arith)

-- no two numbers of 32 bits have one text
pub same_number : (a b : ℕ) → a < 2 ^ 32 → b < 2 ^ 32 → to_be_bytes w32 a ≡ to_be_bytes w32 b → a ≡ b
same_number a b fa fb same = sym (from_be_bytes-to_be_bytes_4 a fa) ∙ ap (from_be_bytes w32) same ∙ from_be_bytes-to_be_bytes_4 b fb

-- the part of a text behind the length
abbrev behind : Chunk → List ℕ → List ℕ
behind c x = c.piece.name.0 ++ (c.bytes ++ x)

regrouped : (c : Chunk) (x : List ℕ) → record_text c ++ x ≡ to_be_bytes w32 c.piece.len ++ behind c x
regrouped c x = append_assoc (to_be_bytes w32 c.piece.len) (c.piece.name.0 ++ c.bytes) x ∙ ap (λ t. to_be_bytes w32 c.piece.len ++ t) (append_assoc c.piece.name.0 c.bytes x)

-- no record's text begins that of another
pub same_record : (c d : Chunk) (x y : List ℕ) → IsChunk c → IsChunk d → record_text c ++ x ≡ record_text d ++ y → (c ≡ d) × (x ≡ y)
same_record c d x y fc fd same =
    let whole : to_be_bytes w32 c.piece.len ++ behind c x ≡ to_be_bytes w32 d.piece.len ++ behind d y = sym (regrouped c x) ∙ same ∙ regrouped d y in
    let number : to_be_bytes w32 c.piece.len ≡ to_be_bytes w32 d.piece.len = ap (take 4) whole in
    let lc = fc.len.1 in
    let ld = fd.len.1 in
    let len : c.piece.len ≡ d.piece.len = same_number c.piece.len d.piece.len (omega arith) (omega arith) number in
    let rest : behind c x ≡ behind d y = ap (drop 4) whole in
    let name : c.piece.name.0 ≡ d.piece.name.0 = sym (take_at c.piece.name.0 (c.bytes ++ x) 32 fc.name) ∙ ap (take 32) rest ∙ take_at d.piece.name.0 (d.bytes ++ y) 32 fd.name in
    let tail : c.bytes ++ x ≡ d.bytes ++ y = sym (drop_at c.piece.name.0 (c.bytes ++ x) 32 fc.name) ∙ ap (drop 32) rest ∙ drop_at d.piece.name.0 (d.bytes ++ y) 32 fd.name in
    let db : length d.bytes ≡ c.piece.len = fd.bytes ∙ sym len in
    let bytes : c.bytes ≡ d.bytes = sym (take_at c.bytes x c.piece.len fc.bytes) ∙ ap (take c.piece.len) tail ∙ take_at d.bytes y c.piece.len db in
    let after : x ≡ y = sym (drop_at c.bytes x c.piece.len fc.bytes) ∙ ap (drop c.piece.len) tail ∙ drop_at d.bytes y c.piece.len db in
    ((λ i. record { piece = record { name = record { 0 = name i }; len = len i }; bytes = bytes i }), after)

-- no record begins an empty text
pub none-begins-empty : HasNoRecord []
none-begins-empty = λ c rest is same.
    let size = ap length same in
    let regroup = ap length (regrouped c rest) in
    let whole = length-append (to_be_bytes w32 c.piece.len) (behind c rest) in
    absurd (omega (arith, size, regroup, whole))

-- where no record begins what follows, the records are those of the text, and so is what follows
pub same_records : (cs ds : List Chunk) (x y : List ℕ) → All IsChunk cs → All IsChunk ds → HasNoRecord x → HasNoRecord y → records_text cs ++ x ≡ records_text ds ++ y → (cs ≡ ds) × (x ≡ y)
same_records [] [] x y fc fd nx ny same = (refl, same)
same_records [] (d ∷ ds) x y fc fd nx ny same =
    absurd (nx d (records_text ds ++ y) (All-first IsChunk d ds fd) (sym (same ∙ ap (λ t. t ++ y) (flat_map-cons record_text d ds) ∙ append_assoc (record_text d) (records_text ds) y)))
same_records (c ∷ cs) [] x y fc fd nx ny same =
    absurd (ny c (records_text cs ++ x) (All-first IsChunk c cs fc) (sym (append_assoc (record_text c) (records_text cs) x) ∙ sym (ap (λ t. t ++ x) (flat_map-cons record_text c cs)) ∙ same))
same_records (c ∷ cs) (d ∷ ds) x y fc fd nx ny same =
    let left = ap (λ t. t ++ x) (flat_map-cons record_text c cs) ∙ append_assoc (record_text c) (records_text cs) x in
    let right = ap (λ t. t ++ y) (flat_map-cons record_text d ds) ∙ append_assoc (record_text d) (records_text ds) y in
    let first = same_record c d (records_text cs ++ x) (records_text ds ++ y) (All-first IsChunk c cs fc) (All-first IsChunk d ds fd) (sym left ∙ same ∙ right) in
    let others = same_records cs ds x y (All-rest IsChunk c cs fc) (All-rest IsChunk d ds fd) nx ny first.1 in
    (ap (λ z. z ∷ cs) first.0 ∙ ap (λ zs. d ∷ zs) others.0, others.1)

-- one more record
pub records_text-push : (cs : List Chunk) (c : Chunk) (rest : List ℕ) → records_text (cs ++ c ∷ []) ++ rest ≡ records_text cs ++ (record_text c ++ rest)
records_text-push cs c rest =
    ap (λ t. t ++ rest) (flat_map-append record_text cs (c ∷ []) ∙ ap (λ t. records_text cs ++ t) (flat_map-cons record_text c [] ∙ append-nil (record_text c)))
    ∙ append_assoc (records_text cs) (record_text c) rest

pub length-record_text : (c : Chunk) → IsChunk c → length (record_text c) ≡ 36 + c.piece.len
length-record_text c is =
    let whole = length-append (to_be_bytes w32 c.piece.len) (c.piece.name.0 ++ c.bytes) in
    let back = length-append c.piece.name.0 c.bytes in
    omega (arith, whole, back, is.name, is.bytes)

pub length-records_text-push : (cs : List Chunk) (c : Chunk) → IsChunk c → length (records_text (cs ++ c ∷ [])) ≡ length (records_text cs) + 36 + c.piece.len
length-records_text-push cs c is =
    let whole = ap length (flat_map-append record_text cs (c ∷ []) ∙ ap (λ t. records_text cs ++ t) (flat_map-cons record_text c [] ∙ append-nil (record_text c))) in
    let both = length-append (records_text cs) (record_text c) in
    omega (arith, whole, both, length-record_text c is)

pub records_from-append : (at : ℕ) (cs ds : List Chunk) → All IsChunk cs → records_from at (cs ++ ds) ≡ records_from at cs ++ records_from (at + length (records_text cs)) ds
unfolding records_from
records_from-append at [] ds all = ap (λ n. records_from n ds) (omega arith)
records_from-append at (c ∷ cs) ds all =
    let first = length-record_text c (All-first IsChunk c cs all) in
    let whole = ap length (flat_map-cons record_text c cs) ∙ length-append (record_text c) (records_text cs) in
    let place : at + 36 + c.piece.len + length (records_text cs) ≡ at + length (records_text (c ∷ cs)) = omega (arith, first, whole) in
    let one : ScanRecord = record { piece = c.piece; offset = at + 36 } in
    ap (λ rs. one ∷ rs) (records_from-append (at + 36 + c.piece.len) cs ds (All-rest IsChunk c cs all) ∙ ap (λ n. records_from (at + 36 + c.piece.len) cs ++ records_from n ds) place)

pub records_from-push : (at next : ℕ) (cs : List Chunk) (c : Chunk) → All IsChunk cs → next ≡ at + length (records_text cs) → records_from at (cs ++ c ∷ []) ≡ records_from at cs ++ record { piece = c.piece; offset = next + 36 } ∷ []
unfolding records_from
records_from-push at next cs c all place = records_from-append at cs (c ∷ []) all ∙ ap (λ n. records_from at cs ++ record { piece = c.piece; offset = n + 36 } ∷ []) (sym place)
