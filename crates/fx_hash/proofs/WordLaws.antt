-- Words of bytes, and of the bytes of a number.
use Rattle.std.proofs.Common.{◌≡◌, ℕ, zero, suc, ◌+◌, ◌/◌, ◌^◌, ◌<◌, min, List, [], ◌∷◌, ◌++◌, length, take, drop, get_or, replicate, fold, refl, sym, ap, ◌∙◌, arith, append-nil, length-append, take_all, inl, inr}
use Rattle.std.proofs.lemmas.Nat.{from_le_bytes-to_le_bytes_4, from_le_bytes-to_le_bytes_8}
use Rattle.std.proofs.Math.Seq.{take-append_seam, drop-append_seam}
use Rattle.std.proofs.lemmas.Bool.{cases_lt}
use Rattle.std.proofs.lemmas.List.{drop_all, nil_from_length}
use Rattle.std.specs.Hash.{le_bytes}
use Rattle.std.specs.Int.{byte_worth, sum_through}
use Rattle.fx_hash.specs.declared.hasher.FxHasher.{FxHasher}
use Rattle.fx_hash.specs.Fx.{word_of, one_more, words, after}

-- zeros behind bytes change no byte that is read
zero_at : (n k i : ℕ) → get_or {A = ℕ} (drop n (replicate k 0)) i 0 ≡ 0
zero_at zero zero i = refl
zero_at zero (suc k) zero = refl
zero_at zero (suc k) (suc i) = zero_at zero k i
zero_at (suc n) zero i = refl
zero_at (suc n) (suc k) i = zero_at n k i

same_byte : (bytes zeros : List ℕ) → ((i : ℕ) → get_or zeros i 0 ≡ 0) → (i : ℕ) → get_or (bytes ++ zeros) i 0 ≡ get_or bytes i 0
same_byte [] zeros none i = none i
same_byte (b ∷ bytes) zeros none zero = refl
same_byte (b ∷ bytes) zeros none (suc i) = same_byte bytes zeros none i

pub word_of-zeros : (bytes : List ℕ) (n : ℕ) → word_of (bytes ++ drop n (replicate 8 0)) ≡ word_of bytes
word_of-zeros bytes n = λ j. sum_through (λ i. byte_worth i (same_byte bytes (drop n (replicate 8 0)) (zero_at n 8) i j)) 7

word_of_4 : (n : ℕ) → n < 2 ^ 32 → word_of (le_bytes 4 n) ≡ n
unfolding le_bytes
word_of_4 n fits = omega (arith, from_le_bytes-to_le_bytes_4 n fits)

word_of_8 : (n : ℕ) → n < 2 ^ 64 → word_of (le_bytes 8 n) ≡ n
unfolding le_bytes
word_of_8 n fits = from_le_bytes-to_le_bytes_8 n fits

-- the bytes of a number are one word
pub after_4 : (h : FxHasher) (n : ℕ) → n < 2 ^ 32 → record { state = one_more h.state n } ≡ after h (le_bytes 4 n)
unfolding le_bytes
after_4 h n fits = λ j. record { state = one_more h.state (sym (word_of_4 n fits) j) }

pub after_8 : (h : FxHasher) (n : ℕ) → n < 2 ^ 64 → record { state = one_more h.state n } ≡ after h (le_bytes 8 n)
unfolding le_bytes
after_8 h n fits = λ j. record { state = one_more h.state (sym (word_of_8 n fits) j) }

-- a part that comes first is eight bytes, or all there are
take_part : (part rest : List ℕ) → length part ≡ min 8 (length (part ++ rest)) → take 8 (part ++ rest) ≡ part
take_part part rest size =
    let sum = length-append part rest in
    elim (cases_lt (length part) 8) [
      | inl short ↦ let none : rest ≡ [] = nil_from_length rest (omega arith) in rw (none, append-nil) (take_all 8 part (omega arith))
      | inr long ↦ let eight : length part ≡ 8 = omega arith in ap (λ n. take n (part ++ rest)) (sym eight) ∙ take-append_seam part rest
    ]

drop_part : (part rest : List ℕ) → length part ≡ min 8 (length (part ++ rest)) → drop 8 (part ++ rest) ≡ rest
drop_part part rest size =
    let sum = length-append part rest in
    elim (cases_lt (length part) 8) [
      | inl short ↦ let none : rest ≡ [] = nil_from_length rest (omega arith) in rw (none, append-nil) (drop_all 8 part (omega arith))
      | inr long ↦ let eight : length part ≡ 8 = omega arith in ap (λ n. drop n (part ++ rest)) (sym eight) ∙ drop-append_seam part rest
    ]

-- the words of what a part begins are that part's, and those of the rest
words_part : (part rest : List ℕ) → length part ≡ min 8 (length (part ++ rest)) → 0 < length (part ++ rest)
    → words ((length (part ++ rest) + 7) / 8) (part ++ rest) ≡ word_of part ∷ words ((length rest + 7) / 8) rest
words_part part rest size some =
    let sum = length-append part rest in
    let count : (length (part ++ rest) + 7) / 8 ≡ suc ((length rest + 7) / 8) = omega arith in
    ap (λ n. words n (part ++ rest)) count ∙ (λ j. word_of (take_part part rest size j) ∷ words ((length rest + 7) / 8) (drop_part part rest size j))

pub part_more : (h : ℕ) (bytes part rest : List ℕ) → bytes ≡ part ++ rest → length part ≡ min 8 (length bytes) → 0 < length bytes
    → fold one_more h (words ((length bytes + 7) / 8) bytes) ≡ fold one_more (one_more h (word_of part)) (words ((length rest + 7) / 8) rest)
part_more h bytes part rest parts size some =
    ap (λ (l : List ℕ). fold one_more h (words ((length l + 7) / 8) l)) parts
    ∙ ap (fold one_more h) (words_part part rest (rw parts at size) (rw parts at some))
