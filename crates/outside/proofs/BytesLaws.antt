-- How told bytes go on over several writes.
use Rattle.std.proofs.Common.{◌≡◌, List, [], ◌++◌, ℕ, sym, ◌∙◌, ap, append_assoc, Option, None, Some}
use Rattle.std.proofs.lemmas.List.{append-nil}
use Rattle.std.specs.Io.KnownBytes.{Appends}
use Rattle.outside.specs.Bytes.{AppendsFront}

-- a write behind another
pub Appends-then : (a b c : Option (List ℕ)) (xs ys : List ℕ) → Appends a b xs → Appends b c ys → Appends a c (xs ++ ys)
Appends-then None b c xs ys first second = tt
Appends-then (Some a) None c xs ys first second = elim first [ ]
Appends-then (Some a) (Some b) None xs ys first second = second
Appends-then (Some a) (Some b) (Some c) xs ys first second = second ∙ ap (λ (l : List ℕ). l ++ ys) first ∙ append_assoc a xs ys

-- no write
pub Appends-none : (a : Option (List ℕ)) → Appends a a []
Appends-none None = tt
Appends-none (Some a) = sym (append-nil a)

-- a write, and then a front of the rest
pub AppendsFront-then : (a b c : Option (List ℕ)) (bytes xs ys : List ℕ) → bytes ≡ xs ++ ys → Appends a b xs → AppendsFront b c ys → AppendsFront a c bytes
AppendsFront-then a b c bytes xs ys split first (front, back, is, second) =
    (xs ++ front, back, split ∙ ap (λ (l : List ℕ). xs ++ l) is ∙ sym (append_assoc xs front back), Appends-then a b c xs front first second)

-- the rest comes a part further
pub split_more : (bytes front rest part after : List ℕ) → bytes ≡ front ++ rest → rest ≡ part ++ after → bytes ≡ (front ++ part) ++ after
split_more bytes front rest part after split next = split ∙ ap (λ (l : List ℕ). front ++ l) next ∙ sym (append_assoc front part after)
