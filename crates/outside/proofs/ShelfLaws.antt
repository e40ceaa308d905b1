-- What reads of an object in order come to.
use Rattle.std.proofs.Common.{◌≡◌, refl, ℕ, zero, suc, ◌+◌, ◌≤◌, List, [], ◌∷◌, ◌++◌, arith, length, take, drop, sym, ◌∙◌, ap, subst, Option, None, Some, IfSome, take-append-drop, inl, inr}
use Rattle.std.proofs.Math.Seq.{drop-append_seam}
use Rattle.std.proofs.lemmas.List.{drop-drop}
use Rattle.std.specs.Io.KnownBytes.{Consumes}
use Rattle.std.specs.FinMap as map
use Rattle.outside.specs.Shelf.{Objects, bytes_of, part_of, left_of, CreateLeaves, AppendLeaves}

-- a part, and what follows it
pub part_of-rest : (bytes part : List ℕ) (at max : ℕ) → part ≡ part_of bytes at max → drop at bytes ≡ part ++ drop (at + length part) bytes
part_of-rest bytes part at max is =
    let left = drop at bytes in
    let split = sym (take-append-drop max left) ∙ ap (λ (l : List ℕ). l ++ drop max left) (sym is) in
    let after = sym (drop-append_seam part (drop max left)) ∙ ap (drop (length part)) (sym split) ∙ drop-drop (length part) at bytes in
    split ∙ ap (λ (l : List ℕ). part ++ l) after

-- a part that could have had bytes and has none stands at the end
pub part_of-end : (bytes : List ℕ) (at max : ℕ) → 1 ≤ max → part_of bytes at max ≡ [] → drop at bytes ≡ []
part_of-end bytes at max some none = no_front (drop at bytes) max some none
  where
    no_front : (left : List ℕ) (n : ℕ) → 1 ≤ n → take n left ≡ [] → left ≡ []
    no_front [] n some none = refl
    no_front (x ∷ left) zero some none = absurd (omega arith)
    no_front (x ∷ left) (suc n) some none = (cc)

-- a read of an object takes the bytes that it gave from what is left of it
pub left_of-read : (held new : Option Objects) (name part : List ℕ) (at max next : ℕ) → new ≡ held → next ≡ at + length part
    → IfSome held (λ objects. part ≡ part_of (bytes_of objects name) at max) → Consumes (left_of held name at) (left_of new name next) part
left_of-read held new name part at max next same place given =
    subst (λ o. Consumes (left_of held name at) (left_of o name next) part) (sym same)
    (subst (λ n. Consumes (left_of held name at) (left_of held name n) part) (sym place) (told held given))
  where
    told : (held : Option Objects) → IfSome held (λ objects. part ≡ part_of (bytes_of objects name) at max) → Consumes (left_of held name at) (left_of held name (at + length part)) part
    told None given = tt
    told (Some objects) given = part_of-rest (bytes_of objects name) part at max given

-- a front of the bytes is what a failed create, and a failed append, may leave
pub CreateLeaves-front : (held new : Objects) (name bytes : List ℕ) (keep : ℕ) → new ≡ map.insert held name (take keep bytes) → CreateLeaves (Some held) (Some new) name bytes
CreateLeaves-front held new name bytes keep is = inr (inl (take keep bytes, drop keep bytes, sym (take-append-drop keep bytes), ap Some is))

pub AppendLeaves-front : (held new : Objects) (name bytes : List ℕ) (keep : ℕ) → new ≡ map.insert held name (bytes_of held name ++ take keep bytes) → AppendLeaves (Some held) (Some new) name bytes
AppendLeaves-front held new name bytes keep is = inr (take keep bytes, drop keep bytes, sym (take-append-drop keep bytes), ap Some is)
