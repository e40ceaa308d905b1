-- Laws of the first cut and of the cut.
use Rattle.std.proofs.Common.{◌≡◌, ℕ, zero, suc, ◌+◌, ◌<◌, ◌≤◌, min, List, [], ◌∷◌, ◌++◌, length, take, drop, Option, Some, None, MatchOption, unwrap_or, refl, sym, ap, ◌∙◌, subst, arith, length-take, length-drop, length-append, append_assoc}
use Rattle.std.specs.Prelude.{nat_lt, if◌then◌else◌}
use Rattle.std.specs.List.{flat_map}
use Rattle.std.proofs.lemmas.Bool.{lt-ltb, le-ltb, cases_lt, cond-true, cond-false}
use Rattle.std.proofs.lemmas.List.{take-append-drop}
use Rattle.std.proofs.Math.Seq.{take-append_seam, drop-append_seam}
use mathlib.Core.Logic.{⊎_elim}
use Rattle.ss_base.specs.declared.profile.Numbers.{Numbers}
use Rattle.ss_base.specs.Profile.{AreSound}
use Rattle.ss_base.specs.Search.{least, greatest, NonePasses, IsLeast, IsGreatest}
use Rattle.ss_base.proofs.SearchLaws.{least-is, greatest-is, least-one, least-none, greatest-one, greatest-none}
use Rattle.ss_base.proofs.PartsLaws.{IsRule, parts-nil, parts-step}
use Rattle.tttd_chunker.specs.Cut.{meets_main, meets_backup, first_cut, cut}
use Rattle.tttd_chunker.specs.IsCut.{HasNoMain, IsFirstCut, by_main, by_end, by_backup, by_threshold, IsCut, IsSized}

-- the first cut as a choice between what the two searches found
chosen : Numbers → List ℕ → Option ℕ → Option ℕ → ℕ
chosen n bytes main backup = unwrap_or main (if nat_lt (length bytes) n.tmax then length bytes else unwrap_or backup n.tmax)

first_cut-chosen : (n : Numbers) (bytes : List ℕ) (main backup : Option ℕ) → least (meets_main n bytes) n.tmin (min n.tmax (length bytes)) ≡ main → greatest (meets_backup n bytes) n.tmin n.tmax ≡ backup → first_cut n bytes ≡ chosen n bytes main backup
unfolding first_cut chosen
first_cut-chosen n bytes main backup e f = ap (λ r. chosen n bytes r (greatest (meets_backup n bytes) n.tmin n.tmax)) e ∙ ap (chosen n bytes main) f

chosen-short : (n : Numbers) (bytes : List ℕ) (backup : Option ℕ) → length bytes < n.tmax → chosen n bytes None backup ≡ length bytes
unfolding chosen
chosen-short n bytes backup below = cond-true (nat_lt (length bytes) n.tmax) _ _ (lt-ltb (length bytes) n.tmax below)

chosen-long : (n : Numbers) (bytes : List ℕ) (backup : Option ℕ) → n.tmax ≤ length bytes → chosen n bytes None backup ≡ unwrap_or backup n.tmax
unfolding chosen
chosen-long n bytes backup full = cond-false (nat_lt (length bytes) n.tmax) _ _ (le-ltb (length bytes) n.tmax full)

-- the four ways in which a first chunk ends, each by what the searches found
pub first_cut-main : (n : Numbers) (bytes : List ℕ) (k : ℕ) → least (meets_main n bytes) n.tmin (min n.tmax (length bytes)) ≡ Some k → first_cut n bytes ≡ k
unfolding chosen
first_cut-main n bytes k main = first_cut-chosen n bytes (Some k) (greatest (meets_backup n bytes) n.tmin n.tmax) main refl

pub first_cut-end : (n : Numbers) (bytes : List ℕ) → least (meets_main n bytes) n.tmin (min n.tmax (length bytes)) ≡ None → length bytes < n.tmax → first_cut n bytes ≡ length bytes
first_cut-end n bytes main below =
    let backup = greatest (meets_backup n bytes) n.tmin n.tmax in
    first_cut-chosen n bytes None backup main refl ∙ chosen-short n bytes backup below

pub first_cut-backup : (n : Numbers) (bytes : List ℕ) (backup : Option ℕ) → least (meets_main n bytes) n.tmin (min n.tmax (length bytes)) ≡ None → n.tmax ≤ length bytes → greatest (meets_backup n bytes) n.tmin n.tmax ≡ backup → first_cut n bytes ≡ unwrap_or backup n.tmax
first_cut-backup n bytes backup main full found = first_cut-chosen n bytes None backup main found ∙ chosen-long n bytes backup full

chosen-is : (n : Numbers) (bytes : List ℕ) (main backup : Option ℕ) → MatchOption main (HasNoMain n bytes) (IsLeast (meets_main n bytes) n.tmin (min n.tmax (length bytes))) → MatchOption backup (NonePasses (meets_backup n bytes) n.tmin n.tmax) (IsGreatest (meets_backup n bytes) n.tmin n.tmax) → IsFirstCut n bytes (chosen n bytes main backup)
unfolding chosen
chosen-is n bytes (Some k) backup found other = by_main found
chosen-is n bytes None (Some k) found other =
    ⊎_elim
    (λ below. by_end found below (chosen-short n bytes (Some k) below))
    (λ full. subst (IsFirstCut n bytes) (sym (chosen-long n bytes (Some k) full)) (by_backup found full other))
    (cases_lt (length bytes) n.tmax)
chosen-is n bytes None None found other =
    ⊎_elim
    (λ below. by_end found below (chosen-short n bytes None below))
    (λ full. by_threshold found full other (chosen-long n bytes None full))
    (cases_lt (length bytes) n.tmax)

-- the first cut is one
pub first_cut-is : (n : Numbers) (bytes : List ℕ) → IsFirstCut n bytes (first_cut n bytes)
first_cut-is n bytes =
    let main = least (meets_main n bytes) n.tmin (min n.tmax (length bytes)) in
    let backup = greatest (meets_backup n bytes) n.tmin n.tmax in
    subst (IsFirstCut n bytes) (sym (first_cut-chosen n bytes main backup refl refl))
    (chosen-is n bytes main backup (least-is (meets_main n bytes) n.tmin (min n.tmax (length bytes))) (greatest-is (meets_backup n bytes) n.tmin n.tmax))

-- there is no other
pub first_cut-one : (n : Numbers) (bytes : List ℕ) (k : ℕ) → IsFirstCut n bytes k → first_cut n bytes ≡ k
unfolding chosen
first_cut-one n bytes k (by_main found) =
    first_cut-chosen n bytes (Some k) (greatest (meets_backup n bytes) n.tmin n.tmax) (least-one (meets_main n bytes) n.tmin (min n.tmax (length bytes)) k found) refl
first_cut-one n bytes k (by_end none below same) =
    let backup = greatest (meets_backup n bytes) n.tmin n.tmax in
    first_cut-chosen n bytes None backup (least-none (meets_main n bytes) n.tmin (min n.tmax (length bytes)) none) refl
    ∙ chosen-short n bytes backup below ∙ sym same
first_cut-one n bytes k (by_backup none full most) =
    first_cut-chosen n bytes None (Some k) (least-none (meets_main n bytes) n.tmin (min n.tmax (length bytes)) none) (greatest-one (meets_backup n bytes) n.tmin n.tmax k most)
    ∙ chosen-long n bytes (Some k) full
first_cut-one n bytes k (by_threshold none full backup same) =
    first_cut-chosen n bytes None None (least-none (meets_main n bytes) n.tmin (min n.tmax (length bytes)) none) (greatest-none (meets_backup n bytes) n.tmin n.tmax backup)
    ∙ chosen-long n bytes None full ∙ sym same

-- how long a first chunk of bytes that aren't empty is
pub record IsWithin (n : Numbers) (bytes : List ℕ) (k : ℕ) : Type 0 where
  pub some : 0 < k
  pub inside : k ≤ length bytes
  pub most : k ≤ n.tmax
  pub fewest : k < length bytes → n.tmin ≤ k

pub first-within : (n : Numbers) (bytes : List ℕ) (k : ℕ) → AreSound n → 0 < length bytes → IsFirstCut n bytes k → IsWithin n bytes k
first-within n bytes k sound some (by_main found) =
    let a = found.from in
    let b = found.to in
    record { some = omega arith; inside = omega arith; most = omega arith; fewest = λ _. a }
first-within n bytes k sound some (by_end none below same) =
    record { some = omega arith; inside = omega arith; most = omega arith; fewest = λ less. absurd (omega arith) }
first-within n bytes k sound some (by_backup none full found) =
    let a = found.from in
    let b = found.to in
    record { some = omega arith; inside = omega arith; most = omega arith; fewest = λ _. a }
first-within n bytes k sound some (by_threshold none full backup same) =
    record { some = omega arith; inside = omega arith; most = omega arith; fewest = λ _. omega arith }

pub first_cut-within : (n : Numbers) (bytes : List ℕ) → AreSound n → 0 < length bytes → IsWithin n bytes (first_cut n bytes)
first_cut-within n bytes sound some = first-within n bytes (first_cut n bytes) sound some (first_cut-is n bytes)

pub first_cut-rule : (n : Numbers) → AreSound n → IsRule (first_cut n)
first_cut-rule n sound = record { some = λ x xs. (first_cut-within n (x ∷ xs) sound (omega arith)).some }

pub cut-nil : (n : Numbers) → cut n [] ≡ []
unfolding cut
cut-nil n = parts-nil (first_cut n)

-- the first chunk, and the chunks of the rest
pub cut-step : (n : Numbers) (bytes : List ℕ) → AreSound n → 0 < length bytes → cut n bytes ≡ take (first_cut n bytes) bytes ∷ cut n (drop (first_cut n bytes) bytes)
unfolding cut
cut-step n bytes sound some = parts-step (first_cut n) (first_cut-rule n sound) bytes some

-- the same where the first chunk's length is known
pub cut-first : (n : Numbers) (bytes : List ℕ) (k : ℕ) → AreSound n → 0 < length bytes → first_cut n bytes ≡ k → cut n bytes ≡ take k bytes ∷ cut n (drop k bytes)
cut-first n bytes k sound some is = cut-step n bytes sound some ∙ ap (λ j. take j bytes ∷ cut n (drop j bytes)) is

-- a chunk's length, and what is left
pub length-first : (n : Numbers) (bytes : List ℕ) → AreSound n → 0 < length bytes → length (take (first_cut n bytes) bytes) ≡ first_cut n bytes
length-first n bytes sound some = let within = (first_cut-within n bytes sound some).inside in omega (arith, length-take (first_cut n bytes) bytes)

-- the cut is a cut
is_within : (n : Numbers) → AreSound n → (fuel : ℕ) (bytes : List ℕ) → length bytes ≤ fuel → IsCut n (cut n bytes) bytes
is_within n sound fuel [] fits = subst (λ cs. IsCut n cs []) (sym (cut-nil n)) refl
is_within n sound zero (x ∷ xs) fits = absurd (omega arith)
is_within n sound (suc fuel) (x ∷ xs) fits =
    let bytes = x ∷ xs in
    let k = first_cut n bytes in
    let some : 0 < length bytes = omega arith in
    let within = first_cut-within n bytes sound some in
    let positive = within.some in
    let long : length (take k bytes) ≡ k = length-first n bytes sound some in
    let left : length (drop k bytes) ≤ fuel = omega (arith, length-drop k bytes) in
    subst (λ cs. IsCut n cs bytes) (sym (cut-step n bytes sound some))
    (drop k bytes, sym (take-append-drop k bytes), omega arith, subst (IsFirstCut n bytes) (sym long) (first_cut-is n bytes), is_within n sound fuel (drop k bytes) left)

pub cut-is : (n : Numbers) (bytes : List ℕ) → AreSound n → IsCut n (cut n bytes) bytes
cut-is n bytes sound = is_within n sound (length bytes) bytes (omega arith)

-- there is no other
pub cut-one : (n : Numbers) → AreSound n → (chunks : List (List ℕ)) (bytes : List ℕ) → IsCut n chunks bytes → chunks ≡ cut n bytes
cut-one n sound [] bytes is = sym (ap (cut n) is ∙ cut-nil n)
cut-one n sound (chunk ∷ chunks) bytes (rest, whole, some, first, others) =
    let long : 0 < length bytes = omega (arith, length-append chunk rest, ap length whole) in
    let front : take (length chunk) bytes ≡ chunk = ap (take (length chunk)) whole ∙ take-append_seam chunk rest in
    let back : drop (length chunk) bytes ≡ rest = ap (drop (length chunk)) whole ∙ drop-append_seam chunk rest in
    ap (λ cs. chunk ∷ cs) (cut-one n sound chunks rest others)
    ∙ ap (λ c. c ∷ cut n rest) (sym front)
    ∙ ap (λ r. take (length chunk) bytes ∷ cut n r) (sym back)
    ∙ sym (cut-first n bytes (length chunk) sound long (first_cut-one n bytes (length chunk) first))

-- the chunks of a cut hold its stream
IsCut-whole : (n : Numbers) (chunks : List (List ℕ)) (bytes : List ℕ) → IsCut n chunks bytes → flat_map (λ c. c) chunks ≡ bytes
IsCut-whole n [] bytes is = sym is
IsCut-whole n (chunk ∷ chunks) bytes (rest, whole, some, first, others) = ap (λ r. chunk ++ r) (IsCut-whole n chunks rest others) ∙ sym whole

pub cut-whole : (n : Numbers) (bytes : List ℕ) → AreSound n → flat_map (λ c. c) (cut n bytes) ≡ bytes
cut-whole n bytes sound = IsCut-whole n (cut n bytes) bytes (cut-is n bytes sound)

-- where chunks are left, so are bytes
left-some : (n : Numbers) (chunks : List (List ℕ)) (rest : List ℕ) → IsCut n chunks rest → 0 < length chunks → 0 < length rest
left-some n [] rest is some = absurd (omega arith)
left-some n (chunk ∷ chunks) rest (more, whole, some, first, others) _ = omega (arith, length-append chunk more, ap length whole)

IsCut-sized : (n : Numbers) → AreSound n → (chunks : List (List ℕ)) (bytes : List ℕ) → IsCut n chunks bytes → IsSized n chunks
IsCut-sized n sound [] bytes is = tt
IsCut-sized n sound (chunk ∷ chunks) bytes (rest, whole, some, first, others) =
    let sum : length bytes ≡ length chunk + length rest = ap length whole ∙ length-append chunk rest in
    let within = first-within n bytes (length chunk) sound (omega arith) first in
    (some, within.most, λ more. within.fewest (omega (arith, left-some n chunks rest others more)), IsCut-sized n sound chunks rest others)

-- how long the chunks of a cut are
pub cut-sized : (n : Numbers) (bytes : List ℕ) → AreSound n → IsSized n (cut n bytes)
cut-sized n bytes sound = IsCut-sized n sound (cut n bytes) bytes (cut-is n bytes sound)

-- one chunk more is cut off
pub cut-advance : (n : Numbers) (before all : List (List ℕ)) (rest : List ℕ) (k : ℕ) → AreSound n → 0 < length rest → k ≡ first_cut n rest → before ++ cut n rest ≡ all → (before ++ take k rest ∷ []) ++ cut n (drop k rest) ≡ all
cut-advance n before all rest k sound some is whole =
    append_assoc before (take k rest ∷ []) (cut n (drop k rest))
    ∙ ap (λ cs. before ++ cs) (sym (cut-first n rest k sound some (sym is)))
    ∙ whole
