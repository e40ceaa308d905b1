-- Laws of a search for the first cut that is carried from byte to byte.
use Rattle.std.proofs.Common.{◌≡◌, ℕ, suc, ◌+◌, ◌-◌, ◌*◌, ◌/◌, ◌%◌, ◌<◌, ◌≤◌, Bool, true, false, List, [], ◌∷◌, ◌++◌, length, take, drop, get_or, Option, Some, None, MatchOption, sym, ap, ◌∙◌, arith, length-take, length-drop, drop-cons}
use Rattle.std.specs.Prelude.{◌==◌}
use Rattle.std.proofs.lemmas.Bool.{ne_eqb, eq-eqb, false≢true, cases_lt}
use Rattle.std.proofs.lemmas.List.{take_more, get_or-drop}
use Rattle.std.proofs.lemmas.Nat.{mod-mul-add, div-add-mod'}
use mathlib.Core.Logic.{⊎_elim}
use Rattle.ss_base.specs.declared.profile.Numbers.{Numbers}
use Rattle.ss_base.specs.Profile.{AreSound}
use Rattle.ss_base.specs.Search.{greatest, NonePasses, IsGreatest}
use Rattle.ss_base.proofs.SearchLaws.{greatest-is, greatest-one, greatest-none}
use Rattle.roll_hash.specs.Fingerprint.{fingerprint}
use Rattle.tttd_chunker.specs.Cut.{window, meets, meets_main, meets_backup}

-- how the window goes on by one byte
pub record Slides (bytes : List ℕ) (k : ℕ) : Type 0 where
  pub rest : List ℕ
  pub before : window bytes k ≡ get_or bytes (k - 48) 0 ∷ rest
  pub after : window bytes (k + 1) ≡ rest ++ get_or bytes k 0 ∷ []
  pub long : length rest ≡ 47

pub window-slides : (bytes : List ℕ) (k : ℕ) → 48 ≤ k → k < length bytes → Slides bytes k
unfolding window
window-slides bytes k low high =
    let i = k - 48 in
    let width : k - i ≡ suc 47 = omega arith in
    let later : k + 1 - 48 ≡ suc i = omega arith in
    let wide : k + 1 - suc i ≡ 47 + 1 = omega arith in
    let within : i < length bytes = omega arith in
    let ys = drop (suc i) bytes in
    let more : 47 < length ys = omega (arith, length-drop (suc i) bytes) in
    let place : suc i + 47 ≡ k = omega arith in
    record {
      rest = take 47 ys;
      before = ap (λ w. take w (drop i bytes)) width ∙ ap (take (suc 47)) (drop-cons bytes i 0 within);
      after =
          ap (λ j. take (k + 1 - j) (drop j bytes)) later
          ∙ ap (λ w. take w ys) wide
          ∙ take_more ys 47 0 more
          ∙ ap (λ x. take 47 ys ++ x ∷ []) (get_or-drop (suc i) bytes 47 0 ∙ ap (λ j. get_or bytes j 0) place);
      long = omega (arith, length-take 47 ys);
    }

-- the test by a divisor, from the sum of the window
pub meets-sum : (divisor : ℕ) (bytes : List ℕ) (k value : ℕ) → value ≡ fingerprint (window bytes k) → (value % divisor == divisor - 1) ≡ meets divisor bytes k
unfolding meets
meets-sum divisor bytes k value is = ap (λ f. f % divisor == divisor - 1) is

-- the greatest remainder by a double is the greatest remainder
half : (f d : ℕ) → 0 < d → f % (2 * d) ≡ 2 * d - 1 → f % d ≡ d - 1
half f d some is =
    let q = f / (2 * d) in
    let whole : f ≡ (2 * q + 1) * d + (d - 1) = omega (arith, div-add-mod' f (2 * d)) in
    ap (λ n. n % d) whole ∙ mod-mul-add (2 * q + 1) d (d - 1) (omega arith)

-- what doesn't meet the backup test doesn't meet the main one
pub backup-main : (n : Numbers) (bytes : List ℕ) (k : ℕ) → AreSound n → meets_backup n bytes k ≡ false → meets_main n bytes k ≡ false
unfolding meets
backup-main n bytes k sound fails =
    let f = fingerprint (window bytes k) in
    let double = sound.main in
    let some = sound.backup in
    ne_eqb (f % n.d) (n.d - 1) (λ is.
    false≢true (sym fails ∙ eq-eqb (f % n.d2) (n.d2 - 1) (half f n.d2 some (ap (λ d. f % d) (sym double) ∙ is ∙ ap (λ d. d - 1) double))))

-- none passes in two ranges that follow each other
pub NonePasses-join : (p : ℕ → Bool) (low mid high : ℕ) → NonePasses p low mid → NonePasses p (mid + 1) high → NonePasses p low high
NonePasses-join p low mid high front back =
    record { none = λ j a b. ⊎_elim (λ lt. front.none j a (omega arith)) (λ ge. back.none j ge b) (cases_lt j (mid + 1)) }

found_before : (p : ℕ → Bool) (low mid high : ℕ) (r : Option ℕ) → mid ≤ high → MatchOption r (NonePasses p low mid) (IsGreatest p low mid) → NonePasses p (mid + 1) high → greatest p low high ≡ r
found_before p low mid high None order front back = greatest-none p low high (NonePasses-join p low mid high front back)
found_before p low mid high (Some k) order front back =
    let to = front.to in
    greatest-one p low high k (record {
      from = front.from;
      to = omega arith;
      passes = front.passes;
      after = λ j a b. ⊎_elim (λ lt. front.after j a (omega arith)) (λ ge. back.none j ge b) (cases_lt j (mid + 1));
    })

-- the greatest stays where none passes after it
pub greatest-stays : (p : ℕ → Bool) (low mid high : ℕ) → mid ≤ high → NonePasses p (mid + 1) high → greatest p low high ≡ greatest p low mid
greatest-stays p low mid high order back = found_before p low mid high (greatest p low mid) order (greatest-is p low mid) back

-- the greatest where the last passes
pub greatest-last : (p : ℕ → Bool) (low high : ℕ) → low ≤ high → p high ≡ true → greatest p low high ≡ Some high
greatest-last p low high order passes =
    greatest-one p low high high (record { from = order; to = omega arith; passes = passes; after = λ j a b. absurd (omega arith) })
