-- Laws of a stream that goes on: where the first chunk has ended, what follows doesn't change it.
use Rattle.std.proofs.Common.{◌≡◌, ℕ, ◌-◌, ◌<◌, ◌≤◌, Bool, true, false, ◌||◌, min, List, [], ◌∷◌, ◌++◌, length, take, drop, Option, Some, None, MatchOption, is_some, refl, sym, ap, ◌∙◌, subst, arith, length-drop, length-append}
use Rattle.std.specs.Prelude.{◌%◌, ◌==◌, nat_le}
use Rattle.std.proofs.Math.Seq.{take-length, drop-length}
use Rattle.roll_hash.specs.Fingerprint.{fingerprint}
use Rattle.std.proofs.lemmas.Bool.{le-leb, lt-leb, false≢true, cases_lt}
use mathlib.Core.Logic.{⊎_elim}
use Rattle.std.proofs.lemmas.List.{take-append-le, drop-append-le}
use Rattle.ss_base.specs.declared.profile.Numbers.{Numbers}
use Rattle.ss_base.specs.Profile.{AreSound}
use Rattle.ss_base.specs.Search.{least, greatest, NonePasses, IsGreatest}
use Rattle.ss_base.proofs.SearchLaws.{least-one, least-none, greatest-is, greatest-one, greatest-none}
use Rattle.tttd_chunker.specs.Cut.{window, meets, meets_main, first_cut, has_cut, cut}
use Rattle.tttd_chunker.specs.IsCut.{HasNoMain, IsFirstCut, by_main, by_end, by_backup, by_threshold}
use Rattle.tttd_chunker.proofs.CutLaws.{first_cut-is, first_cut-one, first_cut-within, cut-first, cut-nil}

pub window-append : (bytes more : List ℕ) (k : ℕ) → k ≤ length bytes → window (bytes ++ more) k ≡ window bytes k
unfolding window
window-append bytes more k within =
    let from : k - 48 ≤ length bytes = omega arith in
    let to : k - (k - 48) ≤ length (drop (k - 48) bytes) = omega (arith, length-drop (k - 48) bytes) in
    ap (take (k - (k - 48))) (drop-append-le (k - 48) bytes more from)
    ∙ take-append-le (k - (k - 48)) (drop (k - 48) bytes) more to

pub meets-append : (divisor : ℕ) (bytes more : List ℕ) (k : ℕ) → k ≤ length bytes → meets divisor (bytes ++ more) k ≡ meets divisor bytes k
unfolding meets
meets-append divisor bytes more k within = ap (λ w. fingerprint w % divisor == divisor - 1) (window-append bytes more k within)

longer : (bytes more : List ℕ) → length bytes ≤ length (bytes ++ more)
longer bytes more = omega (arith, length-append bytes more)

pub NonePasses-append : (divisor : ℕ) (bytes more : List ℕ) (low high : ℕ) → high ≤ length bytes → NonePasses (meets divisor bytes) low high → NonePasses (meets divisor (bytes ++ more)) low high
NonePasses-append divisor bytes more low high within none =
    record { none = λ j a b. meets-append divisor bytes more j (omega arith) ∙ none.none j a b }

greatest_of : (divisor : ℕ) (bytes more : List ℕ) (low high : ℕ) → high ≤ length bytes → (r : Option ℕ) → MatchOption r (NonePasses (meets divisor bytes) low high) (IsGreatest (meets divisor bytes) low high) → greatest (meets divisor (bytes ++ more)) low high ≡ r
greatest_of divisor bytes more low high within None none =
    greatest-none (meets divisor (bytes ++ more)) low high (NonePasses-append divisor bytes more low high within none)
greatest_of divisor bytes more low high within (Some k) found =
    let to = found.to in
    greatest-one (meets divisor (bytes ++ more)) low high k (record {
      from = found.from;
      to = found.to;
      passes = meets-append divisor bytes more k (omega arith) ∙ found.passes;
      after = λ j a b. meets-append divisor bytes more j (omega arith) ∙ found.after j a b;
    })

pub greatest-append : (divisor : ℕ) (bytes more : List ℕ) (low high : ℕ) → high ≤ length bytes → greatest (meets divisor (bytes ++ more)) low high ≡ greatest (meets divisor bytes) low high
greatest-append divisor bytes more low high within =
    greatest_of divisor bytes more low high within (greatest (meets divisor bytes) low high) (greatest-is (meets divisor bytes) low high)

no_main-append : (n : Numbers) (bytes more : List ℕ) → n.tmax ≤ length bytes → HasNoMain n bytes → HasNoMain n (bytes ++ more)
no_main-append n bytes more full none =
    let here : min n.tmax (length bytes) ≡ n.tmax = omega arith in
    let there : min n.tmax (length (bytes ++ more)) ≡ n.tmax = omega (arith, longer bytes more) in
    subst (NonePasses (meets_main n (bytes ++ more)) n.tmin) (sym there)
    (NonePasses-append n.d bytes more n.tmin n.tmax full (subst (NonePasses (meets_main n bytes) n.tmin) here none))

-- where no main cut is there and the bytes are few, the chunk may go on
no_cut : (n : Numbers) (bytes : List ℕ) → HasNoMain n bytes → length bytes < n.tmax → has_cut n bytes ≡ false
unfolding has_cut
no_cut n bytes none below =
    ap (λ r. is_some r || nat_le n.tmax (length bytes)) (least-none (meets_main n bytes) n.tmin (min n.tmax (length bytes)) none)
    ∙ lt-leb n.tmax (length bytes) below

goes_on : (n : Numbers) (bytes more : List ℕ) (k : ℕ) → has_cut n bytes ≡ true → IsFirstCut n bytes k → IsFirstCut n (bytes ++ more) k
goes_on n bytes more k known (by_main found) =
    let to = found.to in
    let from = found.from in
    by_main (record {
      from = found.from;
      to = omega (arith, longer bytes more);
      passes = meets-append n.d bytes more k (omega arith) ∙ found.passes;
      before = λ j a b. meets-append n.d bytes more j (omega arith) ∙ found.before j a b;
    })
goes_on n bytes more k known (by_end none below same) = absurd (false≢true (sym (no_cut n bytes none below) ∙ known))
goes_on n bytes more k known (by_backup none full found) =
    let to = found.to in
    by_backup (no_main-append n bytes more full none) (omega (arith, longer bytes more)) (record {
      from = found.from;
      to = found.to;
      passes = meets-append n.d2 bytes more k (omega arith) ∙ found.passes;
      after = λ j a b. meets-append n.d2 bytes more j (omega arith) ∙ found.after j a b;
    })
goes_on n bytes more k known (by_threshold none full backup same) =
    by_threshold (no_main-append n bytes more full none) (omega (arith, longer bytes more))
    (NonePasses-append n.d2 bytes more n.tmin n.tmax full backup) same

-- the first chunk has ended, and stays
pub first_cut-append : (n : Numbers) (bytes more : List ℕ) → has_cut n bytes ≡ true → first_cut n (bytes ++ more) ≡ first_cut n bytes
first_cut-append n bytes more known =
    first_cut-one n (bytes ++ more) (first_cut n bytes) (goes_on n bytes more (first_cut n bytes) known (first_cut-is n bytes))

-- the cut is known wherever some bytes are known to be its start
pub has_cut-main : (n : Numbers) (bytes : List ℕ) (k : ℕ) → least (meets_main n bytes) n.tmin (min n.tmax (length bytes)) ≡ Some k → has_cut n bytes ≡ true
unfolding has_cut
has_cut-main n bytes k main = ap (λ r. is_some r || nat_le n.tmax (length bytes)) main

pub has_cut-full : (n : Numbers) (bytes : List ℕ) → n.tmax ≤ length bytes → has_cut n bytes ≡ true
unfolding has_cut
has_cut-full n bytes full =
    or_right_true (is_some (least (meets_main n bytes) n.tmin (min n.tmax (length bytes)))) (nat_le n.tmax (length bytes)) (le-leb n.tmax (length bytes) full)
  where
    or_right_true : (a b : Bool) → b ≡ true → (a || b) ≡ true
    or_right_true true b is = refl
    or_right_true false b is = is

pub has_cut-none : (n : Numbers) (bytes : List ℕ) → HasNoMain n bytes → length bytes < n.tmax → has_cut n bytes ≡ false
has_cut-none n bytes none below = no_cut n bytes none below

ended : (n : Numbers) (bytes : List ℕ) (k : ℕ) → IsFirstCut n bytes k → (length bytes < n.tmax → HasNoMain n bytes → ⊥) → has_cut n bytes ≡ true
ended n bytes k (by_main found) _ = has_cut-main n bytes k (least-one (meets_main n bytes) n.tmin (min n.tmax (length bytes)) k found)
ended n bytes k (by_end none below same) never = absurd (never below none)
ended n bytes k (by_backup none full found) _ = has_cut-full n bytes full
ended n bytes k (by_threshold none full backup same) _ = has_cut-full n bytes full

-- what has ended has ended, however the stream goes on
has_ended : (n : Numbers) (bytes more : List ℕ) (k : ℕ) → has_cut n bytes ≡ true → IsFirstCut n bytes k → has_cut n (bytes ++ more) ≡ true
has_ended n bytes more k known (by_main found) =
    let to = found.to in
    let further : IsFirstCut n (bytes ++ more) k = goes_on n bytes more k known (by_main found) in
    ended n (bytes ++ more) k further (λ below none.
    let from = found.from in
    let passes : meets_main n (bytes ++ more) k ≡ true = meets-append n.d bytes more k (omega arith) ∙ found.passes in
    false≢true (sym (none.none k from (omega (arith, longer bytes more))) ∙ passes))
has_ended n bytes more k known (by_end none below same) = absurd (false≢true (sym (no_cut n bytes none below) ∙ known))
has_ended n bytes more k known (by_backup none full found) = has_cut-full n (bytes ++ more) (omega (arith, longer bytes more))
has_ended n bytes more k known (by_threshold none full backup same) = has_cut-full n (bytes ++ more) (omega (arith, longer bytes more))

pub has_cut-append : (n : Numbers) (bytes more : List ℕ) → has_cut n bytes ≡ true → has_cut n (bytes ++ more) ≡ true
has_cut-append n bytes more known = has_ended n bytes more (first_cut n bytes) known (first_cut-is n bytes)

-- bytes that are none have no cut
pub has_cut-nil : (n : Numbers) → AreSound n → has_cut n [] ≡ false
has_cut-nil n sound =
    let e = sound.window in
    let f = sound.thresholds in
    has_cut-none n [] (record { none = λ j a b. absurd (omega arith) }) (omega arith)

pub has_cut-some : (n : Numbers) (bytes : List ℕ) → AreSound n → has_cut n bytes ≡ true → 0 < length bytes
has_cut-some n [] sound known = absurd (false≢true (sym (has_cut-nil n sound) ∙ known))
has_cut-some n (x ∷ xs) sound known = omega arith

-- a chunk that has ended leaves the stream
pub cut-append : (n : Numbers) (bytes more : List ℕ) (k : ℕ) → AreSound n → has_cut n bytes ≡ true → first_cut n bytes ≡ k → cut n (bytes ++ more) ≡ take k bytes ∷ cut n (drop k bytes ++ more)
cut-append n bytes more k sound known is =
    let some = has_cut-some n bytes sound known in
    let within = first_cut-within n bytes sound some in
    let inside = within.inside in
    let to : k ≤ length bytes = omega arith in
    let all : 0 < length (bytes ++ more) = omega (arith, longer bytes more) in
    cut-first n (bytes ++ more) k sound all (first_cut-append n bytes more known ∙ is)
    ∙ ap (λ c. c ∷ cut n (drop k (bytes ++ more))) (take-append-le k bytes more to)
    ∙ ap (λ r. take k bytes ∷ cut n r) (drop-append-le k bytes more to)

few : (n : Numbers) (bytes : List ℕ) (k : ℕ) → has_cut n bytes ≡ false → IsFirstCut n bytes k → k ≡ length bytes
few n bytes k open_end (by_main found) =
    absurd (false≢true (sym open_end ∙ has_cut-main n bytes k (least-one (meets_main n bytes) n.tmin (min n.tmax (length bytes)) k found)))
few n bytes k open_end (by_end none below same) = same
few n bytes k open_end (by_backup none full found) = absurd (false≢true (sym open_end ∙ has_cut-full n bytes full))
few n bytes k open_end (by_threshold none full backup same) = absurd (false≢true (sym open_end ∙ has_cut-full n bytes full))

-- bytes in which no chunk has ended are one chunk where the stream ends
pub cut-last : (n : Numbers) (bytes : List ℕ) → AreSound n → 0 < length bytes → has_cut n bytes ≡ false → cut n bytes ≡ bytes ∷ []
cut-last n bytes sound some open_end =
    cut-first n bytes (length bytes) sound some (few n bytes (first_cut n bytes) open_end (first_cut-is n bytes))
    ∙ ap (λ c. c ∷ cut n (drop (length bytes) bytes)) (take-length bytes)
    ∙ ap (λ r. bytes ∷ cut n r) (drop-length bytes)
    ∙ ap (λ cs. bytes ∷ cs) (cut-nil n)

-- where no chunk has ended, the bytes are few
pub has_cut-few : (n : Numbers) (bytes : List ℕ) → has_cut n bytes ≡ false → length bytes < n.tmax
has_cut-few n bytes open_end =
    ⊎_elim (λ lt. lt) (λ full. absurd (false≢true (sym open_end ∙ has_cut-full n bytes full))) (cases_lt (length bytes) n.tmax)
