-- What a search that has come to an end tells of the first cut.
use Rattle.std.proofs.Common.{◌≡◌, ℕ, ◌+◌, ◌<◌, ◌≤◌, Bool, true, false, List, ◌++◌, length, length-append, min, Some, None, unwrap_or, sym, ap, ◌∙◌, subst, arith}
use Rattle.std.proofs.lemmas.Bool.{cases_eq}
use mathlib.Core.Logic.{⊎_elim}
use Rattle.ss_base.specs.declared.profile.Numbers.{Numbers}
use Rattle.ss_base.specs.Profile.{AreSound}
use Rattle.ss_base.specs.Search.{greatest, NonePasses, IsLeast}
use Rattle.ss_base.proofs.SearchLaws.{least-one, least-none, greatest-none}
use Rattle.roll_hash.specs.Fingerprint.{window_sum}
use Rattle.tttd_chunker.specs.Cut.{window, meets_main, meets_backup, first_cut, has_cut}
use Rattle.tttd_chunker.specs.IsCut.{HasNoMain, by_main}
use Rattle.tttd_chunker.specs.Scanned.{HasScanned, IsKnown, IsProgress}
use Rattle.tttd_chunker.specs.declared.progress.Scan.{Scan}
use Rattle.tttd_chunker.specs.declared.progress.Progress.{Progress}
use Rattle.tttd_chunker.specs.declared.progress.Progress.TheVariants.{Fresh, Scanned, Cut}
use Rattle.tttd_chunker.proofs.CutLaws.{first_cut-one, first_cut-backup, first_cut-within}
use Rattle.tttd_chunker.proofs.StreamLaws.{has_cut-main, has_cut-some, has_cut-full, has_cut-none, NonePasses-append, window-append, greatest-append, first_cut-append, has_cut-append}
use Rattle.tttd_chunker.proofs.ScanLaws.{NonePasses-join, greatest-stays, greatest-last, backup-main}

known : (n : Numbers) (bytes : List ℕ) (k : ℕ) → AreSound n → first_cut n bytes ≡ k → has_cut n bytes ≡ true → IsKnown n bytes k
known n bytes k sound first ended =
    let within = (first_cut-within n bytes sound (has_cut-some n bytes sound ended)).inside in
    record { first = first; within = omega arith; ended = ended }

-- at a position that meets the main test
pub known-main : (n : Numbers) (bytes : List ℕ) (k : ℕ) → AreSound n → IsLeast (meets_main n bytes) n.tmin (min n.tmax (length bytes)) k → IsKnown n bytes k
known-main n bytes k sound found =
    known n bytes k sound (first_cut-one n bytes k (by_main found))
    (has_cut-main n bytes k (least-one (meets_main n bytes) n.tmin (min n.tmax (length bytes)) k found))

no_main : (n : Numbers) (bytes : List ℕ) (s : Scan) → HasScanned n bytes s → s.at ≡ min n.tmax (length bytes) → HasNoMain n bytes
no_main n bytes s scanned end = subst (NonePasses (meets_main n bytes) n.tmin) end scanned.main

-- at the upper threshold
pub known-full : (n : Numbers) (bytes : List ℕ) (s : Scan) → AreSound n → HasScanned n bytes s → s.at ≡ min n.tmax (length bytes) → n.tmax ≤ length bytes → IsKnown n bytes (unwrap_or s.backup n.tmax)
known-full n bytes s sound scanned end full =
    let top : s.at ≡ n.tmax = omega arith in
    let none = least-none (meets_main n bytes) n.tmin (min n.tmax (length bytes)) (no_main n bytes s scanned end) in
    let backup = sym (scanned.backup ∙ ap (greatest (meets_backup n bytes) n.tmin) top) in
    known n bytes (unwrap_or s.backup n.tmax) sound (first_cut-backup n bytes s.backup none full backup) (has_cut-full n bytes full)

-- at the end of few bytes
pub open-end : (n : Numbers) (bytes : List ℕ) (s : Scan) → HasScanned n bytes s → s.at ≡ min n.tmax (length bytes) → length bytes < n.tmax → has_cut n bytes ≡ false
open-end n bytes s scanned end below = has_cut-none n bytes (no_main n bytes s scanned end) below

-- below the lower threshold
pub open-fresh : (n : Numbers) (bytes : List ℕ) → AreSound n → length bytes < n.tmin → has_cut n bytes ≡ false
open-fresh n bytes sound below =
    let order = sound.thresholds in
    has_cut-none n bytes (record { none = λ j a b. absurd (omega arith) }) (omega arith)

-- at one position
pub NonePasses-at : (p : ℕ → Bool) (k : ℕ) → p k ≡ false → NonePasses p k k
NonePasses-at p k fails = record { none = λ j a b. let same : k ≡ j = omega arith in ap p (sym same) ∙ fails }

pub greatest-at : (p : ℕ → Bool) (k : ℕ) → p k ≡ false → greatest p k k ≡ None
greatest-at p k fails = greatest-none p k k (NonePasses-at p k fails)

-- none of these positions meets the backup test, so none meets the main one
pub none-main : (n : Numbers) (bytes : List ℕ) (low high : ℕ) → AreSound n → NonePasses (meets_backup n bytes) low high → NonePasses (meets_main n bytes) low high
none-main n bytes low high sound none = record { none = λ j a b. backup-main n bytes j sound (none.none j a b) }

-- the search comes to a position without a further one that meets the backup test
pub scanned-end : (n : Numbers) (bytes : List ℕ) (s : Scan) (end sum : ℕ) → AreSound n → HasScanned n bytes s → s.at ≤ end → end ≤ length bytes → NonePasses (meets_backup n bytes) (s.at + 1) end → sum ≡ window_sum (window bytes end) → HasScanned n bytes (record { at = end; sum = sum; backup = s.backup })
scanned-end n bytes s end sum sound scanned order within none is =
    let from = scanned.from in
    record {
      from = omega arith;
      to = within;
      sum = is;
      main = NonePasses-join (meets_main n bytes) n.tmin s.at end scanned.main (none-main n bytes (s.at + 1) end sound none);
      backup = scanned.backup ∙ sym (greatest-stays (meets_backup n bytes) n.tmin s.at end order none);
    }

-- no position before the next one that meets the backup test meets the main test
pub none-before : (n : Numbers) (bytes : List ℕ) (s : Scan) (end k j : ℕ) → AreSound n → HasScanned n bytes s → IsLeast (meets_backup n bytes) (s.at + 1) end k → n.tmin ≤ j → j < k → meets_main n bytes j ≡ false
none-before n bytes s end k j sound scanned found a b =
    let front = scanned.main in
    let back : NonePasses (meets_backup n bytes) (s.at + 1) j = record { none = λ i x y. found.before i x (omega arith) } in
    (NonePasses-join (meets_main n bytes) n.tmin s.at j front (none-main n bytes (s.at + 1) j sound back)).none j a (omega arith)

-- the next position that meets the backup test meets the main test too
pub found-main : (n : Numbers) (bytes : List ℕ) (s : Scan) (end k : ℕ) → AreSound n → HasScanned n bytes s → IsLeast (meets_backup n bytes) (s.at + 1) end k → meets_main n bytes k ≡ true → IsLeast (meets_main n bytes) n.tmin end k
found-main n bytes s end k sound scanned found passes =
    let from = scanned.from in
    let low = found.from in
    record { from = omega arith; to = found.to; passes = passes; before = λ j a b. none-before n bytes s end k j sound scanned found a b }

-- it meets the backup test alone
pub scanned-backup : (n : Numbers) (bytes : List ℕ) (s : Scan) (end k sum : ℕ) → AreSound n → HasScanned n bytes s → end ≤ length bytes → IsLeast (meets_backup n bytes) (s.at + 1) end k → meets_main n bytes k ≡ false → sum ≡ window_sum (window bytes k) → HasScanned n bytes (record { at = k; sum = sum; backup = Some k })
scanned-backup n bytes s end k sum sound scanned within found fails is =
    let from = scanned.from in
    let low = found.from in
    let high = found.to in
    let order : n.tmin ≤ k = omega arith in
    record {
      from = order;
      to = omega arith;
      sum = is;
      main = record { none = λ j a b. up_to j a b };
      backup = sym (greatest-last (meets_backup n bytes) n.tmin k order found.passes);
    }
  where
    up_to : (j : ℕ) → n.tmin ≤ j → j ≤ k → meets_main n bytes j ≡ false
    up_to j a b =
        ⊎_elim (λ same. ap (meets_main n bytes) same ∙ fails) (λ other. none-before n bytes s end k j sound scanned found a (omega arith)) (cases_eq j k)

-- what is known stays where bytes come
pub HasScanned-append : (n : Numbers) (bytes more : List ℕ) (s : Scan) → HasScanned n bytes s → HasScanned n (bytes ++ more) s
HasScanned-append n bytes more s scanned =
    let to = scanned.to in
    record {
      from = scanned.from;
      to = omega (arith, length-append bytes more);
      sum = scanned.sum ∙ ap window_sum (sym (window-append bytes more s.at to));
      main = NonePasses-append n.d bytes more n.tmin s.at to scanned.main;
      backup = scanned.backup ∙ sym (greatest-append n.d2 bytes more n.tmin s.at to);
    }

pub IsKnown-append : (n : Numbers) (bytes more : List ℕ) (k : ℕ) → IsKnown n bytes k → IsKnown n (bytes ++ more) k
IsKnown-append n bytes more k known =
    let within = known.within in
    record { first = first_cut-append n bytes more known.ended ∙ known.first; within = omega (arith, length-append bytes more); ended = has_cut-append n bytes more known.ended }

pub IsProgress-append : (n : Numbers) (bytes more : List ℕ) (p : Progress) → IsProgress n bytes p → IsProgress n (bytes ++ more) p
IsProgress-append n bytes more Fresh is = tt
IsProgress-append n bytes more (Scanned s) is = (HasScanned-append n bytes more s is.0, is.1)
IsProgress-append n bytes more (Cut k) is = IsKnown-append n bytes more k is
