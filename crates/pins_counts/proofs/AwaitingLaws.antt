-- What is awaited as the numbers change, and why a walk may pass the other sessions.
use Rattle.std.proofs.Common.{◌≡◌, refl, sym, ◌∙◌, ap, ℕ, zero, suc, ◌+◌, ◌-◌, ◌<◌, ◌≤◌, List, [], ◌∷◌, ◌++◌, take, drop, filter, length, slice_get, Bool, true, false, not, ◌&&◌, eqb, Option, Some, None, MatchOption, arith}
use Rattle.std.proofs.lemmas.Bool.{false≢true}
use Rattle.std.proofs.lemmas.Bool.Decides.{nat_tests}
use Rattle.std.proofs.lemmas.List.{drop_all, take_all, append-nil, length-take}
use Rattle.std.proofs.lemmas.List.Elements.{filter-append}
use Rattle.ss_base.specs.declared.ended.Ended.{Ended}
use Rattle.ss_base.specs.declared.object.Object.{Object}
use Rattle.ss_base.specs.KnownObjects.{numbered, objects_of}
use Rattle.pins_counts.specs.declared.kind.Kind.{Kind}
use Rattle.pins_counts.specs.Counts.{Counted, number, is_gone, object_of, count_of, is_idle}
use Rattle.pins_counts.specs.Waiting.{Awaited, awaits, closed, ended_at, objects_had, objects_at, IsQuiet, IsAwaited}
use Rattle.pins_counts.proofs.WalkLaws.{Finds, passed_to}

-- ---- a walk over sessions

-- what a walk from a session on still finds
abbrev pub dead_from : Kind → Counted → ℕ → List Object
dead_from kind counted n = filter (is_idle counted) (objects_of (object_of kind) (count_of kind) n (drop n counted.sessions))

at_here : (kind : Kind) (ss : List (Option Ended)) (s n : ℕ)
    → objects_of (object_of kind) (count_of kind) n (drop s ss) ≡ objects_had kind n (closed (slice_get ss s)) ++ objects_of (object_of kind) (count_of kind) (n + 1) (drop (s + 1) ss)
at_here kind [] zero n = refl
at_here kind [] (suc s) n = ap (objects_of (object_of kind) (count_of kind) (n + 1)) (sym (drop_all (suc s + 1) [] (omega arith)))
at_here kind (None ∷ ss) zero n = refl
at_here kind (Some e ∷ ss) zero n = refl
at_here kind (x ∷ ss) (suc s) n =
    let e : suc (s + 1) ≡ suc s + 1 = omega arith in
    at_here kind ss s n ∙ ap (λ m. objects_had kind n (closed (slice_get ss s)) ++ objects_of (object_of kind) (count_of kind) (n + 1) (drop m (x ∷ ss))) e

pub dead_here : (kind : Kind) (counted : Counted) (n : ℕ) → dead_from kind counted n ≡ filter (is_idle counted) (objects_at kind counted n) ++ dead_from kind counted (n + 1)
dead_here kind counted n = ap (filter (is_idle counted)) (at_here kind counted.sessions n n) ∙ filter-append (is_idle counted) (objects_at kind counted n) _

quiet_had : (kind : Kind) (counted : Counted) (s : ℕ) (o : Option Ended) → ended_at counted s ≡ o → IsQuiet kind counted s → filter (is_idle counted) (objects_had kind s o) ≡ []
quiet_had kind counted s None is quiet = refl
quiet_had kind counted s (Some e) is quiet =
    let count = count_of kind e in
    let none : count - count ≡ 0 = omega arith in
    let whole : count ≡ count - 0 = omega arith in
    ap (λ x. filter (is_idle counted) (numbered (object_of kind s) 0 x)) whole
    ∙ passed_to (is_idle counted) kind s count 0 count (omega arith) (omega arith) (λ n from to. quiet e n is to)
    ∙ ap (λ x. filter (is_idle counted) (numbered (object_of kind s) count x)) none

quiet_none : (kind : Kind) (counted : Counted) (s : ℕ) → IsQuiet kind counted s → filter (is_idle counted) (objects_at kind counted s) ≡ []
quiet_none kind counted s quiet = quiet_had kind counted s (ended_at counted s) refl quiet

quiet_for : (kind : Kind) (counted : Counted) (d n : ℕ) → ((k : ℕ) → n ≤ k → k < n + d → IsQuiet kind counted k) → dead_from kind counted n ≡ dead_from kind counted (n + d)
quiet_for kind counted zero n quiet = let e : n ≡ n + 0 = omega arith in ap (dead_from kind counted) e
quiet_for kind counted (suc d) n quiet =
    let e : (n + 1) + d ≡ n + suc d = omega arith in
    dead_here kind counted n
    ∙ ap (λ xs. xs ++ dead_from kind counted (n + 1)) (quiet_none kind counted n (quiet n (omega arith) (omega arith)))
    ∙ quiet_for kind counted d (n + 1) (λ k from to. quiet k (omega arith) (omega arith))
    ∙ ap (dead_from kind counted) e

pub quiet_to : (kind : Kind) (counted : Counted) (n s : ℕ) → n ≤ s → ((k : ℕ) → n ≤ k → k < s → IsQuiet kind counted k) → dead_from kind counted n ≡ dead_from kind counted s
quiet_to kind counted n s le quiet =
    let e : n + (s - n) ≡ s = omega (arith, le) in
    quiet_for kind counted (s - n) n (λ k from to. quiet k from (omega (arith, to, le))) ∙ ap (dead_from kind counted) e

quiet_end : (kind : Kind) (counted : Counted) (n : ℕ) → ((k : ℕ) → n ≤ k → IsQuiet kind counted k) → dead_from kind counted n ≡ []
quiet_end kind counted n quiet =
    let m = n + length counted.sessions in
    quiet_for kind counted (length counted.sessions) n (λ k from to. quiet k from)
    ∙ ap (λ l. filter (is_idle counted) (objects_of (object_of kind) (count_of kind) m l)) (drop_all m counted.sessions (omega arith))

take_front : (n : ℕ) (xs ys : List Object) → take n (take n xs ++ ys) ≡ take n (xs ++ ys)
take_front zero xs ys = refl
take_front (suc n) [] ys = refl
take_front (suc n) (x ∷ xs) ys = ap (λ l. x ∷ l) (take_front n xs ys)

append_right : (xs ys zs : List Object) → (xs ++ ys) ++ zs ≡ xs ++ (ys ++ zs)
append_right [] ys zs = refl
append_right (x ∷ xs) ys zs = ap (λ l. x ∷ l) (append_right xs ys zs)

module _ (kind : Kind) (counted : Counted) (limit : ℕ) (found goal : List Object) (n : ℕ) (so : Finds limit found (dead_from kind counted n) goal) where
  -- no session is left
  pub finds_end : ((k : ℕ) → n ≤ k → IsQuiet kind counted k) → found ≡ goal
  finds_end quiet = sym (take_all limit found so.small) ∙ ap (take limit) (sym (append-nil found) ∙ ap (λ l. found ++ l) (sym (quiet_end kind counted n quiet))) ∙ so.same

  -- the next session's are found
  pub finds_session : (s : ℕ) (more : List Object) → n ≤ s → ((k : ℕ) → n ≤ k → k < s → IsQuiet kind counted k) → more ≡ take limit (found ++ filter (is_idle counted) (objects_at kind counted s))
      → Finds limit more (dead_from kind counted (s + 1)) goal
  finds_session s more le quiet is =
      let here = filter (is_idle counted) (objects_at kind counted s) in
      let size = ap length is ∙ length-take limit (found ++ here) in
      record {
        small = omega (arith, size);
        same = ap (λ l. take limit (l ++ dead_from kind counted (s + 1))) is ∙ take_front limit (found ++ here) (dead_from kind counted (s + 1))
            ∙ ap (take limit) (append_right found here (dead_from kind counted (s + 1)) ∙ ap (λ l. found ++ l) (sym (dead_here kind counted s) ∙ sym (quiet_to kind counted n s le quiet)))
            ∙ so.same;
      }

-- ---- changes

-- an object stays idle or not as its number doesn't fall and what is gone stays so
not_idle : (g h : Bool) (m n : ℕ) → (g ≡ true → h ≡ true) → m ≤ n → (not g && eqb m 0) ≡ false → (not h && eqb n 0) ≡ false
not_idle g true m n grows le was = refl
not_idle true false m n grows le was = absurd (false≢true (grows refl))
not_idle false false m n grows le was = grind (arith, nat_tests, was, le)

pub calm : (old new : Counted) (q : Object) → (is_gone old q ≡ true → is_gone new q ≡ true) → number old q ≤ number new q → is_idle old q ≡ false → is_idle new q ≡ false
calm old new q = not_idle (is_gone old q) (is_gone new q) (number old q) (number new q)

-- the sessions before the next awaited one are quiet, or all from there on
abbrev pub NextIs : Kind → Counted → ℕ → Option ℕ → Type 0
NextIs kind counted from o = MatchOption o ((q : ℕ) → from ≤ q → IsQuiet kind counted q) (λ s. (from ≤ s) × ((q : ℕ) → from ≤ q → q < s → IsQuiet kind counted q))

pub next_quiet : (kind : Kind) (counted : Counted) (a : Awaited) (from : ℕ) (o : Option ℕ) → IsAwaited kind counted a
    → MatchOption o ((q : ℕ) → from ≤ q → awaits a.sessions q ≡ false) (λ s. (from ≤ s) × ((q : ℕ) → from ≤ q → q < s → awaits a.sessions q ≡ false))
    → NextIs kind counted from o
next_quiet kind counted a from None so is = λ q least. so.covers q (is q least)
next_quiet kind counted a from (Some s) so is = (is.0, λ q least less. so.covers q (is.1 q least less))
