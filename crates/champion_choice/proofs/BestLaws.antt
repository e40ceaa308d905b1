-- The best by score is the best of the definition.
use Rattle.std.proofs.Common.{◌≡◌, ◌⊎◌, ℕ, ◌+◌, length, get_or, slice_get, ◌<◌, ◌≤◌, true, false, eqb, ltb, leb, ◌&&◌, Some, None, refl, sym, ap, ◌∙◌, subst, inl, inr, arith, eqb-true}
use Rattle.std.proofs.lemmas.Bool.{both_ways, cases_Bool, and_parts, and_from, or_cases, or_left, or_right, lt-ltb, ltb-true, le-leb, leb-true, eq-eqb, eqb-false, ltb-false, leb-false}
use Rattle.champion_choice.specs.declared.score.Score.{Score}
use Rattle.champion_choice.proofs.PlaceLaws.{get_here, get_below}
use Rattle.champion_choice.specs.Scores.{Kept, is_ahead, IsBestOf}

-- ahead, as an order on numbers
abbrev pub IsAhead : Score → Score → Type 0
IsAhead a b = (b.hooks < a.hooks) ⊎ ((a.hooks ≡ b.hooks) × (b.stamp ≤ a.stamp))

pub ahead-true : (a b : Score) → is_ahead a b ≡ true → IsAhead a b
ahead-true a b e = elim (or_cases (ltb b.hooks a.hooks) (eqb a.hooks b.hooks && leb b.stamp a.stamp) e) [
  | inl more ↦ inl (ltb-true b.hooks a.hooks more)
  | inr tie ↦
      let parts = and_parts (eqb a.hooks b.hooks) (leb b.stamp a.stamp) tie in
      inr (eqb-true a.hooks b.hooks parts.0, leb-true b.stamp a.stamp parts.1)
]

pub true-ahead : (a b : Score) → IsAhead a b → is_ahead a b ≡ true
true-ahead a b (inl more) = or_left (ltb b.hooks a.hooks) (eqb a.hooks b.hooks && leb b.stamp a.stamp) (lt-ltb b.hooks a.hooks more)
true-ahead a b (inr tie) =
    or_right (ltb b.hooks a.hooks) (eqb a.hooks b.hooks && leb b.stamp a.stamp)
    (and_from (eqb a.hooks b.hooks) (leb b.stamp a.stamp) (eq-eqb a.hooks b.hooks tie.0) (le-leb b.stamp a.stamp tie.1))

ahead_itself : (a : Score) → is_ahead a a ≡ true
ahead_itself a = true-ahead a a (inr (refl, omega arith))

ahead_trans : (a b c : Score) → is_ahead a b ≡ true → is_ahead b c ≡ true → is_ahead a c ≡ true
ahead_trans a b c first second = true-ahead a c (elim (ahead-true a b first) [
  | inl more ↦ elim (ahead-true b c second) [ inl also ↦ inl (omega arith) | inr tie ↦ let e = tie.0 in inl (omega (arith, e)) ]
  | inr tie ↦ let e = tie.0 in let s = tie.1 in elim (ahead-true b c second) [ inl also ↦ inl (omega (arith, e)) | inr also ↦ let f = also.0 in let t = also.1 in inr (omega (arith, e, f), omega (arith, s, t)) ]
])

-- of two scores that are not ahead, the other is
behind : (a b : Score) → is_ahead a b ≡ false → is_ahead b a ≡ true
behind a b e = true-ahead b a (elim (cases_Bool (ltb b.hooks a.hooks)) [
  | inl more ↦ absurd (both_ways (is_ahead a b) e (or_left (ltb b.hooks a.hooks) (eqb a.hooks b.hooks && leb b.stamp a.stamp) more))
  | inr low ↦ elim (cases_Bool (eqb a.hooks b.hooks)) [
    | inl tie ↦ elim (cases_Bool (leb b.stamp a.stamp)) [
      | inl older ↦ absurd (both_ways (is_ahead a b) e (or_right (ltb b.hooks a.hooks) (eqb a.hooks b.hooks && leb b.stamp a.stamp) (and_from (eqb a.hooks b.hooks) (leb b.stamp a.stamp) tie older)))
      | inr newer ↦ inr (sym (eqb-true a.hooks b.hooks tie), (let n = leb-false b.stamp a.stamp newer in omega (arith, n)))
    ]
    | inr apart ↦ inl (let h = ltb-false b.hooks a.hooks low in let ne = eqb-false a.hooks b.hooks apart in omega (arith, h, ne))
  ]
])

some_score : (a b : Score) → Some a ≡ Some b → a ≡ b
some_score a b e = cc

-- none of the first scores is ahead, and it is one of them where it stands at a hook
pub record IsBestBefore (m : Kept) (i at : ℕ) (b : Score) : Type 0 where
  pub ahead : (p : ℕ) (s : Score) → p < i → slice_get m p ≡ Some s → is_ahead b s ≡ true
  pub seen : 0 < b.hooks → slice_get m at ≡ Some b

pub best_start : (m : Kept) (at : ℕ) (b : Score) → b.hooks ≡ 0 → IsBestBefore m 0 at b
best_start m at b none = record { ahead = λ p s low is. absurd (omega arith); seen = λ some. absurd (omega (arith, none, some)) }

module _ (m : Kept) (i : ℕ) (d : Score) (at : ℕ) (b : Score) (below : i < length m) (so : IsBestBefore m i at b) where
  -- what is ahead of the next score and of those before it
  ahead_next : (x : Score) → is_ahead x (get_or m i d) ≡ true → ((s : Score) → is_ahead b s ≡ true → is_ahead x s ≡ true)
      → (p : ℕ) (s : Score) → p < i + 1 → slice_get m p ≡ Some s → is_ahead x s ≡ true
  ahead_next x here before p s low is = elim (cases_Bool (eqb p i)) [
    | inl same ↦
        let score : get_or m i d ≡ s = some_score (get_or m i d) s (sym (get_here m i d below) ∙ ap (slice_get m) (sym (eqb-true p i same)) ∙ is) in
        subst (λ (t : Score). is_ahead x t ≡ true) score here
    | inr other ↦ before s (so.ahead p s (let ne = eqb-false p i other in omega (arith, low, ne)) is)
  ]

  pub best_stays : is_ahead (get_or m i d) b ≡ false → IsBestBefore m (i + 1) at b
  best_stays loses = record {
    ahead = ahead_next b (behind (get_or m i d) b loses) (λ s before. before);
    seen = so.seen;
  }

  pub best_next : is_ahead (get_or m i d) b ≡ true → IsBestBefore m (i + 1) i (get_or m i d)
  best_next wins = record {
    ahead = ahead_next (get_or m i d) (ahead_itself (get_or m i d)) (λ s before. ahead_trans (get_or m i d) b s wins before);
    seen = λ some. get_here m i d below;
  }

module _ (m : Kept) (i at : ℕ) (b : Score) (over : length m ≤ i) (so : IsBestBefore m i at b) where
  ahead_of : (p : ℕ) (s : Score) → slice_get m p ≡ Some s → is_ahead b s ≡ true
  ahead_of p s is = so.ahead p s (let low = get_below m p s is in omega (arith, low, over)) is

  pub no_best : b.hooks ≡ 0 → IsBestOf m None
  no_best none p s is = elim (ahead-true b s (ahead_of p s is)) [
    | inl more ↦ absurd (omega (arith, more, none))
    | inr tie ↦ sym tie.0 ∙ none
  ]

  pub best_is : 0 < b.hooks → IsBestOf m (Some (at, b))
  best_is some = (so.seen some, some, ahead_of)
