-- The best by score is the best of the definition, round by round.
use Rattle.std.proofs.Common.{◌≡◌, ℕ, zero, suc, ◌<◌, Bool, true, false, eqb, ltb, leb, cond, ◌&&◌, ◌||◌, List, [], ◌∷◌, Option, Some, None, refl, sym, ap, ◌∙◌, subst, inl, inr, arith, eqb-true}
use Rattle.std.specs.List.{find, list_any, list_all, Contains}
use Rattle.std.specs.Option.{option_map_or, option_map}
use Rattle.std.proofs.lemmas.Bool.{both_ways, cases_Bool, and_parts, and_from, or_cases, ltb-true, leb-true, eq-eqb}
use Rattle.std.proofs.lemmas.List.Folds.{sum_by-zero}
use Rattle.ss_base.specs.declared.ids.ManifestId.{ManifestId}
use Rattle.ss_base.specs.declared.ids.Standing.{Standing}
use Rattle.ss_base.specs.Ids.{same_manifest}
use Rattle.ss_base.specs.Champions.{stands_in, hooks_covered, is_at_least, candidates, is_unbeaten, best, uncovered, champions}
use Rattle.ss_base.proofs.IdLaws.{same_manifest-self, same_manifest-true}
use Rattle.ss_base.proofs.MemberLaws.{In, any_in, in_any, all_in, flat_map_in, count_none, in_append_left, in_append_right}
use Rattle.champion_choice.specs.declared.score.Score.{Score}
use Rattle.champion_choice.specs.Scores.{Kept, score_at, hooks_in, hooks_at, stamp_at, id_at, AreApart, is_ahead, IsBestOf}
use Rattle.champion_choice.specs.Lists.{StampsTell, remaining}
use Rattle.champion_choice.proofs.ListLaws.{remaining_in}
use Rattle.champion_choice.proofs.PlaceLaws.{score_of, place_found}

-- ---- lists

all_from : {X : Type 0} (p : X → Bool) (xs : List X) → ((x : X) → In x xs → p x ≡ true) → list_all p xs ≡ true
all_from p [] each = refl
all_from p (x ∷ xs) each = and_from (p x) (list_all p xs) (each x (inl refl)) (all_from p xs (λ y h. each y (inr h)))

nothing : {X : Type 0} (xs : List X) → ((x : X) → In x xs → ⊥) → xs ≡ []
nothing [] none = refl
nothing (x ∷ xs) none = absurd (none x (inl refl))

In-contains : {X : Type 0} (x : X) (xs : List X) → In x xs → Contains xs x
In-contains x [] h = absurd h
In-contains x (y ∷ ys) (inl same) = (0, omega arith, same)
In-contains x (y ∷ ys) (inr later) = let at = In-contains x ys later in (suc at.0, (let below = at.1 in omega (arith, below)), at.2)

find_first : {X : Type 0} (p : X → Bool) (x : X) (xs : List X) → In x xs → p x ≡ true → ((y : X) → In y xs → p y ≡ true → y ≡ x) → find p xs ≡ Some x
find_first p x [] h passes only = absurd h
find_first p x (y ∷ ys) h passes only = elim (cases_Bool (p y)) [
  | inl here ↦ rw here (ap Some (only y (inl refl) here))
  | inr fails ↦ rw fails (elim h [
    | inl same ↦ absurd (both_ways (p y) fails (subst (λ z. p z ≡ true) (sym same) passes))
    | inr later ↦ find_first p x ys later passes (λ z h. only z (inr h))
  ])
]

-- ---- what stands at some hook

in_candidates : (x : Standing) (stood : List Standing) (lists : List (List Standing)) → In stood lists → In x stood → In x (candidates lists)
unfolding candidates
in_candidates x stood [] listed there = absurd listed
in_candidates x stood (l ∷ ls) (inl same) there = in_append_left x l (candidates ls) (subst (λ (k : List Standing). In x k) (sym same) there)
in_candidates x stood (l ∷ ls) (inr later) there = in_append_right x l (candidates ls) (in_candidates x stood ls later there)

candidate_of : (x : Standing) (lists : List (List Standing)) → In x (candidates lists) → (stood : List Standing) × In stood lists × In x stood
unfolding candidates
candidate_of x lists h = flat_map_in (λ stood. stood) x lists h

counted : (x : Standing) (lists : List (List Standing)) → In x (candidates lists) → 0 < hooks_covered lists x.id
unfolding hooks_covered stands_in
counted x lists h =
    let at = candidate_of x lists h in
    let stands : stands_in x.id at.0 ≡ true = in_any (λ (s : Standing). same_manifest x.id s.id) x at.0 at.2 (same_manifest-self x.id) in
    elim (cases_Bool (eqb (hooks_covered lists x.id) 0)) [
      | inl none ↦
          let each = all_in (λ (stood : List Standing). eqb (cond (stands_in x.id stood) 1 0) 0) at.0 lists at.1 (sym (sum_by-zero (λ (stood : List Standing). cond (stands_in x.id stood) 1 0) lists) ∙ none) in
          let one : eqb 1 0 ≡ true = subst (λ b. eqb (cond b 1 0) 0 ≡ true) stands each in
          absurd (both_ways false refl one)
      | inr some ↦ above (hooks_covered lists x.id) some
    ]
  where
    above : (n : ℕ) → eqb n 0 ≡ false → 0 < n
    above zero e = absurd (both_ways true e refl)
    above (suc n) e = omega arith

stands_somewhere : (q : ManifestId) (lists : List (List Standing)) → 0 < hooks_covered lists q → (x : Standing) × In x (candidates lists) × (q ≡ x.id)
unfolding hooks_covered stands_in
stands_somewhere q lists some = elim (cases_Bool (list_any (stands_in q) lists)) [
  | inl stands ↦
      let at = any_in (stands_in q) lists stands in
      let one = any_in (λ (s : Standing). same_manifest q s.id) at.0 at.2 in
      (one.0, in_candidates one.0 at.0 lists at.1 one.1, same_manifest-true q (one.0).id one.2)
  | inr none ↦ let zero_is = count_none (stands_in q) lists none in absurd (omega (arith, zero_is, some))
]

pub remaining_candidates : (flags : List Bool) (lists : List (List Standing)) (x : Standing) → In x (candidates (remaining flags lists)) → In x (candidates lists)
remaining_candidates flags lists x h =
    let at = candidate_of x (remaining flags lists) h in
    in_candidates x at.0 lists (remaining_in flags lists at.0 at.1) at.2

-- ---- scores

-- a manifest that has hooks has a score
scored : (o : Option Score) → 0 < hooks_in o → (s : Score) × (o ≡ Some s)
scored None some = absurd (omega arith)
scored (Some s) some = (s, refl)

-- ---- one round

-- two that stand, of which the ids are equal exactly where the stamps are
same_stamp : (all : List (List Standing)) → StampsTell all → (x y : Standing) → In x (candidates all) → In y (candidates all) → x.id ≡ y.id → x.stamp ≡ y.stamp
same_stamp all tell x y hx hy same =
    eqb-true x.stamp y.stamp (sym (tell x y (In-contains x (candidates all) hx) (In-contains y (candidates all) hy)) ∙ subst (λ (q : ManifestId). same_manifest x.id q ≡ true) same (same_manifest-self x.id))

same_id : (all : List (List Standing)) → StampsTell all → (x y : Standing) → In x (candidates all) → In y (candidates all) → x.stamp ≡ y.stamp → x.id ≡ y.id
same_id all tell x y hx hy same =
    same_manifest-true x.id y.id (tell x y (In-contains x (candidates all) hx) (In-contains y (candidates all) hy) ∙ eq-eqb x.stamp y.stamp same)

-- the scores are those of the lists that are left, and each manifest has its stamp
pub record IsRound (m : Kept) (all rest : List (List Standing)) : Type 0 where
  pub tell : StampsTell all
  pub hooks : (q : ManifestId) → hooks_at m q ≡ hooks_covered rest q
  pub stamps : (q : ManifestId) (t : ℕ) → stamp_at m q ≡ Some t → In (record { id = q; stamp = t }) (candidates all)
  pub within : (x : Standing) → In x (candidates rest) → In x (candidates all)

module _ (m : Kept) (all rest : List (List Standing)) (round : IsRound m all rest) where
  has_score : (x : Standing) → In x (candidates rest) → (s : Score) × (score_at m x.id ≡ Some s)
  has_score x h = scored (score_at m x.id) (let some = counted x rest h in let same = round.hooks x.id in omega (arith, some, same))

  pub none_left : IsBestOf m None → best rest ≡ None
  unfolding best
  none_left so = ap (λ xs. find (λ a. is_unbeaten rest (candidates rest) a) xs) (nothing (candidates rest) (λ x h.
      let s = has_score x h in
      let at = place_found m x.id s.0 s.1 in
      let zero_is : (s.0).hooks ≡ 0 = so at.0 s.0 at.1 in
      let same : (s.0).hooks ≡ hooks_covered rest x.id = sym (ap hooks_in s.1) ∙ round.hooks x.id in
      let some = counted x rest h in
      absurd (omega (arith, zero_is, same, some))))

  module _ (apart : AreApart (id_at m)) (place : ℕ) (s : Score) (so : IsBestOf m (Some (place, s))) where
    first : Standing
    first = record { id = s.id; stamp = s.stamp }

    found : score_at m s.id ≡ Some s
    found = score_of m place s apart so.0

    first_hooks : hooks_covered rest s.id ≡ s.hooks
    first_hooks = sym (round.hooks s.id) ∙ ap hooks_in found

    first_there : In first (candidates rest)
    unfolding first
    first_there =
        let some : 0 < hooks_covered rest s.id = let low = so.1 in let e = first_hooks in omega (arith, low, e) in
        let at = stands_somewhere s.id rest some in
        let stamp : (at.0).stamp ≡ s.stamp = same_stamp all round.tell at.0 first (round.within at.0 at.1) (round.stamps s.id s.stamp (ap (option_map (λ (x : Score). x.stamp)) found)) (sym at.2) in
        let whole : at.0 ≡ first = λ j. record { id = sym at.2 j; stamp = stamp j } in
        subst (λ (x : Standing). In x (candidates rest)) whole at.1

    first_beats : (x : Standing) → In x (candidates rest) → is_at_least rest first x ≡ true
    unfolding is_at_least first
    first_beats x h =
        let t = has_score x h in
        let at = place_found m x.id t.0 t.1 in
        let ahead : is_ahead s t.0 ≡ true = so.2 at.0 t.0 at.1 in
        let theirs : hooks_covered rest x.id ≡ (t.0).hooks = sym (round.hooks x.id) ∙ ap hooks_in t.1 in
        let y : Standing = record { id = x.id; stamp = (t.0).stamp } in
        let stamp : x.stamp ≡ (t.0).stamp = same_stamp all round.tell x y (round.within x h) (round.stamps x.id (t.0).stamp (ap (option_map (λ (z : Score). z.stamp)) t.1)) refl in
        let form : is_at_least rest first x ≡ is_ahead s t.0 = λ j. ltb (theirs j) (first_hooks j) || (eqb (first_hooks j) (theirs j) && leb (stamp j) s.stamp) in
        form ∙ ahead

    first_alone : (x : Standing) → In x (candidates rest) → is_unbeaten rest (candidates rest) x ≡ true → x ≡ first
    unfolding is_unbeaten is_at_least
    first_alone x h unbeaten =
        let there = all_in (λ b. is_at_least rest x b) first (candidates rest) first_there unbeaten in
        let back = first_beats x h in
        let stamp : x.stamp ≡ first.stamp = tied (hooks_covered rest x.id) (hooks_covered rest first.id) x.stamp first.stamp there back in
        let id : x.id ≡ first.id = same_id all round.tell x first (round.within x h) (round.within first first_there) stamp in
        λ j. record { id = id j; stamp = stamp j }
      where
        tied : (a b k l : ℕ) → (ltb b a || (eqb a b && leb l k)) ≡ true → (ltb a b || (eqb b a && leb k l)) ≡ true → k ≡ l
        tied a b k l there back = elim (or_cases (ltb b a) (eqb a b && leb l k) there) [
          | inl more ↦ elim (or_cases (ltb a b) (eqb b a && leb k l) back) [
            | inl less ↦ let p = ltb-true b a more in let q = ltb-true a b less in absurd (omega (arith, p, q))
            | inr tie ↦ let p = ltb-true b a more in let q = eqb-true b a (and_parts (eqb b a) (leb k l) tie).0 in absurd (omega (arith, p, q))
          ]
          | inr tie ↦ elim (or_cases (ltb a b) (eqb b a && leb k l) back) [
            | inl less ↦ let p = eqb-true a b (and_parts (eqb a b) (leb l k) tie).0 in let q = ltb-true a b less in absurd (omega (arith, p, q))
            | inr also ↦ let p = leb-true l k (and_parts (eqb a b) (leb l k) tie).1 in let q = leb-true k l (and_parts (eqb b a) (leb k l) also).1 in omega (arith, p, q)
          ]
        ]

    pub best_left : best rest ≡ Some (record { id = s.id; stamp = s.stamp })
    unfolding best is_unbeaten first
    best_left =
        find_first (λ a. is_unbeaten rest (candidates rest) a) first (candidates rest) first_there
        (all_from (λ b. is_at_least rest first b) (candidates rest) first_beats) first_alone

-- ---- the rounds

pub champions_over : (lists : List (List Standing)) → champions 0 lists ≡ []
unfolding champions
champions_over lists = refl

pub champions_more : (n : ℕ) (lists : List (List Standing)) (s : Standing) → best lists ≡ Some s → champions (suc n) lists ≡ s.id ∷ champions n (uncovered s.id lists)
unfolding champions
champions_more n lists s e =
    ap (λ (o : Option Standing). option_map_or (λ (t : Standing). t.id ∷ champions n (uncovered t.id lists)) o []) e

pub champions_none : (n : ℕ) (lists : List (List Standing)) → best lists ≡ None → champions n lists ≡ []
unfolding champions
champions_none zero lists e = refl
champions_none (suc n) lists e =
    ap (λ (o : Option Standing). option_map_or (λ (t : Standing). t.id ∷ champions n (uncovered t.id lists)) o []) e
