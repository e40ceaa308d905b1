-- Scores that are kept, by id.
use Rattle.std.proofs.Common.{◌≡◌, ℕ, zero, suc, ◌+◌, ◌-◌, ◌<◌, Bool, true, false, ◌||◌, List, [], ◌∷◌, length, take, get_or, set, slice_get, Option, Some, refl, sym, ap, ◌∙◌, subst, inl, inr, arith}
use Rattle.std.specs.Option.{option_map}
use Rattle.std.specs.List.{AllByRecursion}
use Rattle.std.proofs.lemmas.Bool.{both_ways, cases_Bool}
use Rattle.std.proofs.lemmas.Map.Keys.{IsDistinct-head, IsDistinct-tail}
use Rattle.std.proofs.lemmas.List.{take_more}
use Rattle.std.proofs.lemmas.List.Folds.{list_any_more}
use Rattle.ss_base.specs.declared.ids.ManifestId.{ManifestId}
use Rattle.ss_base.specs.declared.ids.Standing.{Standing}
use Rattle.ss_base.specs.Ids.{same_manifest}
use Rattle.ss_base.specs.Champions.{stands_in}
use Rattle.ss_base.proofs.IdLaws.{same_manifest-self, same_manifest-true}
use Rattle.champion_choice.specs.declared.score.Score.{Score}
use Rattle.champion_choice.specs.Scores.{Kept, score_at, hooks_in, hooks_at, stamp_at, id_at, one_if, AreApart, PlaceMap, ArePlaces, HasPlace, HasAdded, HasLowered, StandsOnce}
use Rattle.champion_choice.proofs.PlaceLaws.{apart_back, apart_same, score_of, set_other, set_ids, set_here, get_here, id_here, id_below, places_apart, places_same}
use Rattle.ss_base.proofs.MemberLaws.{In, in_append_left, in_append_right}
use Rattle.champion_choice.specs.Lists.{HasAddedList}

-- ---- ids

-- what holds of one id and of each other holds of all
pub by_id : (P : ManifestId → Type 0) (k : ManifestId) → P k → ((q : ManifestId) → same_manifest q k ≡ false → P q) → (q : ManifestId) → P q
by_id P k here other q = elim (cases_Bool (same_manifest q k)) [
  | inl same ↦ subst P (sym (same_manifest-true q k same)) here
  | inr apart ↦ other q apart
]

-- ---- one score is set

-- n has w at k, and is m elsewhere
pub record OneSet (m n : Kept) (k : ManifestId) (w : Score) : Type 0 where
  pub here : score_at n k ≡ Some w
  pub other : (q : ManifestId) → same_manifest q k ≡ false → score_at n q ≡ score_at m q

one_set : (m : Kept) (p : ℕ) (s w : Score) → AreApart (id_at m) → slice_get m p ≡ Some s → w.id ≡ s.id → OneSet m (set m p w) s.id w
one_set m p s w apart is same = record {
  here = subst (λ (q : ManifestId). score_at (set m p w) q ≡ Some w) same
      (score_of (set m p w) p w (apart_same (id_at m) (id_at (set m p w)) (λ r. set_ids m p s w r is same) apart) (set_here m p s w is));
  other = λ q other. set_other m p s w q is other (subst (λ (k : ManifestId). same_manifest q k ≡ false) (sym same) other);
}

no_more : (a b : ℕ) → a ≡ b → a ≡ b + 0
no_more a b e = omega arith

no_less : (a b : ℕ) → a ≡ b → a ≡ b - 0
no_less a b e = omega arith

-- the manifest stands at one hook more, or at one less
pub record OneMore (m n : Kept) (k : ManifestId) : Type 0 where
  pub ids : (p : ℕ) → id_at n p ≡ id_at m p
  pub hooks : (q : ManifestId) → hooks_at n q ≡ hooks_at m q + one_if (same_manifest q k)
  pub stamps : (q : ManifestId) → stamp_at n q ≡ stamp_at m q

pub record OneLess (m n : Kept) (k : ManifestId) : Type 0 where
  pub ids : (p : ℕ) → id_at n p ≡ id_at m p
  pub hooks : (q : ManifestId) → hooks_at n q ≡ hooks_at m q - one_if (same_manifest q k)
  pub stamps : (q : ManifestId) → stamp_at n q ≡ stamp_at m q

module _ (m : Kept) (p : ℕ) (s w : Score) (apart : AreApart (id_at m)) (is : slice_get m p ≡ Some s) (id : w.id ≡ s.id) (stamp : w.stamp ≡ s.stamp) where
  n : Kept
  n = set m p w

  was : score_at m s.id ≡ Some s
  was = score_of m p s apart is

  stamps_stay : (q : ManifestId) → stamp_at (set m p w) q ≡ stamp_at m q
  stamps_stay =
      let to = one_set m p s w apart is id in
      by_id (λ q. stamp_at (set m p w) q ≡ stamp_at m q) s.id
      (ap (option_map (λ (x : Score). x.stamp)) to.here ∙ ap Some stamp ∙ sym (ap (option_map (λ (x : Score). x.stamp)) was))
      (λ q other. ap (option_map (λ (x : Score). x.stamp)) (to.other q other))

  pub one_more : w.hooks ≡ s.hooks + 1 → OneMore m (set m p w) s.id
  one_more hooks =
      let to = one_set m p s w apart is id in
      record {
        ids = λ r. set_ids m p s w r is id;
        hooks = by_id (λ q. hooks_at (set m p w) q ≡ hooks_at m q + one_if (same_manifest q s.id)) s.id
            (ap hooks_in to.here ∙ hooks ∙ ap (λ o. hooks_in o + 1) (sym was) ∙ ap (λ b. hooks_at m s.id + one_if b) (sym (same_manifest-self s.id)))
            (λ q other. no_more (hooks_at (set m p w) q) (hooks_at m q) (ap hooks_in (to.other q other)) ∙ ap (λ b. hooks_at m q + one_if b) (sym other));
        stamps = stamps_stay;
      }

  pub one_less : w.hooks ≡ s.hooks - 1 → OneLess m (set m p w) s.id
  one_less hooks =
      let to = one_set m p s w apart is id in
      record {
        ids = λ r. set_ids m p s w r is id;
        hooks = by_id (λ q. hooks_at (set m p w) q ≡ hooks_at m q - one_if (same_manifest q s.id)) s.id
            (ap hooks_in to.here ∙ hooks ∙ ap (λ o. hooks_in o - 1) (sym was) ∙ ap (λ b. hooks_at m s.id - one_if b) (sym (same_manifest-self s.id)))
            (λ q other. no_less (hooks_at (set m p w) q) (hooks_at m q) (ap hooks_in (to.other q other)) ∙ ap (λ b. hooks_at m q - one_if b) (sym other));
        stamps = stamps_stay;
      }

-- the one at a place of a manifest
pub one_less_at : (m : Kept) (p : ℕ) (d w : Score) (k : ManifestId) → AreApart (id_at m) → id_at m p ≡ Some k → w.id ≡ (get_or m p d).id → w.stamp ≡ (get_or m p d).stamp → w.hooks ≡ (get_or m p d).hooks - 1 → OneLess m (set m p w) k
one_less_at m p d w k apart at id stamp hooks =
    subst (λ (q : ManifestId). OneLess m (set m p w) q) (id_here m p d k at)
    (one_less m p (get_or m p d) w apart (get_here m p d (id_below m p k at)) id stamp hooks)

-- what stands there, once it has a place and one hook more
pub counted_at : (old mid : Kept) (places : Option PlaceMap) (p : ℕ) (d w : Score) (s : Standing) → ArePlaces places mid → HasPlace old mid s p
    → w.id ≡ (get_or mid p d).id → w.stamp ≡ (get_or mid p d).stamp → w.hooks ≡ (get_or mid p d).hooks + 1 → HasAdded old (set mid p w) s p × ArePlaces places (set mid p w)
counted_at old mid places p d w s are has id stamp hooks =
    let to : OneMore mid (set mid p w) s.id =
    subst (λ (q : ManifestId). OneMore mid (set mid p w) q) (id_here mid p d s.id has.here)
    (one_more mid p (get_or mid p d) w (places_apart places mid are) (get_here mid p d (id_below mid p s.id has.here)) id stamp hooks) in (
      record {
        here = to.ids p ∙ has.here;
        kept = λ k r at. to.ids r ∙ has.kept k r at;
        hooks = λ q. to.hooks q ∙ ap (λ n. n + one_if (same_manifest q s.id)) (has.hooks q);
        stamps = λ q t at. has.stamps q t (sym (to.stamps q) ∙ at);
      },
      places_same places mid (set mid p w) to.ids are,
    )

-- ---- a list that stands at a hook

each_apart : (x : Standing) (xs : List Standing) (i : ℕ) (d : Standing) → AllByRecursion (λ (y : Standing). same_manifest x.id y.id ≡ false) xs → i < length xs → same_manifest x.id (get_or xs i d).id ≡ false
each_apart x [] i d all below = absurd (omega arith)
each_apart x (y ∷ ys) zero d all below = all.0
each_apart x (y ∷ ys) (suc i) d all below = each_apart x ys i d all.1 (omega arith)

-- of a list in which a manifest stands once, one is not among those before it
pub fresh : (stood : List Standing) (i : ℕ) (d : Standing) → StandsOnce stood → i < length stood → stands_in (get_or stood i d).id (take i stood) ≡ false
unfolding stands_in
fresh [] i d once below = absurd (omega arith)
fresh (x ∷ xs) zero d once below = refl
fresh (x ∷ xs) (suc i) d once below =
    let y : Standing = get_or xs i d in
    let apart : same_manifest y.id x.id ≡ false = apart_back x.id y.id (each_apart x xs i d (IsDistinct-head _ _ _ once) (omega arith)) in
    ap (λ b. b || stands_in y.id (take i xs)) apart ∙ fresh xs i d (IsDistinct-tail _ _ _ once) (omega arith)

-- one more in front of the list
pub stands_more : (q : ManifestId) (stood : List Standing) (i : ℕ) (d : Standing) → i < length stood → stands_in q (take (i + 1) stood) ≡ (stands_in q (take i stood) || same_manifest q (get_or stood i d).id)
unfolding stands_in
stands_more q stood i d below = list_any_more (λ (s : Standing). same_manifest q s.id) stood i d below

pub none_stands : (q : ManifestId) → stands_in q [] ≡ false
unfolding stands_in
none_stands q = refl

or_false : (b : Bool) → (b || false) ≡ b
or_false true = refl
or_false false = refl

-- of two tests that do not both hold
either_less : (n : ℕ) (a b : Bool) → (b ≡ true → a ≡ false) → (n - one_if a) - one_if b ≡ n - one_if (a || b)
either_less n true true apart = absurd (both_ways true (apart refl) refl)
either_less n true false apart = omega arith
either_less n false true apart = omega arith
either_less n false false apart = omega arith

either_more : (n : ℕ) (a b : Bool) → (b ≡ true → a ≡ false) → (n + one_if a) + one_if b ≡ n + one_if (a || b)
either_more n true true apart = absurd (both_ways true (apart refl) refl)
either_more n true false apart = omega arith
either_more n false true apart = omega arith
either_more n false false apart = omega arith

module _ (stood : List Standing) (i : ℕ) (d : Standing) (once : StandsOnce stood) (below : i < length stood) where
  apart_here : (q : ManifestId) → same_manifest q (get_or stood i d).id ≡ true → stands_in q (take i stood) ≡ false
  apart_here q same =
      subst (λ (x : ManifestId). stands_in x (take i stood) ≡ false) (sym (same_manifest-true q (get_or stood i d).id same)) (fresh stood i d once below)

  pub lowered_more : (old mid new : Kept) → HasLowered old mid (take i stood) → OneLess mid new (get_or stood i d).id → HasLowered old new (take (i + 1) stood)
  lowered_more old mid new so to = record {
    ids = λ p. to.ids p ∙ so.ids p;
    hooks = λ q.
        to.hooks q ∙ ap (λ n. n - one_if (same_manifest q (get_or stood i d).id)) (so.hooks q)
        ∙ either_less (hooks_at old q) (stands_in q (take i stood)) (same_manifest q (get_or stood i d).id) (apart_here q)
        ∙ ap (λ b. hooks_at old q - one_if b) (sym (stands_more q stood i d below));
    stamps = λ q. to.stamps q ∙ so.stamps q;
  }

  pub count_more : (n : ℕ) (q : ManifestId) → (n + one_if (stands_in q (take i stood))) + one_if (same_manifest q (get_or stood i d).id) ≡ n + one_if (stands_in q (take (i + 1) stood))
  count_more n q =
      either_more n (stands_in q (take i stood)) (same_manifest q (get_or stood i d).id) (apart_here q)
      ∙ ap (λ b. n + one_if b) (sym (stands_more q stood i d below))

module _ (stood : List Standing) (i : ℕ) (d : Standing) (once : StandsOnce stood) (below : i < length stood) where
  here_last : (x : Standing) → x ≡ get_or stood i d → In x (take (i + 1) stood)
  here_last x same = subst (λ (l : List Standing). In x l) (sym (take_more stood i d below)) (in_append_right x (take i stood) (get_or stood i d ∷ []) (inl (sym same)))

  still_there : (x : Standing) → In x (take i stood) → In x (take (i + 1) stood)
  still_there x there = subst (λ (l : List Standing). In x l) (sym (take_more stood i d below)) (in_append_left x (take i stood) (get_or stood i d ∷ []) there)

  pub added_more : (old mid new : Kept) (p : ℕ) → HasAddedList old mid (take i stood) → HasAdded mid new (get_or stood i d) p → HasAddedList old new (take (i + 1) stood)
  added_more old mid new p so to = record {
    hooks = λ q. to.hooks q ∙ ap (λ n. n + one_if (same_manifest q (get_or stood i d).id)) (so.hooks q) ∙ count_more stood i d once below (hooks_at old q) q;
    stamps = λ q t is.
        let x : Standing = record { id = q; stamp = t } in
        elim (to.stamps q t is) [
          | inl was ↦ elim (so.stamps q t was) [ inl older ↦ inl older | inr there ↦ inr (still_there x there) ]
          | inr last ↦ inr (here_last x last)
        ];
  }

  -- the next one has not been counted
  pub uncounted : (old mid : Kept) → HasAddedList old mid (take i stood) → hooks_at mid (get_or stood i d).id ≡ hooks_at old (get_or stood i d).id
  uncounted old mid so =
      so.hooks (get_or stood i d).id ∙ ap (λ b. hooks_at old (get_or stood i d).id + one_if b) (fresh stood i d once below)
      ∙ sym (no_more (hooks_at old (get_or stood i d).id) (hooks_at old (get_or stood i d).id) refl)

pub added_none : (m : Kept) → HasAddedList m m []
added_none m = record {
  hooks = λ q. no_more (hooks_at m q) (hooks_at m q) refl ∙ ap (λ b. hooks_at m q + one_if b) (sym (none_stands q));
  stamps = λ q t is. inl is;
}

pub lowered_none : (m : Kept) → HasLowered m m []
lowered_none m = record {
  ids = λ p. refl;
  hooks = λ q. no_less (hooks_at m q) (hooks_at m q) refl ∙ ap (λ b. hooks_at m q - one_if b) (sym (none_stands q));
  stamps = λ q. refl;
}
