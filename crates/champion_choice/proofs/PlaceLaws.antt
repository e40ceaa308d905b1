-- Scores by their places, and places by ids.
use Rattle.std.proofs.Common.{◌≡◌, ◌⊎◌, ℕ, zero, suc, ◌+◌, ◌<◌, ◌≤◌, Bool, true, false, eqb, eqb-true, cond, ◌||◌, List, [], ◌∷◌, ◌++◌, length, take, drop, get_or, set, slice_get, Option, Some, None, IfSome, IfNone, refl, sym, ap, ◌∙◌, subst, inl, inr, arith}
use Rattle.std.specs.Option.{option_map}
use Rattle.std.specs.HashMap as hash
use Rattle.std.proofs.lemmas.Bool.{both_ways, false_from_ne_true, cases_Bool, eq-eqb}
use Rattle.std.specs.List.{list_any}
use Rattle.std.proofs.lemmas.List.{take_more, take_all, append-nil, append_assoc}
use Rattle.ss_base.specs.declared.ids.ManifestId.{ManifestId}
use Rattle.ss_base.specs.declared.ids.Standing.{Standing}
use Rattle.ss_base.specs.contracts.ids.ManifestIdPartialEq.TheImpl as id_eq
use Rattle.ss_base.specs.Ids.{same_manifest}
use Rattle.ss_base.specs.Champions.{stands_in, candidates}
use Rattle.ss_base.proofs.IdLaws.{same_manifest-self, same_manifest-true}
use Rattle.champion_choice.specs.declared.score.Score.{Score}
use Rattle.champion_choice.specs.Scores.{Kept, score_at, hooks_in, hooks_at, stamp_at, id_at, AreApart, AreCells, HasNoPlace, PlaceMap, AreMapped, ArePlaces, HasPlace, HasAdded}
use Rattle.champion_choice.specs.Lists.{HasCells, ArePlaced}

-- the test that the derive gives
abbrev pub derived : ManifestId → ManifestId → Bool
derived = (id_eq.ghosts).eq

pub apart_back : (a b : ManifestId) → same_manifest a b ≡ false → same_manifest b a ≡ false
apart_back a b apart = false_from_ne_true (same_manifest b a) (λ same.
    both_ways (same_manifest a b) apart (subst (λ (x : ManifestId). same_manifest x b ≡ true) (same_manifest-true b a same) (same_manifest-self b)))

-- ---- places

pub get_here : {X : Type 0} (xs : List X) (p : ℕ) (d : X) → p < length xs → slice_get xs p ≡ Some (get_or xs p d)
get_here [] p d below = absurd (omega arith)
get_here (x ∷ xs) zero d below = refl
get_here (x ∷ xs) (suc p) d below = get_here xs p d (omega arith)

pub get_below : {X : Type 0} (xs : List X) (p : ℕ) (x : X) → slice_get xs p ≡ Some x → p < length xs
get_below [] p x is = absurd (cc)
get_below (y ∷ ys) zero x is = omega arith
get_below (y ∷ ys) (suc p) x is = let low = get_below ys p x is in omega (arith, low)

some_id : (a b : ManifestId) → Some a ≡ Some b → a ≡ b
some_id a b e = cc

some_score : (a b : Score) → Some a ≡ Some b → a ≡ b
some_score a b e = cc

some_place : (a b : ℕ) → Some a ≡ Some b → a ≡ b
some_place a b e = cc

no_place : (p : ℕ) → None ≡ Some p → ⊥
no_place p e = cc

pub id_below : (m : Kept) (p : ℕ) (k : ManifestId) → id_at m p ≡ Some k → p < length m
id_below [] p k is = absurd (cc)
id_below (x ∷ xs) zero k is = omega arith
id_below (x ∷ xs) (suc p) k is = let low = id_below xs p k is in omega (arith, low)

pub id_here : (m : Kept) (p : ℕ) (d : Score) (k : ManifestId) → id_at m p ≡ Some k → (get_or m p d).id ≡ k
id_here m p d k is = some_id (get_or m p d).id k (sym (ap (option_map (λ (s : Score). s.id)) (get_here m p d (id_below m p k is))) ∙ is)

apart_tail : (x : Score) (xs : Kept) → AreApart (id_at (x ∷ xs)) → AreApart (id_at xs)
apart_tail x xs apart p r id a b = let same = apart (suc p) (suc r) id a b in omega (arith, same)

pub apart_same : (f g : ℕ → Option ManifestId) → ((p : ℕ) → g p ≡ f p) → AreApart f → AreApart g
apart_same f g same apart p r id a b = apart p r id (sym (same p) ∙ a) (sym (same r) ∙ b)

pub places_apart : (places : Option PlaceMap) (m : Kept) → ArePlaces places m → AreApart (id_at m)
places_apart None m are = are
places_apart (Some map) m are = λ p r id a b. some_place p r (sym (are.there id p a) ∙ are.there id r b)

-- the scores change, and the ids stay
pub places_same : (places : Option PlaceMap) (m n : Kept) → ((p : ℕ) → id_at n p ≡ id_at m p) → ArePlaces places m → ArePlaces places n
places_same None m n same are = apart_same (id_at m) (id_at n) same are
places_same (Some map) m n same are = record {
  there = λ k p at. are.there k p (sym (same p) ∙ at);
  back = λ k p at. same p ∙ are.back k p at;
}

-- a place tells the score of its manifest
pub score_of : (m : Kept) (p : ℕ) (s : Score) → AreApart (id_at m) → slice_get m p ≡ Some s → score_at m s.id ≡ Some s
score_of [] p s apart is = absurd (cc)
score_of (x ∷ xs) zero s apart is =
    let same : same_manifest s.id x.id ≡ true = ap (λ (t : Score). same_manifest s.id t.id) (some_score x s is) ∙ same_manifest-self s.id in
    ap (λ b. cond b (Some x) (score_at xs s.id)) same ∙ is
score_of (x ∷ xs) (suc p) s apart is = elim (cases_Bool (same_manifest s.id x.id)) [
  | inl same ↦
      let one = apart zero (suc p) s.id (ap Some (sym (same_manifest-true s.id x.id same))) (ap (option_map (λ (t : Score). t.id)) is) in
      absurd (omega (arith, one))
  | inr other ↦ ap (λ b. cond b (Some x) (score_at xs s.id)) other ∙ score_of xs p s (apart_tail x xs apart) is
]

-- a manifest's score has a place
pub place_found : (m : Kept) (q : ManifestId) (s : Score) → score_at m q ≡ Some s → (p : ℕ) × (slice_get m p ≡ Some s) × (q ≡ s.id)
place_found [] q s is = absurd (cc)
place_found (x ∷ xs) q s is = elim (cases_Bool (same_manifest q x.id)) [
  | inl same ↦
      let score : x ≡ s = some_score x s (sym (ap (λ b. cond b (Some x) (score_at xs q)) same) ∙ is) in
      (zero, ap Some score, same_manifest-true q x.id same ∙ ap (λ (t : Score). t.id) score)
  | inr other ↦
      let at = place_found xs q s (sym (ap (λ b. cond b (Some x) (score_at xs q)) other) ∙ is) in
      (suc at.0, at.1, at.2)
]

-- ---- one score is set

pub set_here : (m : Kept) (p : ℕ) (s w : Score) → slice_get m p ≡ Some s → slice_get (set m p w) p ≡ Some w
set_here [] p s w is = absurd (cc)
set_here (x ∷ xs) zero s w is = refl
set_here (x ∷ xs) (suc p) s w is = set_here xs p s w is

pub set_ids : (m : Kept) (p : ℕ) (s w : Score) (r : ℕ) → slice_get m p ≡ Some s → w.id ≡ s.id → id_at (set m p w) r ≡ id_at m r
set_ids [] p s w r is same = absurd (cc)
set_ids (x ∷ xs) zero s w zero is same = ap Some (same ∙ ap (λ (t : Score). t.id) (sym (some_score x s is)))
set_ids (x ∷ xs) zero s w (suc r) is same = refl
set_ids (x ∷ xs) (suc p) s w zero is same = refl
set_ids (x ∷ xs) (suc p) s w (suc r) is same = set_ids xs p s w r is same

pub set_other : (m : Kept) (p : ℕ) (s w : Score) (q : ManifestId) → slice_get m p ≡ Some s → same_manifest q s.id ≡ false → same_manifest q w.id ≡ false → score_at (set m p w) q ≡ score_at m q
set_other [] p s w q is before after = absurd (cc)
set_other (x ∷ xs) zero s w q is before after =
    ap (λ b. cond b (Some w) (score_at xs q)) after
    ∙ sym (ap (λ b. cond b (Some x) (score_at xs q)) (ap (λ (t : Score). same_manifest q t.id) (some_score x s is) ∙ before))
set_other (x ∷ xs) (suc p) s w q is before after = ap (λ (o : Option Score). cond (same_manifest q x.id) (Some x) o) (set_other xs p s w q is before after)

-- ---- one score more

id_kept : (m : Kept) (w : Score) (k : ManifestId) (p : ℕ) → id_at m p ≡ Some k → id_at (m ++ w ∷ []) p ≡ Some k
id_kept [] w k p is = absurd (cc)
id_kept (x ∷ xs) w k zero is = is
id_kept (x ∷ xs) w k (suc p) is = id_kept xs w k p is

id_last : (m : Kept) (w : Score) → id_at (m ++ w ∷ []) (length m) ≡ Some w.id
id_last [] w = refl
id_last (x ∷ xs) w = id_last xs w

id_cases : (m : Kept) (w : Score) (p : ℕ) (k : ManifestId) → id_at (m ++ w ∷ []) p ≡ Some k → (id_at m p ≡ Some k) ⊎ ((p ≡ length m) × (w.id ≡ k))
id_cases [] w zero k is = inr (refl, some_id w.id k is)
id_cases [] w (suc p) k is = absurd (cc)
id_cases (x ∷ xs) w zero k is = inl is
id_cases (x ∷ xs) w (suc p) k is = elim (id_cases xs w p k is) [
  | inl old ↦ inl old
  | inr new ↦ inr ((let place = new.0 in omega (arith, place)), new.1)
]

hooks_end : (m : Kept) (w : Score) (q : ManifestId) → w.hooks ≡ 0 → hooks_at (m ++ w ∷ []) q ≡ hooks_at m q
hooks_end [] w q zero_is = elim (cases_Bool (same_manifest q w.id)) [
  | inl same ↦ ap (λ b. hooks_in (cond b (Some w) None)) same ∙ zero_is
  | inr other ↦ ap (λ b. hooks_in (cond b (Some w) None)) other
]
hooks_end (x ∷ xs) w q zero_is = by (same_manifest q x.id) (hooks_end xs w q zero_is)
  where
    by : (b : Bool) → hooks_at (xs ++ w ∷ []) q ≡ hooks_at xs q → hooks_in (cond b (Some x) (score_at (xs ++ w ∷ []) q)) ≡ hooks_in (cond b (Some x) (score_at xs q))
    by true same = refl
    by false same = same

stamp_end : (m : Kept) (w : Score) (q : ManifestId) (t : ℕ) → stamp_at (m ++ w ∷ []) q ≡ Some t → (stamp_at m q ≡ Some t) ⊎ ((w.id ≡ q) × (w.stamp ≡ t))
stamp_end [] w q t is = elim (cases_Bool (same_manifest q w.id)) [
  | inl same ↦
      inr (sym (same_manifest-true q w.id same), some_place w.stamp t (sym (ap (λ b. option_map (λ (s : Score). s.stamp) (cond b (Some w) None)) same) ∙ is))
  | inr other ↦ inl (sym (ap (λ b. option_map (λ (s : Score). s.stamp) (cond b (Some w) None)) other) ∙ is)
]
stamp_end (x ∷ xs) w q t is = by (same_manifest q x.id) (stamp_end xs w q t) is
  where
    by : (b : Bool) → (stamp_at (xs ++ w ∷ []) q ≡ Some t → (stamp_at xs q ≡ Some t) ⊎ ((w.id ≡ q) × (w.stamp ≡ t)))
        → option_map (λ (s : Score). s.stamp) (cond b (Some x) (score_at (xs ++ w ∷ []) q)) ≡ Some t
        → (option_map (λ (s : Score). s.stamp) (cond b (Some x) (score_at xs q)) ≡ Some t) ⊎ ((w.id ≡ q) × (w.stamp ≡ t))
    by true later is = inl is
    by false later is = later is

-- what has none yet
module _ (m : Kept) (s : Standing) (w : Score) (id : w.id ≡ s.id) where
  has_new : w.stamp ≡ s.stamp → w.hooks ≡ 0 → HasPlace m (m ++ w ∷ []) s (length m)
  has_new stamp zero_is = record {
    here = id_last m w ∙ ap Some id;
    kept = λ k p at. id_kept m w k p at;
    hooks = λ q. hooks_end m w q zero_is;
    stamps = λ q t at. elim (stamp_end m w q t at) [
      | inl was ↦ inl was
      | inr last ↦
          let k : q ≡ s.id = sym last.0 ∙ id in
          let u : t ≡ s.stamp = sym last.1 ∙ stamp in
          inr (λ j. record { id = k j; stamp = u j })
    ];
  }

  -- it is not an older one
  not_old : (k : ManifestId) (p : ℕ) → HasNoPlace m s.id → id_at m p ≡ Some k → w.id ≡ k → ⊥
  not_old k p none old last = none p (old ∙ ap Some (sym last ∙ id))

  apart_new : AreApart (id_at m) → HasNoPlace m s.id → AreApart (id_at (m ++ w ∷ []))
  apart_new apart none p r k a b = elim (id_cases m w p k a) [
    | inl first ↦ elim (id_cases m w r k b) [ inl second ↦ apart p r k first second | inr last ↦ absurd (not_old k p none first last.1) ]
    | inr last ↦ elim (id_cases m w r k b) [ inl second ↦ absurd (not_old k r none second last.1) | inr also ↦ last.0 ∙ sym also.0 ]
  ]

  mapped_new : (map more : PlaceMap) → AreMapped map m → HasNoPlace m s.id → hash.UpdatesBy derived (derived s.id) map more (Some (length m)) → AreMapped more (m ++ w ∷ [])
  mapped_new map more are none updates =
      let u : hash.UpdatesBy same_manifest (same_manifest s.id) map more (Some (length m)) = updates in
      record {
        there = λ k p at. elim (id_cases m w p k at) [
          | inl old ↦ elim (cases_Bool (same_manifest s.id k)) [
            | inl same ↦ absurd (none p (old ∙ ap Some (sym (same_manifest-true s.id k same))))
            | inr other ↦ u.2 k other ∙ are.there k p old
          ]
          | inr last ↦ ap (λ q. hash.get same_manifest more q) (sym last.1 ∙ id) ∙ u.1 ∙ ap Some (sym last.0)
        ];
        back = λ k p at. elim (cases_Bool (same_manifest s.id k)) [
          | inl same ↦
              let k_is : s.id ≡ k = same_manifest-true s.id k same in
              let p_is : length m ≡ p = some_place (length m) p (sym u.1 ∙ ap (λ q. hash.get same_manifest more q) k_is ∙ at) in
              subst (λ (r : ℕ). id_at (m ++ w ∷ []) r ≡ Some k) p_is (id_last m w ∙ ap Some (id ∙ k_is))
          | inr other ↦ id_kept m w k p (are.back k p (sym (u.2 k other) ∙ at))
        ];
      }

  -- as they were told
  pub searched_told : (new : Kept) → AreApart (id_at m) → HasNoPlace m s.id → new ≡ m ++ w ∷ [] → AreApart (id_at new)
  searched_told new apart none is = subst (λ (l : Kept). AreApart (id_at l)) (sym is) (apart_new apart none)

  pub mapped_told : (map more : PlaceMap) (p : ℕ) (new : Kept) → AreMapped map m → HasNoPlace m s.id → p ≡ length m → new ≡ m ++ w ∷ []
      → hash.UpdatesBy derived (derived s.id) map more (Some p) → AreMapped more new
  mapped_told map more p new are none place is updates =
      subst (λ (l : Kept). AreMapped more l) (sym is)
      (mapped_new map more are none (subst (λ (r : ℕ). hash.UpdatesBy derived (derived s.id) map more (Some r)) place updates))

  pub place_told : (p : ℕ) (new : Kept) → w.stamp ≡ s.stamp → w.hooks ≡ 0 → p ≡ length m → new ≡ m ++ w ∷ [] → HasPlace m new s p
  place_told p new stamp zero_is place is =
      subst (λ (l : Kept). HasPlace m l s p) (sym is) (subst (λ (r : ℕ). HasPlace m (m ++ w ∷ []) s r) (sym place) (has_new stamp zero_is))

-- what the map tells
pub found_is : (map : PlaceMap) (m : Kept) (id : ManifestId) (found : Option ℕ) → AreMapped map m → found ≡ hash.get same_manifest map id
    → IfSome found (λ place. id_at m place ≡ Some id) × IfNone found (HasNoPlace m id)
found_is map m id None are is = (tt, (λ p at. no_place p (is ∙ are.there id p at)))
found_is map m id (Some p) are is = (are.back id p (sym is), tt)

-- ---- the places of lists

pub cells_same : (f g : ℕ → Option ManifestId) (cells : List ℕ) (stood : List Standing) → ((p : ℕ) → g p ≡ f p) → AreCells f cells stood → AreCells g cells stood
cells_same f g cells stood same are = subst (λ (h : ℕ → Option ManifestId). AreCells h cells stood) (λ i p. sym (same p) i) are

cells_end : (f g : ℕ → Option ManifestId) (cells : List ℕ) (stood : List Standing) (p : ℕ) (s : Standing)
    → ((id : ManifestId) (r : ℕ) → f r ≡ Some id → g r ≡ Some id) → AreCells f cells stood → g p ≡ Some s.id → AreCells g (cells ++ p ∷ []) (stood ++ s ∷ [])
cells_end f g [] [] p s kept are is = (is, tt)
cells_end f g [] (x ∷ xs) p s kept are is = absurd are
cells_end f g (c ∷ cs) [] p s kept are is = absurd are
cells_end f g (c ∷ cs) (x ∷ xs) p s kept are is = (kept x.id c are.0, cells_end f g cs xs p s kept are.1 is)

pub cells_none : (m : Kept) (cells : List ℕ) → HasCells m cells m cells []
cells_none m cells before are = subst (λ (l : List Standing). AreCells (id_at m) cells l) (sym (append-nil before)) are

pub cells_more : (stood : List Standing) (i : ℕ) (d : Standing) (old mid new : Kept) (were cells : List ℕ) (p : ℕ) → i < length stood
    → HasCells old were mid cells (take i stood) → HasAdded mid new (get_or stood i d) p → HasCells old were new (cells ++ p ∷ []) (take (i + 1) stood)
cells_more stood i d old mid new were cells p below so to before are =
    subst (λ (l : List Standing). AreCells (id_at new) (cells ++ p ∷ []) l)
    (append_assoc before (take i stood) (get_or stood i d ∷ []) ∙ ap (λ l. before ++ l) (sym (take_more stood i d below)))
    (cells_end (id_at mid) (id_at new) cells (before ++ take i stood) p (get_or stood i d) to.kept (so before are) to.here)

pub cells_at : (f : ℕ → Option ManifestId) (cells : List ℕ) (stood : List Standing) (i : ℕ) (c : ℕ) (d : Standing) → AreCells f cells stood → i < length stood → (i < length cells) × (f (get_or cells i c) ≡ Some (get_or stood i d).id)
cells_at f [] [] i c d are below = absurd (omega arith)
cells_at f [] (x ∷ xs) i c d are below = absurd are
cells_at f (y ∷ ys) [] i c d are below = absurd are
cells_at f (y ∷ ys) (x ∷ xs) zero c d are below = (omega arith, are.0)
cells_at f (y ∷ ys) (x ∷ xs) (suc i) c d are below = let later = cells_at f ys xs i c d are.1 (omega arith) in ((let low = later.0 in omega (arith, low)), later.1)

-- a manifest stands where its place does
pub stands_by_place : (f : ℕ → Option ManifestId) (cells : List ℕ) (stood : List Standing) (p : ℕ) (id : ManifestId) → AreApart f → f p ≡ Some id → AreCells f cells stood
    → list_any (λ c. eqb c p) cells ≡ stands_in id stood
unfolding stands_in
stands_by_place f [] [] p id apart at are = refl
stands_by_place f [] (s ∷ ss) p id apart at are = absurd are
stands_by_place f (c ∷ cs) [] p id apart at are = absurd are
stands_by_place f (c ∷ cs) (s ∷ ss) p id apart at are =
    let first : eqb c p ≡ same_manifest id s.id = elim (cases_Bool (same_manifest id s.id)) [
      | inl same ↦ eq-eqb c p (apart c p id (are.0 ∙ ap Some (sym (same_manifest-true id s.id same))) at) ∙ sym same
      | inr other ↦ elim (cases_Bool (eqb c p)) [
        | inl here ↦
            let one : id ≡ s.id = some_id id s.id (sym at ∙ ap f (sym (eqb-true c p here)) ∙ are.0) in
            absurd (both_ways (same_manifest id s.id) other (subst (λ (k : ManifestId). same_manifest id k ≡ true) one (same_manifest-self id)))
        | inr elsewhere ↦ elsewhere ∙ sym other
      ]
    ] in
    let rest = stands_by_place f cs ss p id apart at are.1 in
    λ j. first j || rest j

-- the places of one list, and of those behind it
pub record AreSplit (f : ℕ → Option ManifestId) (cells : List ℕ) (xs ys : List Standing) : Type 0 where
  pub within : length xs ≤ length cells
  pub own : AreCells f (take (length xs) cells) xs
  pub behind : AreCells f (drop (length xs) cells) ys

pub cells_split : (f : ℕ → Option ManifestId) (cells : List ℕ) (xs ys : List Standing) → AreCells f cells (xs ++ ys) → AreSplit f cells xs ys
cells_split f cells [] ys are = record { within = omega arith; own = tt; behind = are }
cells_split f [] (x ∷ xs) ys are = absurd are
cells_split f (c ∷ cs) (x ∷ xs) ys are =
    let later = cells_split f cs xs ys are.1 in
    record { within = (let low = later.within in omega (arith, low)); own = (are.0, later.own); behind = later.behind }

-- as they were told
pub cells_own : (f g : ℕ → Option ManifestId) (rest own : List ℕ) (n : ℕ) (xs stood : List Standing) → ((p : ℕ) → g p ≡ f p) → own ≡ take n rest → n ≡ length xs → stood ≡ xs
    → AreCells f (take (length xs) rest) xs → AreCells g own stood
cells_own f g rest own n xs stood same front long is are =
    cells_same f g own stood same
    (subst (λ (cs : List ℕ). AreCells f cs stood) (sym (front ∙ ap (λ k. take k rest) long))
    (subst (λ (l : List Standing). AreCells f (take (length xs) rest) l) (sym is) are))

pub cells_behind : (f : ℕ → Option ManifestId) (rest behind : List ℕ) (n : ℕ) (xs ys : List Standing) → behind ≡ drop n rest → n ≡ length xs
    → AreCells f (drop (length xs) rest) ys → AreCells f behind ys
cells_behind f rest behind n xs ys back long are = subst (λ (cs : List ℕ). AreCells f cs ys) (sym (back ∙ ap (λ k. drop k rest) long)) are

pub cells_start : (f : ℕ → Option ManifestId) (cells : List ℕ) → cells ≡ [] → AreCells f cells (candidates [])
unfolding candidates
cells_start f cells empty = subst (λ (cs : List ℕ). AreCells f cs []) (sym empty) tt

-- the score at a manifest's place tells its hooks
pub hooks_here : (places : Option PlaceMap) (m : Kept) (p : ℕ) (d : Score) (k : ManifestId) → ArePlaces places m → id_at m p ≡ Some k → hooks_at m k ≡ (get_or m p d).hooks
hooks_here places m p d k are at =
    subst (λ (q : ManifestId). hooks_at m q ≡ (get_or m p d).hooks) (id_here m p d k at)
    (ap hooks_in (score_of m p (get_or m p d) (places_apart places m are) (get_here m p d (id_below m p k at))))

pub placed_all : (all : List (List Standing)) (i : ℕ) (places : Option PlaceMap) (m : Kept) (cells : List ℕ) → length all ≤ i → ArePlaces places m
    → AreCells (id_at m) cells (candidates (take i all)) → ArePlaced m cells all
placed_all all i places m cells over are cells_so = record {
  apart = places_apart places m are;
  places = subst (λ (l : List (List Standing)). AreCells (id_at m) cells (candidates l)) (take_all i all over) cells_so;
}

-- the scores change, and the ids stay
pub placed_same : (m n : Kept) (cells : List ℕ) (all : List (List Standing)) → ((p : ℕ) → id_at n p ≡ id_at m p) → ArePlaced m cells all → ArePlaced n cells all
placed_same m n cells all same so = record {
  apart = apart_same (id_at m) (id_at n) same so.apart;
  places = cells_same (id_at m) (id_at n) cells (candidates all) same so.places;
}
