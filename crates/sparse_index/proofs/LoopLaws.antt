-- What the loops over hooks keep.
use Rattle.std.proofs.Common.{◌≡◌, ◌⊎◌, ℕ, zero, suc, ◌+◌, ◌<◌, Bool, true, false, cond, not, ◌||◌, ◌&&◌, List, [], ◌∷◌, ◌++◌, length, take, get_or, All, IsTrue, Option, Some, None, unwrap_or, is_some, refl, sym, ap, ◌∙◌, subst, inl, inr, arith}
use Rattle.std.specs.FinMap as map
use Rattle.std.specs.List.{IsDistinct, AllByRecursion}
use Rattle.std.proofs.lemmas.Bool.{both_ways, cases_Bool, false_from_ne_true, or_cases, or_left, or_right}
use Rattle.std.proofs.lemmas.List.Folds.{list_any_more}
use Rattle.std.proofs.lemmas.Map.Keys.{IsDistinct-head, IsDistinct-tail}
use Rattle.ss_base.specs.declared.ids.ManifestId.{ManifestId}
use Rattle.ss_base.specs.declared.ids.Standing.{Standing}
use Rattle.ss_base.specs.declared.name.Name.{Name}
use Rattle.ss_base.specs.Ids.{same_name, same_manifest, has_name}
use Rattle.ss_base.specs.Standings.{promoted, chosen_standings, others_standing, standing_of, without_manifest}
use Rattle.ss_base.proofs.IdLaws.{same_name-self, same_name-true}
use Rattle.ss_base.proofs.StandingLaws.{filter_twice, filter_same}
use Rattle.sparse_index.specs.Lists.{Lists, list_at, is_ready, HasRoom, Changes}

-- what is so of the lists once f has changed those of these hooks
pub record Changed (f : List Standing → List Standing) (hooks : List Name) (old new : Lists) : Type 0 where
  pub ready : (q : Name) → is_ready new q ≡ is_ready old q
  pub lists : (q : Name) → list_at new q ≡ cond (has_name q hooks) (f (list_at old q)) (list_at old q)

-- an absent list stays empty, or the hooks are ready
abbrev pub Reaches : (List Standing → List Standing) → Lists → Name → Type 0
Reaches f old hook = (f [] ≡ []) ⊎ (is_ready old hook ≡ true)

pub has_none : (q : Name) → has_name q [] ≡ false
unfolding has_name
has_none q = refl

pub has_more : (q : Name) (hooks : List Name) (i : ℕ) (d : Name) → i < length hooks → has_name q (take (i + 1) hooks) ≡ (has_name q (take i hooks) || same_name q (get_or hooks i d))
unfolding has_name
has_more q hooks i d below = list_any_more (same_name q) hooks i d below

pub changed_none : (f : List Standing → List Standing) (old : Lists) → Changed f [] old old
changed_none f old = record { ready = λ q. refl; lists = λ q. ap (λ b. cond b (f (list_at old q)) (list_at old q)) (sym (has_none q)) }

-- a hook that isn't ready has the empty list
pub unready : (lists : Lists) (q : Name) → is_ready lists q ≡ false → list_at lists q ≡ []
unready lists q e = by (map.get lists q) e
  where
    by : (o : Option (List Standing)) → is_some o ≡ false → unwrap_or o [] ≡ []
    by None e = refl
    by (Some l) e = absurd (both_ways true e refl)

or_true : (a : Bool) → (a || true) ≡ true
or_true true = refl
or_true false = refl

or_false : (a : Bool) → (a || false) ≡ a
or_false true = refl
or_false false = refl

-- f is applied once, or once more changes nothing
abbrev pub Once : (List Standing → List Standing) → Name → List Name → Type 0
Once f hook before = (has_name hook before ≡ false) ⊎ ((x : List Standing) → f (f x) ≡ f x)

once_more : (f : List Standing → List Standing) (hook : Name) (before : List Name) (x : List Standing) → Once f hook before → f (cond (has_name hook before) (f x) x) ≡ f x
once_more f hook before x once = elim (cases_Bool (has_name hook before)) [
  | inl has ↦ ap (λ b. f (cond b (f x) x)) has ∙ again once has
  | inr has_not ↦ ap (λ b. f (cond b (f x) x)) has_not
]
  where
    again : Once f hook before → has_name hook before ≡ true → f (f x) ≡ f x
    again (inl fresh) has = absurd (both_ways (has_name hook before) fresh has)
    again (inr twice) has = twice x

module _ (f : List Standing → List Standing) (hooks : List Name) (i : ℕ) (d : Name) (below : i < length hooks) where
  here_more : (old mid new : Lists) → Changed f (take i hooks) old mid → Changes mid new (get_or hooks i d) f → Reaches f old (get_or hooks i d) → Once f (get_or hooks i d) (take i hooks)
      → list_at new (get_or hooks i d) ≡ f (list_at old (get_or hooks i d))
  here_more old mid new so to reaches once = elim (cases_Bool (is_ready mid (get_or hooks i d))) [
    | inl ready ↦
        to.here (get_or hooks i d) (same_name-self (get_or hooks i d)) ready ∙ ap f (so.lists (get_or hooks i d))
        ∙ once_more f (get_or hooks i d) (take i hooks) (list_at old (get_or hooks i d)) once
    | inr not_ready ↦
        let was : is_ready old (get_or hooks i d) ≡ false = sym (so.ready (get_or hooks i d)) ∙ not_ready in
        let now : is_ready new (get_or hooks i d) ≡ false = to.ready (get_or hooks i d) ∙ not_ready in
        unready new (get_or hooks i d) now ∙ sym (empty was reaches) ∙ ap f (sym (unready old (get_or hooks i d) was))
  ]
    where
      empty : is_ready old (get_or hooks i d) ≡ false → Reaches f old (get_or hooks i d) → f [] ≡ []
      empty was (inl stays) = stays
      empty was (inr ready) = absurd (both_ways (is_ready old (get_or hooks i d)) was ready)

  pub changed_more : (old mid new : Lists) → Changed f (take i hooks) old mid → Changes mid new (get_or hooks i d) f → Reaches f old (get_or hooks i d) → Once f (get_or hooks i d) (take i hooks) → Changed f (take (i + 1) hooks) old new
  changed_more old mid new so to reaches once = record {
    ready = λ q. to.ready q ∙ so.ready q;
    lists = λ q. elim (cases_Bool (same_name q (get_or hooks i d))) [
      | inl same ↦
          subst (λ (x : Name). list_at new x ≡ f (list_at old x)) (sym (same_name-true q (get_or hooks i d) same)) (here_more old mid new so to reaches once)
          ∙ ap (λ b. cond b (f (list_at old q)) (list_at old q)) (sym (has_more q hooks i d below ∙ ap (λ b. has_name q (take i hooks) || b) same ∙ or_true (has_name q (take i hooks))))
      | inr apart ↦
          to.elsewhere q apart ∙ so.lists q
          ∙ ap (λ b. cond b (f (list_at old q)) (list_at old q)) (sym (has_more q hooks i d below ∙ ap (λ b. has_name q (take i hooks) || b) apart ∙ or_false (has_name q (take i hooks))))
    ];
  }

-- ---- hooks that are distinct

apart_back : (a b : Name) → same_name a b ≡ false → same_name b a ≡ false
apart_back a b apart = false_from_ne_true (same_name b a) (λ same.
    both_ways (same_name a b) apart (subst (λ (x : Name). same_name x b ≡ true) (same_name-true b a same) (same_name-self b)))

each_apart : (x : Name) (xs : List Name) (i : ℕ) (d : Name) → AllByRecursion (λ (y : Name). same_name x y ≡ false) xs → i < length xs → same_name x (get_or xs i d) ≡ false
each_apart x [] i d all below = absurd (omega arith)
each_apart x (y ∷ ys) zero d all below = all.0
each_apart x (y ∷ ys) (suc i) d all below = each_apart x ys i d all.1 (omega arith)

pub fresh : (hooks : List Name) (i : ℕ) (d : Name) → IsDistinct same_name hooks → i < length hooks → has_name (get_or hooks i d) (take i hooks) ≡ false
unfolding has_name
fresh [] i d distinct below = absurd (omega arith)
fresh (x ∷ xs) zero d distinct below = refl
fresh (x ∷ xs) (suc i) d distinct below =
    let y : Name = get_or xs i d in
    let apart : same_name y x ≡ false = apart_back x y (each_apart x xs i d (IsDistinct-head same_name x xs distinct) (omega arith)) in
    ap (λ b. b || has_name y (take i xs)) apart ∙ fresh xs i d (IsDistinct-tail same_name x xs distinct) (omega arith)

-- ---- lists that stay empty, and what a second time changes nothing

none_chosen : (ids : List ManifestId) → chosen_standings ids [] ≡ []
unfolding chosen_standings standing_of
none_chosen [] = refl
none_chosen (id ∷ ids) = none_chosen ids

pub promoted_empty : (ids : List ManifestId) → promoted ids [] ≡ []
unfolding promoted others_standing
promoted_empty ids = ap (λ l. l ++ []) (none_chosen ids)

pub without_empty : (id : ManifestId) → without_manifest id [] ≡ []
unfolding without_manifest
without_empty id = refl

both_same : (b : Bool) → (b && b) ≡ b
both_same true = refl
both_same false = refl

pub without_twice : (id : ManifestId) (stood : List Standing) → without_manifest id (without_manifest id stood) ≡ without_manifest id stood
unfolding without_manifest
without_twice id stood =
    filter_twice (λ (s : Standing). not (same_manifest s.id id)) (λ (s : Standing). not (same_manifest s.id id)) stood
    ∙ filter_same (λ (s : Standing). not (same_manifest s.id id) && not (same_manifest s.id id)) (λ (s : Standing). not (same_manifest s.id id)) stood (λ s h. both_same (not (same_manifest s.id id)))

-- ---- room

-- these hooks are ready beside what was
pub record WithRoom (hooks : List Name) (old new : Lists) : Type 0 where
  pub made : (q : Name) → has_name q hooks ≡ true → is_ready new q ≡ true
  pub kept : (q : Name) → is_ready old q ≡ true → is_ready new q ≡ true
  pub lists : (q : Name) → list_at new q ≡ list_at old q

pub room_none : (old : Lists) → WithRoom [] old old
room_none old = record { made = λ q has. absurd (both_ways (has_name q []) (has_none q) has); kept = λ q ready. ready; lists = λ q. refl }

pub room_more : (hooks : List Name) (i : ℕ) (d : Name) (old mid new : Lists) → i < length hooks → WithRoom (take i hooks) old mid → HasRoom mid new (get_or hooks i d) → WithRoom (take (i + 1) hooks) old new
room_more hooks i d old mid new below so to = record {
  made = λ q has. elim (or_cases (has_name q (take i hooks)) (same_name q (get_or hooks i d)) (sym (has_more q hooks i d below) ∙ has)) [
    | inl earlier ↦ to.ready q (so.made q earlier)
    | inr same ↦ subst (λ (x : Name). is_ready new x ≡ true) (sym (same_name-true q (get_or hooks i d) same)) to.kept
  ];
  kept = λ q ready. to.ready q (so.kept q ready);
  lists = λ q. to.lists q ∙ so.lists q;
}

has_member : (hooks : List Name) (k : ℕ) (d : Name) → k < length hooks → has_name (get_or hooks k d) hooks ≡ true
unfolding has_name
has_member [] k d below = absurd (omega arith)
has_member (x ∷ xs) zero d below = or_left (same_name x x) (has_name x xs) (same_name-self x)
has_member (x ∷ xs) (suc k) d below = or_right (same_name (get_or xs k d) x) (has_name (get_or xs k d) xs) (has_member xs k d (omega arith))

pub all_ready : (hooks : List Name) (old new : Lists) → WithRoom hooks old new → All (λ hook. IsTrue (is_ready new hook)) hooks
all_ready hooks old new so k d below = so.made (get_or hooks k d) (has_member hooks k d below)
