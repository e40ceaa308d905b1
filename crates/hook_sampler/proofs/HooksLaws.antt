-- Laws of distinct names and of hooks.
use Rattle.std.proofs.Common.{◌≡◌, ℕ, Bool, true, false, cond, not, ◌||◌, List, [], ◌∷◌, ◌++◌, refl, sym, ap, ◌∙◌, map, filter, suc, ◌≤◌, ◌≢◌, length, arith}
use Rattle.std.specs.List.{list_any, AllPass, AllPairs}
use Rattle.std.specs.BTreeMap.{is_at}
use Rattle.std.proofs.lemmas.Cmp.{nat_list_eq_equiv}
use Rattle.std.proofs.lemmas.List.{map-append, append-nil, length-map}
use Rattle.std.proofs.lemmas.List.Elements.{filter-append, All-cons, All-filter, filter_passes}
use Rattle.std.proofs.lemmas.List.Kept.{AllPairs-cons, AllPairs-filter}
use Rattle.std.proofs.lemmas.List.Filters.{length-filter_both}
use Rattle.std.proofs.lemmas.Bool.{false≢true}
use Rattle.std.proofs.lemmas.List.Folds.{list_any-append}
use Rattle.std.proofs.lemmas.Map.Text.{is_eq-slice_cmp}
use Rattle.ss_base.specs.declared.name.Name.{Name}
use Rattle.ss_base.specs.declared.name.Piece.{Piece}
use Rattle.ss_base.specs.contracts.name.NameOrd.TheImpl.{cmp-value}
use Rattle.ss_base.specs.Ids.{same_name}
use Rattle.ss_base.specs.Hook.{is_hook}
use Rattle.hook_sampler.specs.Hooks.{distinct, hooks}
use Rattle.hook_sampler.specs.Seen.{HasSeen}

-- two names compare as equal where they are the same
is_at-cmp : (a : Name) → is_at (cmp-value.it a) ≡ same_name a
is_at-cmp a = λ i b. is_eq-slice_cmp a.0 b.0 i

same_name-symm : (a b : Name) → same_name a b ≡ same_name b a
same_name-symm a b = nat_list_eq_equiv.symm a.0 b.0

-- what a set has after a name was put into it
pub HasSeen-add : (seen new names : List Name) (name : Name) → HasSeen seen names → ((q : Name) → list_any (is_at (cmp-value.it q)) new ≡ cond (is_at (cmp-value.it name) q) true (list_any (is_at (cmp-value.it q)) seen)) → HasSeen new (names ++ name ∷ [])
HasSeen-add seen new names name has updates =
    let either : (b v : Bool) → cond b true v ≡ (v || (b || false)) = λ b v. elim b as (λ b. cond b true v ≡ (v || (b || false))) [
      | true ↦ elim v as (λ v. true ≡ (v || true)) [ true ↦ refl | false ↦ refl ]
      | false ↦ elim v as (λ v. v ≡ (v || false)) [ true ↦ refl | false ↦ refl ]
    ] in
    record {
      same = λ q.
          ap (λ test. list_any test new) (sym (is_at-cmp q))
          ∙ updates q
          ∙ ap (λ test. cond (test q) true (list_any (is_at (cmp-value.it q)) seen)) (is_at-cmp name)
          ∙ ap (λ test. cond (same_name name q) true (list_any test seen)) (is_at-cmp q)
          ∙ ap (λ v. cond (same_name name q) true v) (has.same q)
          ∙ either (same_name name q) (list_any (same_name q) names)
          ∙ ap (λ b. list_any (same_name q) names || (b || false)) (same_name-symm name q)
          ∙ sym (list_any-append (same_name q) names (name ∷ []));
    }

-- a set tells whether a name is new
pub new_is : (seen names : List Name) (name : Name) (added : Bool) → HasSeen seen names → added ≡ not (list_any (is_at (cmp-value.it name)) seen) → (b : Bool) → added ≡ b → list_any (same_name name) names ≡ not b
new_is seen names name added has is b same =
    let twice : (v : Bool) → v ≡ not (not v) = λ v. elim v as (λ v. v ≡ not (not v)) [ true ↦ refl | false ↦ refl ] in
    sym (ap (λ test. list_any test seen) (is_at-cmp name) ∙ has.same name)
    ∙ twice (list_any (is_at (cmp-value.it name)) seen)
    ∙ ap not (sym is ∙ same)

-- the names other than this one
others : Name → List Name → List Name
others y names = filter (λ o. not (same_name o y)) names

any-others_step : (x y o : Name) (names : List Name) → same_name x y ≡ false → list_any (same_name x) (others y names) ≡ list_any (same_name x) names → (b : Bool) → same_name o y ≡ b → list_any (same_name x) (cond (not b) (o ∷ others y names) (others y names)) ≡ list_any (same_name x) (o ∷ names)
any-others_step x y o names apart rest true same =
    let unlike : same_name x o ≡ false = same_name-symm x o ∙ nat_list_eq_equiv.congr o.0 y.0 x.0 same ∙ same_name-symm y x ∙ apart in
    rest ∙ sym (ap (λ b. b || list_any (same_name x) names) unlike)
any-others_step x y o names apart rest false same = ap (λ v. same_name x o || v) rest

-- another name stands among the others as it stood among all
any-others : (x y : Name) (names : List Name) → same_name x y ≡ false → list_any (same_name x) (others y names) ≡ list_any (same_name x) names
unfolding others
any-others x y [] apart = refl
any-others x y (o ∷ names) apart = any-others_step x y o names apart (any-others x y names apart) (same_name o y) refl

others-append : (y : Name) (names : List Name) (x : Name) (b : Bool) → same_name x y ≡ b → others y (names ++ x ∷ []) ≡ others y names ++ cond (not b) (x ∷ []) []
unfolding others
others-append y names x b same =
    filter-append (λ o. not (same_name o y)) names (x ∷ []) ∙ ap (λ b. others y names ++ cond (not b) (x ∷ []) []) same

distinct-push_cases : (x y : Name) (names : List Name) (b : Bool) → same_name x y ≡ b → (v : Bool) → list_any (same_name x) names ≡ v → y ∷ others y (cond v names (names ++ x ∷ [])) ≡ cond (b || list_any (same_name x) (others y names)) (y ∷ others y names) ((y ∷ others y names) ++ x ∷ [])
distinct-push_cases x y names true same true any = refl
distinct-push_cases x y names true same false any = ap (λ r. y ∷ r) (others-append y names x true same ∙ append-nil (others y names))
distinct-push_cases x y names false same true any =
    sym (ap (λ v. cond v (y ∷ others y names) ((y ∷ others y names) ++ x ∷ [])) (any-others x y names same ∙ any))
distinct-push_cases x y names false same false any =
    ap (λ r. y ∷ r) (others-append y names x false same)
    ∙ sym (ap (λ v. cond v (y ∷ others y names) ((y ∷ others y names) ++ x ∷ [])) (any-others x y names same ∙ any))

-- one more name is added at the end unless it stands there
pub distinct-push : (names : List Name) (x : Name) → distinct (names ++ x ∷ []) ≡ cond (list_any (same_name x) (distinct names)) (distinct names) (distinct names ++ x ∷ [])
unfolding distinct others
distinct-push [] x = refl
distinct-push (y ∷ names) x =
    ap (λ r. y ∷ others y r) (distinct-push names x)
    ∙ distinct-push_cases x y (distinct names) (same_name x y) refl (list_any (same_name x) (distinct names)) refl

hooks-push_cases : (names : List Name) (x : Name) (b : Bool) → distinct (names ++ cond b (x ∷ []) []) ≡ cond b (cond (list_any (same_name x) (distinct names)) (distinct names) (distinct names ++ x ∷ [])) (distinct names)
hooks-push_cases names x true = distinct-push names x
hooks-push_cases names x false = ap distinct (append-nil names)

-- one more piece adds its name where that is a hook and no earlier one
pub hooks-push : (bits : ℕ) (pieces : List Piece) (p : Piece) → hooks bits (pieces ++ p ∷ []) ≡ cond (is_hook bits p.name) (cond (list_any (same_name p.name) (hooks bits pieces)) (hooks bits pieces) (hooks bits pieces ++ p.name ∷ [])) (hooks bits pieces)
hooks-push bits pieces p =
    let names = map (λ (q : Piece). q.name) pieces in
    ap (λ ns. distinct (filter (is_hook bits) ns)) (map-append (λ (q : Piece). q.name) pieces (p ∷ []))
    ∙ ap distinct (filter-append (is_hook bits) names (p.name ∷ []))
    ∙ hooks-push_cases (filter (is_hook bits) names) p.name (is_hook bits p.name)

-- the hooks are hooks
pub AllPass-distinct : (p : Name → Bool) (names : List Name) → AllPass p names → AllPass p (distinct names)
unfolding distinct
AllPass-distinct p [] all = all
AllPass-distinct p (name ∷ names) all =
    let rest : AllPass p names = λ k d lt. all (suc k) d (omega arith) in
    All-cons (λ x. p x ≡ true) name (filter (λ other. not (same_name other name)) (distinct names)) (all 0 name (omega arith))
    (All-filter (λ other. not (same_name other name)) (λ x. p x ≡ true) (distinct names) (AllPass-distinct p names rest))

pub AllPass-hooks : (bits : ℕ) (pieces : List Piece) → AllPass (is_hook bits) (hooks bits pieces)
AllPass-hooks bits pieces = AllPass-distinct (is_hook bits) _ (filter_passes (is_hook bits) (map (λ (q : Piece). q.name) pieces))

unlike : (x o : Name) → not (same_name o x) ≡ true → x ≢ o
unlike x o passes same =
    let equal : same_name o x ≡ true = ap (same_name o) same ∙ nat_list_eq_equiv.refl o.0 in
    false≢true (sym (ap not equal) ∙ passes)

-- no hook stands twice
pub AllPairs-distinct : (names : List Name) → AllPairs (λ a b. a ≢ b) (distinct names)
unfolding distinct
AllPairs-distinct [] = λ i j d below within. absurd (omega arith)
AllPairs-distinct (name ∷ names) =
    let test = λ (other : Name). not (same_name other name) in
    AllPairs-cons (λ a b. a ≢ b) name (filter test (distinct names))
    (λ k d lt. unlike name _ (filter_passes test (distinct names) k d lt))
    (AllPairs-filter (λ a b. a ≢ b) test (distinct names) (AllPairs-distinct names))

length-distinct : (names : List Name) → length (distinct names) ≤ length names
unfolding distinct
length-distinct [] = omega arith
length-distinct (name ∷ names) =
    let test = λ (other : Name). not (same_name other name) in
    let parts = length-filter_both test (λ other. not (test other)) (λ _. refl) (distinct names) in
    omega (arith, parts, length-distinct names)

-- there are at most as many hooks as pieces
pub length-hooks : (bits : ℕ) (pieces : List Piece) → length (hooks bits pieces) ≤ length pieces
length-hooks bits pieces =
    let names = map (λ (q : Piece). q.name) pieces in
    let parts = length-filter_both (is_hook bits) (λ other. not (is_hook bits other)) (λ _. refl) names in
    omega (arith, parts, length-distinct (filter (is_hook bits) names), length-map pieces (λ (q : Piece). q.name))
