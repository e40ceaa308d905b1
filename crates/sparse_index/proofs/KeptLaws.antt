-- Lists that are kept, as the map that contracts see.
use Rattle.std.proofs.Common.{◌≡◌, ℕ, Bool, true, false, cond, List, [], ◌∷◌, map, Option, Some, None, unwrap_or, refl, sym, ap, ◌∙◌, subst, inl, inr}
use Rattle.std.specs.Ordering.{eq_by_cmp}
use Rattle.std.specs.Option.{option_map, is_some}
use Rattle.std.specs.Cmp.{IsTotalOrder}
use Rattle.std.specs.Map.{lookup}
use Rattle.std.specs.HashMap as hash
use Rattle.std.specs.FinMap as map
use Rattle.std.proofs.lemmas.Bool.{both_ways, cases_Bool, false_from_ne_true}
use Rattle.std.proofs.lemmas.Cmp.{eq_by_cmp_equiv}
use Rattle.std.proofs.lemmas.Map.Lookups.{CmpEqualImpliesEq, exact_bytes}
use Rattle.std.proofs.lemmas.Map.Views.{tells_apart}
use Rattle.arrayvec.specs.ArrayVec.{ArrayVec}
use Rattle.ss_base.specs.declared.ids.Standing.{Standing}
use Rattle.ss_base.specs.declared.name.Name.{Name}
use Rattle.ss_base.specs.contracts.name.NameOrd.TheImpl.Laws.{total-law}
use Rattle.ss_base.specs.Ids.{same_name}
use Rattle.ss_base.proofs.IdLaws.{same_name-self, same_name-true}
use Rattle.sparse_index.specs.contracts.name_key.NameKeyPartialEq.TheImpl as key_eq
use Rattle.sparse_index.specs.declared.name_key.NameKey.{NameKey}
use Rattle.sparse_index.specs.Lists.{name_cmp, list_at, is_ready, HasRoom, Changes}
use Rattle.sparse_index.specs.Kept.{Kept, kept_at, items_in, lists_of}

-- ---- names

-- the test that the derive gives
abbrev pub derived : NameKey → NameKey → Bool
derived = (key_eq.ghosts).eq

pub names_total : IsTotalOrder name_cmp
names_total = total-law

pub exact_names : CmpEqualImpliesEq name_cmp
exact_names a b h = ap (λ (bytes : List ℕ). record { 0 = bytes }) (exact_bytes a.0 b.0 h)

apart_back : (q k : Name) → same_name q k ≡ false → same_name k q ≡ false
apart_back q k apart = false_from_ne_true (same_name k q) (λ same.
    both_ways (same_name q k) apart (subst (λ (x : Name). same_name q x ≡ true) (sym (same_name-true k q same)) (same_name-self q)))

-- the order's test is the test of sameness
names_tied : (q k : Name) → eq_by_cmp name_cmp q k ≡ same_name q k
names_tied q k = elim (cases_Bool (same_name q k)) [
  | inl same ↦ subst (λ (x : Name). eq_by_cmp name_cmp q x ≡ true) (same_name-true q k same) ((eq_by_cmp_equiv names_total).refl q) ∙ sym same
  | inr apart ↦ false_from_ne_true (eq_by_cmp name_cmp q k) (λ tied.
      both_ways (same_name q k) apart (subst (λ (x : Name). same_name q x ≡ true) (tells_apart exact_names q k tied) (same_name-self q))) ∙ sym apart
]

-- what holds of one name and of each other holds of all
by_name : (P : Name → Type 0) (k : Name) → P k → ((q : Name) → same_name q k ≡ false → P q) → (q : Name) → P q
by_name P k here other q = elim (cases_Bool (same_name q k)) [
  | inl same ↦ subst P (sym (same_name-true q k same)) here
  | inr apart ↦ other q apart
]

-- ---- the lists as a map

cond_items : (b : Bool) (a : ArrayVec Standing) (o : Option (ArrayVec Standing)) → cond b (Some a.items) (option_map (λ (l : ArrayVec Standing). l.items) o) ≡ option_map (λ (l : ArrayVec Standing). l.items) (cond b (Some a) o)
cond_items true a o = refl
cond_items false a o = refl

find_items : (es : List (NameKey × ArrayVec Standing)) (q : Name) → map.find name_cmp q (map (λ e. (e.0.0, e.1.items)) es) ≡ option_map (λ (l : ArrayVec Standing). l.items) (lookup (λ (key : NameKey). same_name q key.0) es)
find_items [] q = refl
find_items (e ∷ es) q =
    let rest = find_items es q in
    (λ i. cond (names_tied q e.0.0 i) (Some e.1.items) (rest i)) ∙ cond_items (same_name q e.0.0) e.1 (lookup (λ (key : NameKey). same_name q key.0) es)

get-lists_of : (m : Kept) (q : Name) → map.get (lists_of m.entries) q ≡ option_map (λ (l : ArrayVec Standing). l.items) (kept_at m q)
get-lists_of m q = map.get-from_entries names_total _ q ∙ find_items m.entries q

unwrap_items : (o : Option (ArrayVec Standing)) → unwrap_or (option_map (λ (l : ArrayVec Standing). l.items) o) [] ≡ items_in o
unwrap_items None = refl
unwrap_items (Some l) = refl

some_items : (o : Option (ArrayVec Standing)) → is_some (option_map (λ (l : ArrayVec Standing). l.items) o) ≡ is_some o
some_items None = refl
some_items (Some l) = refl

pub list_is : (m : Kept) (q : Name) → list_at (lists_of m.entries) q ≡ items_in (kept_at m q)
list_is m q = ap (λ o. unwrap_or o []) (get-lists_of m q) ∙ unwrap_items (kept_at m q)

pub ready_is : (m : Kept) (q : Name) → is_ready (lists_of m.entries) q ≡ is_some (kept_at m q)
ready_is m q = ap is_some (get-lists_of m q) ∙ some_items (kept_at m q)

-- ---- one list is set

-- n has w at k, and is m elsewhere
pub record OneSet (m n : Kept) (k : Name) (w : ArrayVec Standing) : Type 0 where
  pub here : kept_at n k ≡ Some w
  pub other : (q : Name) → same_name q k ≡ false → kept_at n q ≡ kept_at m q

pub one_set : (m n : Kept) (k : Name) (w : ArrayVec Standing) → hash.UpdatesBy derived (derived (record { 0 = k })) m n (Some w) → OneSet m n k w
one_set m n k w updates =
    let u : hash.UpdatesBy (λ (a b : NameKey). same_name a.0 b.0) (λ (key : NameKey). same_name k key.0) m n (Some w) = updates in
    record { here = u.1; other = λ q apart. u.2 (record { 0 = q }) (apart_back q k apart) }

same_list : (m n : Kept) (q : Name) → kept_at n q ≡ kept_at m q → list_at (lists_of n.entries) q ≡ list_at (lists_of m.entries) q
same_list m n q same = list_is n q ∙ ap items_in same ∙ sym (list_is m q)

same_ready : (m n : Kept) (q : Name) → is_some (kept_at n q) ≡ is_some (kept_at m q) → is_ready (lists_of n.entries) q ≡ is_ready (lists_of m.entries) q
same_ready m n q same = ready_is n q ∙ same ∙ sym (ready_is m q)

module _ (m n : Kept) (k : Name) (w : ArrayVec Standing) (to : OneSet m n k w) where
  -- a list that was kept is changed
  pub changed : (f : List Standing → List Standing) (was : ArrayVec Standing) → kept_at m k ≡ Some was → w.items ≡ f was.items → Changes (lists_of m.entries) (lists_of n.entries) k f
  changed f was is now = record {
    ready = by_name (λ q. is_ready (lists_of n.entries) q ≡ is_ready (lists_of m.entries) q) k
        (same_ready m n k (ap is_some to.here ∙ sym (ap is_some is))) (λ q apart. same_ready m n q (ap is_some (to.other q apart)));
    here = λ q same ready. subst (λ (x : Name). list_at (lists_of n.entries) x ≡ f (list_at (lists_of m.entries) x)) (sym (same_name-true q k same))
        (list_is n k ∙ ap items_in to.here ∙ now ∙ ap (λ o. f (items_in o)) (sym is) ∙ ap f (sym (list_is m k)));
    elsewhere = λ q apart. same_list m n q (to.other q apart);
  }

  -- a list is kept where none was
  pub made : kept_at m k ≡ None → w.items ≡ [] → HasRoom (lists_of m.entries) (lists_of n.entries) k
  made absent empty = record {
    kept = ready_is n k ∙ ap is_some to.here;
    ready = by_name (λ q. is_ready (lists_of m.entries) q ≡ true → is_ready (lists_of n.entries) q ≡ true) k
        (λ _. ready_is n k ∙ ap is_some to.here) (λ q apart ready. same_ready m n q (ap is_some (to.other q apart)) ∙ ready);
    lists = by_name (λ q. list_at (lists_of n.entries) q ≡ list_at (lists_of m.entries) q) k
        (list_is n k ∙ ap items_in to.here ∙ empty ∙ ap items_in (sym absent) ∙ sym (list_is m k)) (λ q apart. same_list m n q (to.other q apart));
  }

-- no list is kept that could be changed
pub unchanged : (m : Kept) (k : Name) (f : List Standing → List Standing) → kept_at m k ≡ None → Changes (lists_of m.entries) (lists_of m.entries) k f
unchanged m k f is = record {
  ready = λ q. refl;
  here = λ q same ready.
      let none : is_ready (lists_of m.entries) k ≡ false = ready_is m k ∙ ap is_some is in
      absurd (both_ways (is_ready (lists_of m.entries) k) none (subst (λ (x : Name). is_ready (lists_of m.entries) x ≡ true) (same_name-true q k same) ready));
  elsewhere = λ q apart. refl;
}

-- a list is kept already
pub kept_already : (m : Kept) (k : Name) → is_some (kept_at m k) ≡ true → HasRoom (lists_of m.entries) (lists_of m.entries) k
kept_already m k is = record { kept = ready_is m k ∙ is; ready = λ q ready. ready; lists = λ q. refl }

pub none_kept : (m : Kept) (k : Name) → is_some (kept_at m k) ≡ false → kept_at m k ≡ None
none_kept m k e = by (kept_at m k) e
  where
    by : (o : Option (ArrayVec Standing)) → is_some o ≡ false → o ≡ None
    by None e = refl
    by (Some l) e = absurd (both_ways true e refl)
