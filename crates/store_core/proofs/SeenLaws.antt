-- A set of hooks has those that were put into it.
use Rattle.std.proofs.Common.{◌≡◌, Bool, true, false, cond, not, ◌||◌, ◌&&◌, List, [], ◌∷◌, ◌≤◌, ◌-◌, length, take, drop, get_or, refl, sym, ap, ◌∙◌, arith}
use Rattle.std.specs.List.{list_any}
use Rattle.std.specs.BTreeMap.{is_at}
use Rattle.std.proofs.lemmas.List.{take_all}
use Rattle.std.proofs.lemmas.Cmp.{nat_list_eq_equiv}
use Rattle.std.proofs.lemmas.Map.Text.{is_eq-slice_cmp}
use Rattle.ss_base.specs.declared.name.Name.{Name}
use Rattle.ss_base.specs.contracts.name.NameOrd.TheImpl.{cmp-value}
use Rattle.ss_base.specs.Ids.{same_name, has_name, are_distinct}
use Rattle.store_core.specs.Seen.{HasSeen}

-- two names compare as equal where they are the same
is_at-cmp : (a : Name) → is_at (cmp-value.it a) ≡ same_name a
is_at-cmp a = λ i b. is_eq-slice_cmp a.0 b.0 i

same_name-symm : (a b : Name) → same_name a b ≡ same_name b a
same_name-symm a b = nat_list_eq_equiv.symm a.0 b.0

either : (b v : Bool) → cond b true v ≡ (b || v)
either true v = refl
either false v = refl

all_of : (a b : Bool) → b ≡ true → (a && b) ≡ a
all_of true b is = is
all_of false b is = refl

-- what a set has after a name was put into it
pub seen_more : (seen new names : List Name) (name : Name) → HasSeen seen names → ((q : Name) → list_any (is_at (cmp-value.it q)) new ≡ cond (is_at (cmp-value.it name) q) true (list_any (is_at (cmp-value.it q)) seen)) → HasSeen new (name ∷ names)
unfolding has_name
seen_more seen new names name has updates = record {
  same = λ q.
      ap (λ test. list_any test new) (sym (is_at-cmp q))
      ∙ updates q
      ∙ ap (λ test. cond (test q) true (list_any (is_at (cmp-value.it q)) seen)) (is_at-cmp name)
      ∙ ap (λ test. cond (same_name name q) true (list_any test seen)) (is_at-cmp q)
      ∙ ap (λ v. cond (same_name name q) true v) (has.same q)
      ∙ either (same_name name q) (list_any (same_name q) names)
      ∙ ap (λ b. b || list_any (same_name q) names) (same_name-symm name q);
}

-- a name that is new in a set is distinct from those before
pub new_is : (seen names : List Name) (name : Name) (added : Bool) → HasSeen seen names → added ≡ not (list_any (is_at (cmp-value.it name)) seen) → are_distinct names ≡ true → added ≡ are_distinct (name ∷ names)
unfolding has_name are_distinct
new_is seen names name added has is distinct =
    is
    ∙ ap (λ test. not (list_any test seen)) (is_at-cmp name)
    ∙ ap not (has.same name)
    ∙ sym (all_of (not (list_any (same_name name) names)) (are_distinct names) distinct)

pub front_is : (names : List Name) (d : Name) → 1 ≤ length names → get_or names 0 d ∷ take (length names - 1) (drop 1 names) ≡ names
front_is [] d some = absurd (omega (arith, some))
front_is (name ∷ names) d some = ap (λ l. name ∷ l) (take_all _ names (omega arith))
