-- A tree of objects by their names, as the finite map that it is seen as.
use Rattle.std.proofs.Common.{◌≡◌, refl, sym, ◌∙◌, ap, List, [], ◌∷◌, ℕ, map, Bool, true, false, cond, Option, None, Some, Vec, String}
use Rattle.std.specs.declared.alloc.Global.{Global}
use Rattle.std.specs.Option.{option_map}
use Rattle.std.specs.Ordering.{nat_cmp, eq_by_cmp}
use Rattle.std.specs.String.{string_cmp}
use Rattle.std.specs.Str.{bytes_eq}
use Rattle.std.specs.Cmp.Lexicographic.{slice_cmp}
use Rattle.std.specs.Map.{lookup}
use Rattle.std.specs.BTreeMap as tree
use Rattle.std.specs.FinMap as map
use Rattle.std.proofs.lemmas.Cmp.{nat_list_cmp_total, eq_by_cmp_equiv}
use Rattle.std.proofs.lemmas.Map.Lookups.{exact_bytes}
use Rattle.std.proofs.lemmas.Map.Text.{text_cmp, btree_map_updates_text, is_eq-slice_cmp}
use Rattle.outside.specs.Shelf.{Objects}
use Rattle.outside.specs.ObjectMap.{Tree, entry_bytes, objects_of}

-- the bytes that a vector holds, where it is there
abbrev pub items_of : Option (Vec ℕ Global) → Option (List ℕ)
items_of found = option_map (λ v. v.items) found

cond_items : (b : Bool) (v : Vec ℕ Global) (o : Option (Vec ℕ Global)) → cond b (Some v.items) (items_of o) ≡ items_of (cond b (Some v) o)
cond_items true v o = refl
cond_items false v o = refl

find_name : (es : List (String Global × Vec ℕ Global)) (q : List ℕ) → map.find (slice_cmp nat_cmp) q (map entry_bytes es) ≡ items_of (lookup (tree.is_at (text_cmp q)) es)
find_name [] q = refl
find_name (e ∷ es) q = ap (cond (tree.is_at (text_cmp q) e.0) (Some e.1.items)) (find_name es q) ∙ cond_items (tree.is_at (text_cmp q) e.0) e.1 (lookup (tree.is_at (text_cmp q)) es)

-- what the finite map has under a name
pub get-objects_of : (m : Tree) (q : List ℕ) → map.get (objects_of m) q ≡ items_of (tree.get_by_text m q)
get-objects_of m q = map.get-from_entries nat_list_cmp_total (map entry_bytes m.entries) q ∙ find_name m.entries q

-- two names are one by their order or by their bytes
same_names : (xs ys : List ℕ) → bytes_eq xs ys ≡ eq_by_cmp (slice_cmp nat_cmp) ys xs
same_names xs ys = sym (is_eq-slice_cmp xs ys) ∙ (eq_by_cmp_equiv nat_list_cmp_total).symm xs ys

cond_update : (b : Bool) (w o : Option (Vec ℕ Global)) → items_of (cond b w o) ≡ cond b (items_of w) (items_of o)
cond_update true w o = refl
cond_update false w o = refl

after_update : (name : List ℕ) (m n : Tree) (w : Option (Vec ℕ Global)) → tree.UpdatesBy string_cmp (text_cmp name) m n w → (q : List ℕ)
    → map.get (objects_of n) q ≡ cond (eq_by_cmp (slice_cmp nat_cmp) q name) (items_of w) (map.get (objects_of m) q)
after_update name m n w updates q =
    get-objects_of n q
    ∙ ap items_of (btree_map_updates_text name m n w updates q)
    ∙ cond_update (bytes_eq name q) w (tree.get_by_text m q)
    ∙ ap (λ b. cond b (items_of w) (items_of (tree.get_by_text m q))) (same_names name q)
    ∙ ap (cond (eq_by_cmp (slice_cmp nat_cmp) q name) (items_of w)) (sym (get-objects_of m q))

-- a value set in the tree is set in the finite map
pub objects_of-set : (name : List ℕ) (m n : Tree) (w : Vec ℕ Global) → tree.UpdatesBy string_cmp (text_cmp name) m n (Some w) → objects_of n ≡ map.insert (objects_of m) name w.items
objects_of-set name m n w updates = map.same_map nat_list_cmp_total exact_bytes _ _ (λ q.
    after_update name m n (Some w) updates q ∙ sym (map.get-insert nat_list_cmp_total (objects_of m) name w.items q))

-- a value taken out of the tree is out of the finite map
pub objects_of-removed : (name : List ℕ) (m n : Tree) → tree.UpdatesBy string_cmp (text_cmp name) m n None → objects_of n ≡ map.remove (objects_of m) name
objects_of-removed name m n updates = map.same_map nat_list_cmp_total exact_bytes _ _ (λ q.
    after_update name m n None updates q ∙ sym (map.get-remove nat_list_cmp_total (objects_of m) name q))

-- what a look-up in the tree found is under that name in the finite map
pub found_in : (objects : Objects) (m : Tree) (name : List ℕ) (found : Option (Vec ℕ Global)) → objects_of m ≡ objects → found ≡ tree.get_by_text m name → items_of found ≡ map.get objects name
found_in objects m name found view is = ap items_of is ∙ sym (get-objects_of m name) ∙ ap (λ o. map.get o name) view
