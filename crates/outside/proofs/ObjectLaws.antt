-- One object after changes of it, and the other objects.
use Rattle.std.proofs.Common.{◌≡◌, ◌≢◌, refl, sym, ◌∙◌, ap, List, [], ◌++◌, ℕ, Bool, true, false, cond, Option, None, Some, append_assoc, unwrap_or}
use Rattle.std.specs.Ordering.{nat_cmp, eq_by_cmp, is_eq}
use Rattle.std.specs.declared.cmp.Ordering.{Ordering}
use Rattle.std.specs.declared.cmp.Ordering.TheVariants.{Less, Equal, Greater}
use Rattle.std.specs.Cmp.Lexicographic.{slice_cmp}
use Rattle.std.specs.FinMap as map
use Rattle.std.proofs.lemmas.Cmp.{nat_list_cmp_total, eq_by_cmp_equiv}
use Rattle.std.proofs.lemmas.Map.Lookups.{exact_bytes}
use Rattle.outside.specs.Shelf.{Objects, bytes_of, with_object, with_added}

abbrev is_name : List ℕ → List ℕ → Bool
is_name q name = eq_by_cmp (slice_cmp nat_cmp) q name

is_equal : (r : Ordering) → is_eq r ≡ true → r ≡ Equal
is_equal Less is = (cc)
is_equal Equal is = refl
is_equal Greater is = (cc)

-- names that compare alike are one
same_name : (q name : List ℕ) → is_name q name ≡ true → q ≡ name
same_name q name is = exact_bytes q name (is_equal (slice_cmp nat_cmp q name) is)

own_name : (name : List ℕ) → is_name name name ≡ true
own_name name = (eq_by_cmp_equiv nat_list_cmp_total).refl name

other_name : (q name : List ℕ) → q ≢ name → is_name q name ≡ false
other_name q name differs = by_answer (is_name q name) refl
  where
    by_answer : (b : Bool) → is_name q name ≡ b → b ≡ false
    by_answer true is = absurd (differs (same_name q name is))
    by_answer false is = refl

module _ (objects : Objects) (name : List ℕ) where
  -- what is put under a name is there
  pub get-insert_same : (bytes : List ℕ) → map.get (map.insert objects name bytes) name ≡ Some bytes
  get-insert_same bytes = map.get-insert nat_list_cmp_total objects name bytes name ∙ ap (λ b. cond b (Some bytes) (map.get objects name)) (own_name name)

  -- and every other object is as before
  pub get-insert_other : (bytes q : List ℕ) → q ≢ name → map.get (map.insert objects name bytes) q ≡ map.get objects q
  get-insert_other bytes q differs = map.get-insert nat_list_cmp_total objects name bytes q ∙ ap (λ b. cond b (Some bytes) (map.get objects q)) (other_name q name differs)

  -- what is taken away is not there
  pub get-remove_same : map.get (map.remove objects name) name ≡ None
  get-remove_same = map.get-remove nat_list_cmp_total objects name name ∙ ap (λ b. cond b None (map.get objects name)) (own_name name)

  -- and every other object is as before
  pub get-remove_other : (q : List ℕ) → q ≢ name → map.get (map.remove objects name) q ≡ map.get objects q
  get-remove_other q differs = map.get-remove nat_list_cmp_total objects name q ∙ ap (λ b. cond b None (map.get objects q)) (other_name q name differs)

  pub bytes_of-insert_same : (bytes : List ℕ) → bytes_of (map.insert objects name bytes) name ≡ bytes
  bytes_of-insert_same bytes = ap (λ o. unwrap_or o []) (get-insert_same bytes)

  pub bytes_of-insert_other : (bytes q : List ℕ) → q ≢ name → bytes_of (map.insert objects name bytes) q ≡ bytes_of objects q
  bytes_of-insert_other bytes q differs = ap (λ o. unwrap_or o []) (get-insert_other bytes q differs)

  pub bytes_of-remove_other : (q : List ℕ) → q ≢ name → bytes_of (map.remove objects name) q ≡ bytes_of objects q
  bytes_of-remove_other q differs = ap (λ o. unwrap_or o []) (get-remove_other q differs)

  -- what is there already changes nothing
  pub insert_same : (bytes : List ℕ) → map.get objects name ≡ Some bytes → map.insert objects name bytes ≡ objects
  insert_same bytes there = map.same_map nat_list_cmp_total exact_bytes _ _ (λ q.
      map.get-insert nat_list_cmp_total objects name bytes q ∙ by_answer q (is_name q name) refl)
    where
      by_answer : (q : List ℕ) (b : Bool) → is_name q name ≡ b → cond b (Some bytes) (map.get objects q) ≡ map.get objects q
      by_answer q true same = sym there ∙ ap (map.get objects) (sym (same_name q name same))
      by_answer q false other = refl

  -- the last bytes put under a name stay
  pub insert_twice : (first second : List ℕ) → map.insert (map.insert objects name first) name second ≡ map.insert objects name second
  insert_twice first second = map.same_map nat_list_cmp_total exact_bytes _ _ (λ q.
      map.get-insert nat_list_cmp_total (map.insert objects name first) name second q
      ∙ ap (cond (is_name q name) (Some second)) (map.get-insert nat_list_cmp_total objects name first q)
      ∙ once (is_name q name) (map.get objects q)
      ∙ sym (map.get-insert nat_list_cmp_total objects name second q))
    where
      once : (b : Bool) (o : Option (List ℕ)) → cond b (Some second) (cond b (Some first) o) ≡ cond b (Some second) o
      once true o = refl
      once false o = refl

-- two appends are one
pub with_added-with_added : (held : Option Objects) (name first second : List ℕ) → with_added (with_added held name first) name second ≡ with_added held name (first ++ second)
with_added-with_added None name first second = refl
with_added-with_added (Some objects) name first second = ap Some (
    ap (λ bytes. map.insert (map.insert objects name (bytes_of objects name ++ first)) name (bytes ++ second)) (bytes_of-insert_same objects name (bytes_of objects name ++ first))
    ∙ insert_twice objects name (bytes_of objects name ++ first) ((bytes_of objects name ++ first) ++ second)
    ∙ ap (map.insert objects name) (append_assoc (bytes_of objects name) first second))

-- a create and an append are one create
pub with_added-with_object : (held : Option Objects) (name first second : List ℕ) → with_added (with_object held name first) name second ≡ with_object held name (first ++ second)
with_added-with_object None name first second = refl
with_added-with_object (Some objects) name first second = ap Some (
    ap (λ bytes. map.insert (map.insert objects name first) name (bytes ++ second)) (bytes_of-insert_same objects name first)
    ∙ insert_twice objects name first (first ++ second))

-- one object in several pieces
pub ruleset pieces = (with_added-with_added, with_added-with_object)
