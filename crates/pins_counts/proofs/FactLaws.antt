-- Facts as they are kept, as the numbers and the set that they are seen as.
use Rattle.std.proofs.Common.{◌≡◌, refl, sym, ◌∙◌, ap, subst, ℕ, ◌+◌, List, [], ◌∷◌, map, Bool, true, false, cond, ◌||◌, ◌&&◌, not, Option, None, Some, inl, inr, ◌⊎◌, unwrap_or, is_some, IsTrue, arith, ◌<◌, ◌≤◌}
use Rattle.std.specs.Option.{option_map}
use Rattle.std.specs.Map.{lookup}
use Rattle.std.specs.HashMap as hash
use Rattle.std.specs.FinMap as map
use Rattle.std.specs.FinSet as set
use Rattle.std.specs.Ordering.{nat_cmp, eq_by_cmp}
use Rattle.std.proofs.lemmas.Cmp.{eq_by_cmp_equiv, ranked, by_ranked}
use Rattle.ss_base.proofs.IdLaws.{same_object-self, same_object-true}
use Rattle.ss_base.specs.contracts.object.ObjectPartialEq.TheImpl as object_eq
use Rattle.ss_base.proofs.OrderLaws.{objects_total, exact_objects, objects_tied}
use Rattle.ss_base.specs.declared.object.Object.{Object}
use Rattle.ss_base.specs.declared.object.Object.TheVariants.{Container, Manifest}
use Rattle.pins_counts.specs.declared.fact.Fact.{Fact}
use Rattle.ss_base.specs.Ids.{same_object}
use Rattle.ss_base.specs.Order.{object_cmp}
use Rattle.pins_counts.specs.Facts.{Kept, numbers_of, gone_of, is_gone_fact, fact_at, fact_or_nothing, nothing, OneSet, gone_in, run_in, Claims, IsSound, place_of, at_place, seen_in, gone_now}
use Rattle.pins_counts.specs.declared.fact.Run.{Run}

-- the test that the derive gives
abbrev pub derived : Object → Object → Bool
derived = (object_eq.ghosts).eq

derived_is : (x y : Object) → derived x y ≡ same_object x y
derived_is (Container c) (Container d) = refl
derived_is (Container c) (Manifest n) = refl
derived_is (Manifest m) (Container d) = refl
derived_is (Manifest m) (Manifest n) = refl

pub derived-same_object : derived ≡ same_object
derived-same_object i x y = derived_is x y i

-- what is kept, as a look-up finds it
pub found_at : (m : Kept) (k : Object) (found : Option Fact) → found ≡ hash.get derived m k → fact_at m k ≡ found
found_at m k found is = ap (λ R. hash.get R m k) (sym derived-same_object) ∙ sym is

-- two objects are one or not
pub one_or_other : (q k : Object) → (q ≡ k) ⊎ (same_object q k ≡ false)
one_or_other q k =
    elim (same_object q k) as (λ b. same_object q k ≡ b → (q ≡ k) ⊎ (same_object q k ≡ false)) [
      | true ↦ λ e. inl (same_object-true q k e)
      | false ↦ λ e. inr e
    ] refl

-- two objects are apart either way round
apart_back : (q k : Object) → same_object q k ≡ false → same_object k q ≡ false
apart_back q k apart = sym (objects_tied k q) ∙ (eq_by_cmp_equiv objects_total).symm k q ∙ objects_tied q k ∙ apart

abbrev pub number_in : Option Fact → ℕ
number_in found = unwrap_or (option_map (λ f. f.number) found) 0

cond_number : (b : Bool) (f : Fact) (o : Option Fact) → cond b (Some f.number) (option_map (λ g. g.number) o) ≡ option_map (λ g. g.number) (cond b (Some f) o)
cond_number true f o = refl
cond_number false f o = refl

find_number : (es : List (Object × Fact)) (q : Object) → map.find object_cmp q (map (λ e. (e.0, e.1.number)) es) ≡ option_map (λ f. f.number) (lookup (same_object q) es)
find_number [] q = refl
find_number (e ∷ es) q =
    let rest = find_number es q in
    (λ i. cond (objects_tied q e.0 i) (Some e.1.number) (rest i)) ∙ cond_number (same_object q e.0) e.1 (lookup (same_object q) es)

-- what the numbers have at an object
pub get-numbers_of : (m : Kept) (q : Object) → map.get (numbers_of m.entries) q ≡ option_map (λ f. f.number) (fact_at m q)
get-numbers_of m q = map.get-from_entries objects_total _ q ∙ find_number m.entries q

cond_gone : (same gone : Bool) (f : Fact) (o : Option Fact) → is_gone_fact f ≡ gone → cond gone (same || gone_in o) (not same && gone_in o) ≡ gone_in (cond same (Some f) o)
cond_gone true true f o e = sym e
cond_gone true false f o e = sym e
cond_gone false true f o e = refl
cond_gone false false f o e = refl

contains-cond : (gone : Bool) (s : set.FinSet object_cmp) (k q : Object) → set.contains (cond gone (set.insert s k) (set.remove s k)) q ≡ cond gone (eq_by_cmp object_cmp q k || set.contains s q) (not (eq_by_cmp object_cmp q k) && set.contains s q)
contains-cond true s k q = set.contains-insert objects_total s k q
contains-cond false s k q = set.contains-remove objects_total s k q

contains-entries : (es : List (Object × Fact)) (q : Object) → set.contains (gone_of es) q ≡ gone_in (lookup (same_object q) es)
contains-entries [] q = set.contains-empty object_cmp q
contains-entries (e ∷ es) q =
    contains-cond (is_gone_fact e.1) (gone_of es) e.0 q
    ∙ (let rest = contains-entries es q in λ i. cond (is_gone_fact e.1) (objects_tied q e.0 i || rest i) (not (objects_tied q e.0 i) && rest i))
    ∙ cond_gone (same_object q e.0) (is_gone_fact e.1) e.1 (lookup (same_object q) es) refl

-- which objects are gone
pub contains-gone_of : (m : Kept) (q : Object) → set.contains (gone_of m.entries) q ≡ gone_in (fact_at m q)
contains-gone_of m q = contains-entries m.entries q

-- what std says of one entry that is set
pub one_set : (m n : Kept) (k : Object) (w : Fact) → hash.UpdatesBy derived (derived k) m n (Some w) → OneSet m n k w
one_set m n k w updates =
    let u : hash.UpdatesBy same_object (same_object k) m n (Some w) = subst (λ R. hash.UpdatesBy R (R k) m n (Some w)) derived-same_object updates in
    record {
      here = u.1;
      other = λ q apart. u.2 q (apart_back q k apart);
    }

-- what holds at one object and at each other holds at all
pub by_object : (P : Object → Type 0) (k : Object) → P k → ((q : Object) → same_object q k ≡ false → P q) → (q : Object) → P q
by_object P k here other q = elim (one_or_other q k) as (λ _. P q) [
  | inl e ↦ subst P (sym e) here
  | inr apart ↦ other q apart
]

pub number_is : (m : Kept) (q : Object) → unwrap_or (map.get (numbers_of m.entries) q) 0 ≡ number_in (fact_at m q)
number_is m q = ap (λ o. unwrap_or o 0) (get-numbers_of m q)

some_number : (o : Option Fact) → is_some (option_map (λ f. f.number) o) ≡ is_some o
some_number None = refl
some_number (Some f) = refl

pub ready_is : (m : Kept) (q : Object) → map.contains_key (numbers_of m.entries) q ≡ is_some (fact_at m q)
ready_is m q = ap is_some (get-numbers_of m q) ∙ some_number (fact_at m q)

or_true : (a : Bool) → (a || true) ≡ true
or_true true = refl
or_true false = refl

or_false : (a : Bool) → (a || false) ≡ a
or_false true = refl
or_false false = refl

no_more : (a b : ℕ) → a ≡ b → a ≡ b + 0
no_more a b e = omega arith

module _ (m n : Kept) (k : Object) (w : Fact) (set_to : OneSet m n k w) where
  -- the number of one object rises by one
  pub number_added : w.number ≡ number_in (fact_at m k) + 1
      → (q : Object) → unwrap_or (map.get (numbers_of n.entries) q) 0 ≡ unwrap_or (map.get (numbers_of m.entries) q) 0 + cond (same_object q k) 1 0
  number_added more q =
      number_is n q
      ∙ by_object (λ q. number_in (fact_at n q) ≡ number_in (fact_at m q) + cond (same_object q k) 1 0) k
      (ap number_in set_to.here ∙ more ∙ ap (λ b. number_in (fact_at m k) + cond b 1 0) (sym (same_object-self k)))
      (λ q apart. no_more _ _ (ap number_in (set_to.other q apart)) ∙ ap (λ b. number_in (fact_at m q) + cond b 1 0) (sym apart)) q
      ∙ ap (λ x. x + cond (same_object q k) 1 0) (sym (number_is m q))

  -- the number of one object falls by one
  pub number_taken : number_in (fact_at m k) ≡ w.number + 1
      → (q : Object) → unwrap_or (map.get (numbers_of m.entries) q) 0 ≡ unwrap_or (map.get (numbers_of n.entries) q) 0 + cond (same_object q k) 1 0
  number_taken more q =
      number_is m q
      ∙ by_object (λ q. number_in (fact_at m q) ≡ number_in (fact_at n q) + cond (same_object q k) 1 0) k
      (more ∙ (λ i. number_in (sym set_to.here i) + cond (sym (same_object-self k) i) 1 0))
      (λ q apart. no_more _ _ (ap number_in (sym (set_to.other q apart))) ∙ ap (λ b. number_in (fact_at n q) + cond b 1 0) (sym apart)) q
      ∙ ap (λ x. x + cond (same_object q k) 1 0) (sym (number_is n q))

  -- what was there is there
  pub ready_kept : IsTrue (is_some (fact_at m k)) → (q : Object) → map.contains_key (numbers_of n.entries) q ≡ map.contains_key (numbers_of m.entries) q
  ready_kept there q =
      ready_is n q
      ∙ by_object (λ q. is_some (fact_at n q) ≡ is_some (fact_at m q)) k (ap is_some set_to.here ∙ sym there) (λ q apart. ap is_some (set_to.other q apart)) q
      ∙ sym (ready_is m q)

  -- the numbers stay where the one is as before
  pub number_kept : w.number ≡ number_in (fact_at m k) → (q : Object) → unwrap_or (map.get (numbers_of n.entries) q) 0 ≡ unwrap_or (map.get (numbers_of m.entries) q) 0
  number_kept same q =
      number_is n q
      ∙ by_object (λ q. number_in (fact_at n q) ≡ number_in (fact_at m q)) k (ap number_in set_to.here ∙ same) (λ q apart. ap number_in (set_to.other q apart)) q
      ∙ sym (number_is m q)

  -- what is gone stays where the one is as before
  pub gone_kept : is_gone_fact w ≡ gone_in (fact_at m k) → gone_of n.entries ≡ gone_of m.entries
  gone_kept same = set.same_set objects_total exact_objects _ _ (λ q.
      contains-gone_of n q
      ∙ by_object (λ q. gone_in (fact_at n q) ≡ gone_in (fact_at m q)) k (ap gone_in set_to.here ∙ same) (λ q apart. ap gone_in (set_to.other q apart)) q
      ∙ sym (contains-gone_of m q))

  -- one object more is ready
  pub ready_made : (q : Object) → map.contains_key (numbers_of n.entries) q ≡ (same_object q k || map.contains_key (numbers_of m.entries) q)
  ready_made q =
      ready_is n q
      ∙ by_object (λ q. is_some (fact_at n q) ≡ (same_object q k || is_some (fact_at m q))) k
      (ap is_some set_to.here ∙ ap (λ b. b || is_some (fact_at m k)) (sym (same_object-self k)))
      (λ q apart. ap is_some (set_to.other q apart) ∙ ap (λ b. b || is_some (fact_at m q)) (sym apart)) q
      ∙ ap (λ b. same_object q k || b) (sym (ready_is m q))

-- where there was no room there is nothing
pub nothing_there : (found : Option Fact) → is_some found ≡ false → fact_or_nothing found ≡ nothing
nothing_there None absent = refl
nothing_there (Some f) absent = cc

pub number_of_nothing : (found : Option Fact) → (fact_or_nothing found).number ≡ number_in found
number_of_nothing None = refl
number_of_nothing (Some f) = refl

pub gone_of_nothing : (found : Option Fact) → is_gone_fact (fact_or_nothing found) ≡ gone_in found
gone_of_nothing None = refl
gone_of_nothing (Some f) = refl

-- there is room for what is ready
pub room_for : (m : Kept) (k : Object) → map.contains_key (numbers_of m.entries) k ≡ true → is_some (fact_at m k) ≡ true
room_for m k ready = sym (ready_is m k) ∙ ready

-- the number of what is kept is the object's
pub number_here : (m : Kept) (k : Object) (f : Fact) → f ≡ fact_or_nothing (fact_at m k) → f.number ≡ unwrap_or (map.get (numbers_of m.entries) k) 0
number_here m k f is = ap (λ f. f.number) is ∙ number_of_nothing (fact_at m k) ∙ sym (number_is m k)

-- and so is what it says of being gone
pub gone_here : (m : Kept) (k : Object) (f : Fact) → f ≡ fact_or_nothing (fact_at m k) → is_gone_fact f ≡ set.contains (gone_of m.entries) k
gone_here m k f is = ap is_gone_fact is ∙ gone_of_nothing (fact_at m k) ∙ sym (contains-gone_of m k)

gone_by_run : (found : Option Fact) → gone_in found ≡ is_some (run_in found)
gone_by_run None = refl
gone_by_run (Some f) = refl

pub run_of_nothing : (found : Option Fact) → (fact_or_nothing found).gone ≡ run_in found
run_of_nothing None = refl
run_of_nothing (Some f) = refl

-- what is known of neighbours stays so as more are gone
pub claims_kept : (m n : Kept) → ((q : Object) → gone_in (fact_at m q) ≡ true → gone_in (fact_at n q) ≡ true) → (q : Object) (run : Run) → Claims m q run → Claims n q run
claims_kept m n grows q run claims = record {
  before = λ k from to. grows _ (claims.before k from to);
  after = λ k from to. grows _ (claims.after k from to);
}

-- one object is set, and what it then knows is so
pub sound_set : (m n : Kept) (k : Object) (w : Fact) → OneSet m n k w → IsSound m
    → (gone_in (fact_at m k) ≡ true → is_gone_fact w ≡ true) → ((run : Run) → w.gone ≡ Some run → Claims n k run) → IsSound n
sound_set m n k w set_to sound stays claims =
    let grows : (q : Object) → gone_in (fact_at m q) ≡ true → gone_in (fact_at n q) ≡ true =
    by_object (λ q. gone_in (fact_at m q) ≡ true → gone_in (fact_at n q) ≡ true) k (λ gone. ap gone_in set_to.here ∙ stays gone) (λ q apart gone. ap gone_in (set_to.other q apart) ∙ gone) in
    record {
      claims = by_object (λ q. (run : Run) → run_in (fact_at n q) ≡ Some run → Claims n q run) k
          (λ run is. claims run (ap run_in (sym set_to.here) ∙ is))
          (λ q apart run is. claims_kept m n grows q run (sound.claims q run (ap run_in (sym (set_to.other q apart)) ∙ is)));
    }

-- one object is set, and what it knows is as before
pub sound_kept : (m n : Kept) (k : Object) (w : Fact) → OneSet m n k w → IsSound m → w.gone ≡ run_in (fact_at m k) → IsSound n
sound_kept m n k w set_to sound same =
    let runs : (q : Object) → run_in (fact_at n q) ≡ run_in (fact_at m q) =
    by_object (λ q. run_in (fact_at n q) ≡ run_in (fact_at m q)) k (ap run_in set_to.here ∙ same) (λ q apart. ap run_in (set_to.other q apart)) in
    let grows : (q : Object) → gone_in (fact_at m q) ≡ true → gone_in (fact_at n q) ≡ true = λ q gone. gone_by_run _ ∙ ap is_some (runs q) ∙ sym (gone_by_run _) ∙ gone in
    record { claims = λ q run is. claims_kept m n grows q run (sound.claims q run (sym (runs q) ∙ is)) }

-- what is unchanged is as sound
pub sound_same : (m n : Kept) → n.entries ≡ m.entries → IsSound m → IsSound n
sound_same m n same sound =
    let facts : (q : Object) → fact_at n q ≡ fact_at m q = λ q. ap (lookup (same_object q)) same in
    record { claims = λ q run is. claims_kept m n (λ q gone. ap gone_in (facts q) ∙ gone) q run (sound.claims q run (ap run_in (sym (facts q)) ∙ is)) }

pub place_at : (q : Object) (n : ℕ) → place_of (at_place q n) ≡ n
place_at (Container c) n = refl
place_at (Manifest m) n = refl

pub at_same : (q : Object) (p n : ℕ) → at_place (at_place q p) n ≡ at_place q n
at_same (Container c) p n = refl
at_same (Manifest m) p n = refl

pub at_itself : (q : Object) → at_place q (place_of q) ≡ q
at_itself (Container c) = refl
at_itself (Manifest m) = refl

-- what a neighbour knows
pub neighbour : (m : Kept) (x : Object) (f : Fact) (run : Run) → IsSound m → f ≡ fact_or_nothing (fact_at m x) → f.gone ≡ Some run → Claims m x run
neighbour m x f run sound is gone = sound.claims x run (sym (run_of_nothing (fact_at m x)) ∙ ap (λ f. f.gone) (sym is) ∙ gone)

pub known_before : (m : Kept) (q x : Object) (p : ℕ) (f : Fact) (run : Run) → x ≡ at_place q p → p + 1 ≡ place_of q → IsSound m → f ≡ fact_or_nothing (fact_at m x) → f.gone ≡ Some run
    → (n : ℕ) → run.first ≤ n → n < place_of q → gone_in (fact_at m (at_place q n)) ≡ true
known_before m q x p f run at next sound is gone n from below =
    let claims = neighbour m x f run sound is gone in
    let place : place_of x ≡ p = ap place_of at ∙ place_at q p in
    let there : at_place x n ≡ at_place q n = ap (λ y. at_place y n) at ∙ at_same q p n in
    subst (λ y. gone_in (fact_at m y) ≡ true) there (claims.before n from (omega arith))

pub known_after : (m : Kept) (q x : Object) (p : ℕ) (f : Fact) (run : Run) → x ≡ at_place q p → place_of q + 1 ≡ p → IsSound m → f ≡ fact_or_nothing (fact_at m x) → f.gone ≡ Some run
    → (n : ℕ) → place_of q < n → n ≤ run.last → gone_in (fact_at m (at_place q n)) ≡ true
known_after m q x p f run at next sound is gone n above to =
    let claims = neighbour m x f run sound is gone in
    let place : place_of x ≡ p = ap place_of at ∙ place_at q p in
    let there : at_place x n ≡ at_place q n = ap (λ y. at_place y n) at ∙ at_same q p n in
    subst (λ y. gone_in (fact_at m y) ≡ true) there (claims.after n (omega arith) to)

module _ (m n : Kept) (k : Object) (w : Fact) (set_to : OneSet m n k w) (gone : is_gone_fact w ≡ true) where
  pub gone_grows : (q : Object) → gone_in (fact_at m q) ≡ true → gone_in (fact_at n q) ≡ true
  gone_grows = by_object (λ q. gone_in (fact_at m q) ≡ true → gone_in (fact_at n q) ≡ true) k (λ _. ap gone_in set_to.here ∙ gone) (λ q apart was. ap gone_in (set_to.other q apart) ∙ was)

  -- with one object more, a whole run is gone
  pub covered_set : (a b : ℕ) → ((x : ℕ) → a ≤ x → x < place_of k → gone_in (fact_at m (at_place k x)) ≡ true) → ((x : ℕ) → place_of k < x → x ≤ b → gone_in (fact_at m (at_place k x)) ≡ true)
      → (x : ℕ) → a ≤ x → x ≤ b → gone_in (fact_at n (at_place k x)) ≡ true
  covered_set a b before after x from to =
      by_ranked _ _ _ (nat_cmp x (place_of k)) (ranked x (place_of k) (nat_cmp x (place_of k)) refl)
      (λ _ below. gone_grows (at_place k x) (before x from below))
      (λ _ same. ap (λ y. gone_in (fact_at n (at_place k y))) same ∙ ap (λ y. gone_in (fact_at n y)) (at_itself k) ∙ ap gone_in set_to.here ∙ gone)
      (λ _ above. gone_grows (at_place k x) (after x above to))

  -- an object that knows a run which is gone
  pub sound_run : (run : Run) → w.gone ≡ Some run → IsSound m → ((x : ℕ) → run.first ≤ x → x ≤ run.last → gone_in (fact_at n (at_place k x)) ≡ true)
      → run.first ≤ place_of k → place_of k ≤ run.last → IsSound n
  sound_run run is sound covered low high =
      let all : Claims n k run = record { before = λ x from to. covered x from (omega arith); after = λ x from to. covered x (omega arith) to } in
      sound_set m n k w set_to sound (λ _. gone) (λ r knows. subst (Claims n k) (let e : Some run ≡ Some r = sym is ∙ knows in cc) all)

-- of what is seen alike, the numbers and what is gone are alike
number_seen : (a : Option Fact) → option_map (λ f. f.number) a ≡ option_map (λ s. s.0) (seen_in a)
number_seen None = refl
number_seen (Some f) = refl

abbrev flag_of : Option (ℕ × Bool) → Bool
flag_of None = false
flag_of (Some s) = s.1

gone_seen : (a : Option Fact) → gone_in a ≡ flag_of (seen_in a)
gone_seen None = refl
gone_seen (Some f) = refl

now_number : (s : Option (ℕ × Bool)) → option_map (λ s. s.0) (gone_now s) ≡ option_map (λ s. s.0) s
now_number None = refl
now_number (Some s) = refl

now_gone : (b : Option Fact) → is_some b ≡ true → flag_of (gone_now (seen_in b)) ≡ true
now_gone None there = cc
now_gone (Some f) there = refl

pub same_gone : (a b : Option Fact) → seen_in a ≡ seen_in b → gone_in a ≡ gone_in b
same_gone a b same = gone_seen a ∙ ap flag_of same ∙ sym (gone_seen b)

pub same_number : (a b : Option Fact) → seen_in a ≡ seen_in b → option_map (λ f. f.number) a ≡ option_map (λ f. f.number) b
same_number a b same = number_seen a ∙ ap (option_map (λ s. s.0)) same ∙ sym (number_seen b)

module _ (m n : Kept) (k : Object) (others : (q : Object) → same_object q k ≡ false → seen_in (fact_at n q) ≡ seen_in (fact_at m q))
    (here : seen_in (fact_at n k) ≡ gone_now (seen_in (fact_at m k))) where
  pub numbers_marked : numbers_of n.entries ≡ numbers_of m.entries
  numbers_marked = map.same_map objects_total exact_objects _ _ (λ q.
      get-numbers_of n q
      ∙ by_object (λ q. option_map (λ f. f.number) (fact_at n q) ≡ option_map (λ f. f.number) (fact_at m q)) k
      (number_seen (fact_at n k) ∙ ap (option_map (λ s. s.0)) here ∙ now_number (seen_in (fact_at m k)) ∙ sym (number_seen (fact_at m k)))
      (λ q apart. same_number _ _ (others q apart)) q
      ∙ sym (get-numbers_of m q))

  pub gone_marked : is_some (fact_at m k) ≡ true → (q : Object) → set.contains (gone_of n.entries) q ≡ (set.contains (gone_of m.entries) q || same_object q k)
  gone_marked there q =
      contains-gone_of n q
      ∙ by_object (λ q. gone_in (fact_at n q) ≡ (gone_in (fact_at m q) || same_object q k)) k
      (gone_seen (fact_at n k) ∙ ap flag_of here ∙ now_gone (fact_at m k) there ∙ sym (or_true (gone_in (fact_at m k))) ∙ ap (λ b. gone_in (fact_at m k) || b) (sym (same_object-self k)))
      (λ q apart. same_gone _ _ (others q apart) ∙ sym (or_false (gone_in (fact_at m q))) ∙ ap (λ b. gone_in (fact_at m q) || b) (sym apart)) q
      ∙ ap (λ b. b || same_object q k) (sym (contains-gone_of m q))

-- what the tree says of being gone is what is seen
pub gone_seen_at : (m : Kept) (q : Object) → gone_in (fact_at m q) ≡ true → set.contains (gone_of m.entries) q ≡ true
gone_seen_at m q gone = contains-gone_of m q ∙ gone
