-- What the loops over containers and objects keep.
use Rattle.std.proofs.Common.{◌≡◌, refl, sym, ◌∙◌, ap, ℕ, ◌+◌, ◌<◌, ◌≤◌, zero, suc, List, [], ◌∷◌, take, length, Bool, true, false, ◌||◌, get_or, arith}
use Rattle.std.specs.List.{IsDistinct, AllByRecursion}
use Rattle.std.specs.Ordering.{eq_by_cmp}
use Rattle.std.proofs.lemmas.Cmp.{eq_by_cmp_equiv}
use Rattle.ss_base.specs.declared.object.Object.{Object}
use Rattle.ss_base.specs.declared.object.Object.TheVariants.{Container, Manifest}
use Rattle.ss_base.specs.declared.ids.ContainerId.{ContainerId}
use Rattle.ss_base.specs.declared.ids.ManifestId.{ManifestId}
use Rattle.ss_base.specs.Ids.{same_object, has_object}
use Rattle.ss_base.specs.Order.{object_cmp}
use Rattle.pins_counts.specs.Counts.{Counted, number, is_ready, is_gone, one_if, containers}
use Rattle.ss_base.proofs.IdLaws.{same_object-self}
use Rattle.ss_base.proofs.OrderLaws.{objects_total, objects_tied}
use Rattle.pins_counts.proofs.FactLaws.{by_object}
use Rattle.std.proofs.lemmas.List.{take_more, take_all, map-append}
use Rattle.std.proofs.lemmas.List.Folds.{list_any-append}
use Rattle.std.proofs.lemmas.Map.Keys.{IsDistinct-head, IsDistinct-tail}

-- these objects have room beside what was ready, and no number has changed
pub record WithRoom (objects : List Object) (old new : Counted) : Type 0 where
  pub ready : (q : Object) → is_ready new q ≡ (has_object q objects || is_ready old q)
  pub numbers : (q : Object) → number new q ≡ number old q
  pub rest : new ≡ record old { numbers = new.numbers }

-- the numbers of the second are those of the first and one for each of these objects
pub record Changed (objects : List Object) (less more : Counted) : Type 0 where
  pub numbers : (q : Object) → number more q ≡ number less q + one_if (has_object q objects)
  pub ready : (q : Object) → is_ready more q ≡ is_ready less q
  pub rest : more ≡ record less { numbers = more.numbers }

-- these objects are gone beside what was
pub record Marked (objects : List Object) (old new : Counted) : Type 0 where
  pub gone : (q : Object) → is_gone new q ≡ (is_gone old q || has_object q objects)
  pub rest : new ≡ record old { gone = new.gone }

all_at : (P : Object → Type 0) (uses : List ContainerId) (i : ℕ) (d : ContainerId) → AllByRecursion P (containers uses) → i < length uses → P (Container (get_or uses i d))
all_at P [] i d all below = absurd (omega arith)
all_at P (x ∷ xs) zero d all below = all.0
all_at P (x ∷ xs) (suc i) d all below = all_at P xs i d all.1 (omega arith)

-- of distinct containers, one is not among those before it
pub fresh_use : (uses : List ContainerId) (i : ℕ) (d : ContainerId) → IsDistinct (eq_by_cmp object_cmp) (containers uses) → i < length uses → has_object (Container (get_or uses i d)) (containers (take i uses)) ≡ false
fresh_use [] i d distinct below = absurd (omega arith)
fresh_use (x ∷ xs) zero d distinct below = refl
fresh_use (x ∷ xs) (suc i) d distinct below =
    let y = Container (get_or xs i d) in
    let apart = all_at (λ y. eq_by_cmp object_cmp (Container x) y ≡ false) xs i d (IsDistinct-head _ _ _ distinct) (omega arith) in
    ap (λ b. b || has_object y (containers (take i xs))) (sym (objects_tied y (Container x)) ∙ (eq_by_cmp_equiv objects_total).symm y (Container x) ∙ apart)
    ∙ fresh_use xs i d (IsDistinct-tail _ _ _ distinct) (omega arith)

among_one : (b : Bool) → (b || false) ≡ b
among_one true = refl
among_one false = refl

-- one container more
among_more : (q : Object) (uses : List ContainerId) (i : ℕ) (d : ContainerId) → i < length uses
    → has_object q (containers (take (i + 1) uses)) ≡ (has_object q (containers (take i uses)) || same_object q (Container (get_or uses i d)))
among_more q uses i d below =
    ap (λ ids. has_object q (containers ids)) (take_more uses i d below)
    ∙ ap (has_object q) (map-append (λ id. Container id) (take i uses) (get_or uses i d ∷ []))
    ∙ list_any-append (same_object q) (containers (take i uses)) (Container (get_or uses i d) ∷ [])
    ∙ ap (λ b. has_object q (containers (take i uses)) || b) (among_one (same_object q (Container (get_or uses i d))))

no_more : (n : ℕ) → n ≡ n + 0
no_more n = omega arith

one_more : (uses : List ContainerId) (i : ℕ) (d : ContainerId) → IsDistinct (eq_by_cmp object_cmp) (containers uses) → i < length uses
    → (q : Object) → one_if (has_object q (containers (take (i + 1) uses))) ≡ one_if (has_object q (containers (take i uses))) + one_if (same_object q (Container (get_or uses i d)))
one_more uses i d distinct below =
    let k = Container (get_or uses i d) in
    let before = containers (take i uses) in
    let fresh = fresh_use uses i d distinct below in
    by_object (λ q. one_if (has_object q (containers (take (i + 1) uses))) ≡ one_if (has_object q before) + one_if (same_object q k)) k
    (ap one_if (among_more k uses i d below) ∙ (λ j. one_if (fresh j || same_object-self k j)) ∙ (λ j. one_if (sym fresh j) + one_if (sym (same_object-self k) j)))
    (λ q apart. ap one_if (among_more q uses i d below) ∙ ap (λ b. one_if (has_object q before || b)) apart ∙ ap one_if (among_one (has_object q before))
    ∙ no_more (one_if (has_object q before)) ∙ ap (λ b. one_if (has_object q before) + one_if b) (sym apart))

sum_right : (a b c : ℕ) → (a + b) + c ≡ a + (b + c)
sum_right a b c = omega arith

sum_turned : (a b c : ℕ) → (a + c) + b ≡ a + (b + c)
sum_turned a b c = omega arith

module _ (uses : List ContainerId) (i : ℕ) (d : ContainerId) (distinct : IsDistinct (eq_by_cmp object_cmp) (containers uses)) (below : i < length uses) where
  -- one use more is added
  pub added_step : (old mid new : Counted) → Changed (containers (take i uses)) old mid
      → ((q : Object) → number new q ≡ number mid q + one_if (same_object q (Container (get_or uses i d)))) → ((q : Object) → is_ready new q ≡ is_ready mid q)
      → new ≡ record mid { numbers = new.numbers } → Changed (containers (take (i + 1) uses)) old new
  added_step old mid new so numbers ready rest = record {
    numbers = λ q.
        numbers q ∙ ap (λ n. n + one_if (same_object q (Container (get_or uses i d)))) (so.numbers q)
        ∙ sum_right (number old q) _ _ ∙ ap (λ n. number old q + n) (sym (one_more uses i d distinct below q));
    ready = λ q. ready q ∙ so.ready q;
    rest = rest ∙ (λ j. record (so.rest j) { numbers = new.numbers });
  }

  -- one use more is taken
  pub taken_step : (old mid new : Counted) → Changed (containers (take i uses)) mid old
      → ((q : Object) → number mid q ≡ number new q + one_if (same_object q (Container (get_or uses i d)))) → ((q : Object) → is_ready new q ≡ is_ready mid q)
      → new ≡ record mid { numbers = new.numbers } → Changed (containers (take (i + 1) uses)) new old
  taken_step old mid new so numbers ready rest = record {
    numbers = λ q.
        so.numbers q ∙ ap (λ n. n + one_if (has_object q (containers (take i uses)))) (numbers q)
        ∙ sum_turned (number new q) _ _ ∙ ap (λ n. number new q + n) (sym (one_more uses i d distinct below q));
    ready = λ q. so.ready q ∙ sym (ready q);
    rest = so.rest ∙ (λ j. record (sym rest j) { numbers = old.numbers });
  }

  -- the number of the next container is as at first
  pub number_unchanged : (less more : Counted) → Changed (containers (take i uses)) less more → number more (Container (get_or uses i d)) ≡ number less (Container (get_or uses i d))
  number_unchanged less more so =
      so.numbers _ ∙ ap (λ b. number less (Container (get_or uses i d)) + one_if b) (fresh_use uses i d distinct below) ∙ sym (no_more _)

first_or : (a h r : Bool) → (a || h) ≡ true → (a || (h || r)) ≡ true
first_or true h r is = refl
first_or false true r is = refl
first_or false false r is = absurd (cc)

-- once there is room for each of the containers and for the manifest, all of these are ready
pub all_ready : (id : ManifestId) (uses : List ContainerId) (i : ℕ) (old mid new : Counted) → length uses ≤ i → WithRoom (containers (take i uses)) old mid
    → ((q : Object) → is_ready new q ≡ (same_object q (Manifest id) || is_ready mid q)) → (q : Object) → has_object q (Manifest id ∷ containers uses) ≡ true → is_ready new q ≡ true
all_ready id uses i old mid new whole so ready q is =
    ready q
    ∙ ap (λ b. same_object q (Manifest id) || b) (so.ready q)
    ∙ ap (λ ids. same_object q (Manifest id) || (has_object q (containers ids) || is_ready old q)) (take_all i uses whole)
    ∙ first_or (same_object q (Manifest id)) (has_object q (containers uses)) (is_ready old q) is

-- one object is distinct
pub distinct_one : (q : Object) → IsDistinct (eq_by_cmp object_cmp) (q ∷ [])
unfolding IsDistinct
distinct_one q = (tt, tt)
