-- Two seats become one.
use Rattle.std.proofs.Common.{◌≡◌, ◌≢◌, ◌⊎◌, ℕ, ◌+◌, ◌<◌, eqb, cond, true, false, List, [], ◌∷◌, ◌++◌, length, set, refl, sym, ap, ◌∙◌, subst, inl, inr, ⊎_elim, arith, length-set, eq-eqb, ne_eqb, Option, Some, None}
use Rattle.std.specs.Prelude.{if◌then◌else◌, nat_lt}
use Rattle.std.specs.List.{AllByRecursion}
use Rattle.std.proofs.lemmas.Bool.{both_ways, false_from_ne_true, cases_Bool}
use Rattle.std.proofs.lemmas.Bool.Decides.{nat_tests}
use mathlib.Core.Logic.{dite}
use native.Mathlib.Decide.{ℕ_discrete}
use mathlib.Core.Option.{some}
use lib.ListN.{get_elem?}
use Rattle.atomic_table.specs.Table.{Joins}
use Rattle.atomic_table.proofs.Lists.{at_set, set_else}
use Rattle.journal_entry.specs.declared.entry.Entry.{Entry}
use Rattle.turn_lock.specs.declared.view.Known.{Known}
use Rattle.turn_lock.specs.declared.view.View.{View}
use Rattle.turn_lock.specs.Seen.{has_number, longer}
use Rattle.turn_lock.specs.Passes.{nobody, next_of}
use Rattle.turn_lock.specs.Rule.{Course, IsSeat, IsKnown, IsUnseen, Behind, Kept, is_numbered, next_at}
use Rattle.turn_lock.specs.Steps.{both}
use Rattle.turn_lock.proofs.Lists.{has_append, has_none, all_map, all_and, all_right, between, within_list}
use Rattle.turn_lock.proofs.Knowing.{none_some, seats_set, place_views, next_here, next_none, renumber}

-- the seat id takes the numbers over
abbrev owner_of : (ℕ → ℕ) → List ℕ → ℕ → ℕ → ℕ
owner_of owner numbers id n = cond (has_number numbers n) id (owner n)

owner_taken : (owner : ℕ → ℕ) (numbers : List ℕ) (id n : ℕ) → has_number numbers n ≡ true → owner_of owner numbers id n ≡ id
owner_taken owner numbers id n has = ap (λ b. cond b id (owner n)) has

owner_kept : (owner : ℕ → ℕ) (numbers : List ℕ) (id n : ℕ) → has_number numbers n ≡ false → owner_of owner numbers id n ≡ owner n
owner_kept owner numbers id n has = ap (λ b. cond b id (owner n)) has

owner_own : (owner : ℕ → ℕ) (numbers : List ℕ) (id n : ℕ) → owner n ≡ id → owner_of owner numbers id n ≡ id
owner_own owner numbers id n own = ⊎_elim (owner_taken owner numbers id n) (λ no. owner_kept owner numbers id n no ∙ own) (cases_Bool (has_number numbers n))

abbrev opener_of : ℕ → ℕ → ℕ → ℕ
opener_of opener other id = cond (eqb opener other) id opener

abbrev merged : Course → ℕ → ℕ → List ℕ → Course
merged c id other numbers = record c { owner = owner_of c.owner numbers id; opener = opener_of c.opener other id }

opener_moved : (opener other id : ℕ) → opener ≡ other → opener_of opener other id ≡ id
opener_moved opener other id is = ap (λ b. cond b id opener) (eq-eqb opener other is)

opener_stays : (opener other id : ℕ) → opener ≢ other → opener_of opener other id ≡ opener
opener_stays opener other id not = ap (λ b. cond b id opener) (ne_eqb opener other not)

-- a seat that is neither of the two
next_elsewhere : (opener next other id i : ℕ) → i ≢ id → i ≢ other → next_at opener next i ≡ next_at (opener_of opener other id) next i
next_elsewhere opener next other id i a b = dite (ℕ_discrete opener other)
    (λ is. next_none opener next i (λ e. b (sym e ∙ is)) ∙ sym (next_none (opener_of opener other id) next i (λ e. a (sym e ∙ opener_moved opener other id is))))
    (λ not. ap (λ o. next_at o next i) (sym (opener_stays opener other id not)))

next_joined : (opener next other id : ℕ) (a b : Option ℕ) → a ≡ next_at opener next id → b ≡ next_at opener next other → id ≢ other → next_of a b ≡ next_at (opener_of opener other id) next id
next_joined opener next other id a b mine his ne = dite (ℕ_discrete opener other)
    (λ is.
    let none_here : a ≡ None = mine ∙ next_none opener next id (λ e. ne (sym e ∙ is)) in
    ap (λ z. next_of z b) none_here ∙ (his ∙ (next_here opener next other is ∙ sym (next_here (opener_of opener other id) next id (opener_moved opener other id is)))))
    (λ not.
    let none_there : b ≡ None = his ∙ next_none opener next other not in
    ap (λ z. next_of a z) none_there ∙ (alone a ∙ (mine ∙ ap (λ o. next_at o next id) (sym (opener_stays opener other id not)))))
  where
    alone : (a : Option ℕ) → next_of a None ≡ a
    alone None = refl
    alone (Some n) = refl

next_spent : (opener next other id : ℕ) → id ≢ other → None ≡ next_at (opener_of opener other id) next other
next_spent opener next other id ne = dite (ℕ_discrete opener other)
    (λ is. sym (next_none (opener_of opener other id) next other (λ e. ne (sym (opener_moved opener other id is) ∙ e))))
    (λ not. sym (next_none (opener_of opener other id) next other (λ e. not (sym (opener_stays opener other id not) ∙ e))))

other_known : (c : Course) (id other i : ℕ) (w k : Known) → IsKnown c.owner c.home.first c.next c.journal other w → i ≢ other → IsKnown c.owner c.home.first c.next c.journal i k → IsKnown (owner_of c.owner w.numbers id) c.home.first c.next c.journal i k
other_known c id other i w k his ne is = renumber c.owner (owner_of c.owner w.numbers id) c.home.first c.next c.next c.journal i i k is
    (λ n h own low. owner_kept c.owner w.numbers id n (false_from_ne_true (has_number w.numbers n) (λ has. ne (sym own ∙ (his.owned n has).0))) ∙ own) (omega arith)

other_joins : (c : Course) (id other i : ℕ) (w : Known) (u : View) → IsKnown c.owner c.home.first c.next c.journal other w → i ≢ id → i ≢ other → IsSeat c i u → IsSeat (merged c id other w.numbers) i u
other_joins c id other i w u his a b is = record {
  home = is.home;
  known = other_known c id other i w u.known his b is.known;
  old = all_map (IsKnown c.owner c.home.first c.next c.journal i) (IsKnown (owner_of c.owner w.numbers id) c.home.first c.next c.journal i) (λ (k : Known) known. other_known c id other i w k his b known) u.old is.old;
  ticket = is.ticket;
  line = is.line;
  inside = is.inside;
  entered = is.entered;
  next = is.next ∙ next_elsewhere c.opener c.next other id i a b;
}

-- ---- what both know

numbered_append : (xs ys : List ℕ) → is_numbered (xs ++ ys) ≡ true → (is_numbered xs ≡ true) ⊎ (is_numbered ys ≡ true)
numbered_append [] ys e = inr e
numbered_append (x ∷ xs) ys e = inl refl

unseen_both : (first : ℕ) (xs ys : List ℕ) (e : Entry) → IsUnseen first xs e → IsUnseen first ys e → IsUnseen first (xs ++ ys) e
unseen_both first xs ys e a b = record {
  other = has_none xs ys e.author a.other b.other;
  late = λ numbered. ⊎_elim (λ l. a.late l) (λ r. b.late r) (numbered_append xs ys numbered);
}

behind_both : (first : ℕ) (journal : List Entry) (v w : Known) → Behind first journal v → Behind first journal w → Behind first journal record { numbers = v.numbers ++ w.numbers; seen = longer v.seen w.seen }
behind_both first journal v w a b = ⊎_elim
    (λ shorter.
    let m = between v.seen a.0 w.seen b.0 journal a.1 b.1 (grind (arith, nat_tests)) in
    let rest = all_right (IsUnseen first v.numbers) m.0 b.0 (subst (AllByRecursion (IsUnseen first v.numbers)) m.2 a.2) in
    let is : longer v.seen w.seen ≡ w.seen = ap (λ t. if t then w.seen else v.seen) shorter in
    (b.0, ap (λ z. z ++ b.0) is ∙ b.1, all_and (IsUnseen first v.numbers) (IsUnseen first w.numbers) (IsUnseen first (v.numbers ++ w.numbers)) (unseen_both first v.numbers w.numbers) b.0 rest b.2))
    (λ longest.
    let m = between w.seen b.0 v.seen a.0 journal b.1 a.1 (grind (arith, nat_tests)) in
    let rest = all_right (IsUnseen first w.numbers) m.0 a.0 (subst (AllByRecursion (IsUnseen first w.numbers)) m.2 b.2) in
    let is : longer v.seen w.seen ≡ v.seen = ap (λ t. if t then w.seen else v.seen) longest in
    (a.0, ap (λ z. z ++ a.0) is ∙ a.1, all_and (IsUnseen first v.numbers) (IsUnseen first w.numbers) (IsUnseen first (v.numbers ++ w.numbers)) (unseen_both first v.numbers w.numbers) a.0 a.2 rest))
    (cases_Bool (nat_lt (length v.seen) (length w.seen)))

own_joins : (c : Course) (id other : ℕ) (v w : View) → IsSeat c id v → IsSeat c other w → v.ticket ≡ None → w.ticket ≡ None → v.inside ≡ false → id ≢ other → IsSeat (merged c id other w.known.numbers) id (both v w)
own_joins c id other v w mine his waits_not rests out ne =
    let owner : ℕ → ℕ = owner_of c.owner w.known.numbers id in
    record {
      home = mine.home;
      known = record {
        owned = λ n h. ⊎_elim
            (λ l. let o = mine.known.owned n l in (owner_own c.owner w.known.numbers id n o.0, o.1, o.2))
            (λ r. let o = his.known.owned n r in (owner_taken c.owner w.known.numbers id n r, o.1, o.2))
            (has_append v.known.numbers w.known.numbers n h);
        behind = behind_both c.home.first c.journal v.known w.known mine.known.behind his.known.behind;
      };
      old = (
        renumber c.owner owner c.home.first c.next c.next c.journal id id v.known mine.known (λ n h own low. owner_own c.owner w.known.numbers id n own) (omega arith),
        (renumber c.owner owner c.home.first c.next c.next c.journal other id w.known his.known (λ n h own low. owner_taken c.owner w.known.numbers id n h) (omega arith), tt),
      );
      ticket = λ t e. absurd (none_some t v.ticket waits_not e);
      line = λ n place h e. ⊎_elim
          (λ l. mine.line n place l e)
          (λ r. absurd (none_some (c.served + place) w.ticket rests (his.line n place r e)))
          (has_append v.known.numbers w.known.numbers n h);
      inside = mine.inside;
      entered = λ e. absurd (both_ways v.inside out e);
      next = next_joined c.opener c.next other id v.next w.next mine.next his.next ne;
    }

unseen_by_nobody : (first : ℕ) (entries : List Entry) → AllByRecursion (IsUnseen first []) entries
unseen_by_nobody first [] = tt
unseen_by_nobody first (e ∷ es) = (record { other = refl; late = λ no. absurd (both_ways false refl no) }, unseen_by_nobody first es)

spent_seat : (c : Course) (id other : ℕ) (w : View) → IsSeat c other w → w.inside ≡ false → id ≢ other → IsSeat (merged c id other w.known.numbers) other nobody
spent_seat c id other w his out ne = record {
  home = λ h e. absurd (none_some h None refl e);
  known = record {
    owned = λ n h. absurd (both_ways false refl h);
    behind = (c.journal, refl, unseen_by_nobody c.home.first c.journal);
  };
  old = tt;
  ticket = λ t e. absurd (none_some t None refl e);
  line = λ n place h e. absurd (both_ways false refl h);
  inside = sym out ∙ his.inside;
  entered = λ e. absurd (both_ways false refl e);
  next = next_spent c.opener c.next other id ne;
}

opener_below : (opener other id wide : ℕ) → opener < wide → id < wide → opener_of opener other id < wide
opener_below opener other id wide a b = dite (ℕ_discrete opener other)
    (λ is. subst (λ z. z < wide) (sym (opener_moved opener other id is)) b)
    (λ not. subst (λ z. z < wide) (sym (opener_stays opener other id not)) a)

module _ {T : Type 0} (entries : T → List Entry) (base : T → List ℕ) where
  pub merges : (id : ℕ) (v : View) (other : ℕ) (w : View) → v.ticket ≡ None → w.ticket ≡ None → v.inside ≡ false → w.inside ≡ false → Joins (Kept entries base) id v other w (both v w) nobody
  merges id v other w waits_not rests out off s k at ne at_other =
      let c : Course = k.course in
      let mine = k.seats id v at in
      let apart : id ≢ other = λ e. ne (sym e) in
      let his = k.seats other w (sym (set_else s.views id other (both v w) ne) ∙ at_other) in
      let c' : Course = merged c id other w.known.numbers in
      let views : List View = set s.views id (both v w) in
      let wide : length (set views other nobody) ≡ length s.views = length-set views other nobody ∙ length-set s.views id (both v w) in
      record {
        course = c';
        words = k.words;
        seats = seats_set c' views other nobody
            (λ i u not_other e.
            ⊎_elim
            (λ (x : (i ≡ id) × (both v w ≡ u)). subst (λ (y : ℕ × View). IsSeat c' y.0 y.1) (λ j. (sym x.0 j, x.1 j)) (own_joins c id other v w mine his waits_not rests out apart))
            (λ (x : (i ≢ id) × (get_elem? s.views i ≡ some u)). other_joins c id other i w.known u his.known x.0 not_other (k.seats i u x.1))
            (at_set s.views id i (both v w) u e))
            (spent_seat c id other w his off apart);
        place = place_views entries base c.holder c.journal c.home.base s.views (set views other nobody) s.homes (omega arith) k.place;
        authors = k.authors;
        bounds = k.bounds;
        line = k.line;
        opener = subst (λ z. opener_of c.opener other id < z) (sym wide) (opener_below c.opener other id (length s.views) k.opener (within_list s.views id v at));
      }
