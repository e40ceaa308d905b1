-- A turn ends, and the state is given back.
use Rattle.std.proofs.Common.{◌≡◌, ◌≢◌, ◌⊎◌, ℕ, zero, suc, ◌+◌, ◌-◌, ◌%◌, ◌^◌, ◌<◌, true, false, List, [], ◌∷◌, length, get_or, set, refl, sym, ap, ◌∙◌, subst, inl, inr, ⊎_elim, arith, length-set, Some, None}
use Rattle.std.proofs.lemmas.Bool.{both_ways, false_from_ne_true}
use mathlib.Core.Option.{some, none, some-injective, some-ne-none}
use lib.ListN.{get_elem?}
use Rattle.atomic_table.specs.Table.{step, gives, Allows}
use Rattle.journal_entry.specs.declared.entry.Entry.{Entry}
use Rattle.turn_lock.specs.declared.view.View.{View}
use Rattle.turn_lock.specs.Passes.{joined_of}
use Rattle.turn_lock.specs.Rule.{Course, IsSeat, IsLine, Kept, word, is_holder}
use Rattle.turn_lock.specs.Steps.{Serves}
use Rattle.turn_lock.proofs.Knowing.{none_some, some_same, word_more, seats_set, homes_away, holder_one}

front : (line : List ℕ) (n : ℕ) → get_elem? line 0 ≡ some n → line ≡ n ∷ joined_of line
front [] n e = absurd (some-ne-none n (sym e))
front (m ∷ ms) n e = ap (λ z. z ∷ ms) (some-injective m n e)

-- a place in the line, one further on
further : (n : ℕ) (tail : List ℕ) (d m : ℕ) → get_elem? (n ∷ tail) d ≡ some m → ((d ≡ 0) × (n ≡ m)) ⊎ ((0 < d) × (get_elem? tail (d - 1) ≡ some m))
further n tail zero m e = inl (refl, some-injective n m e)
further n tail (suc d) m e = inr (omega arith, subst (λ z. get_elem? tail z ≡ some m) (omega arith) e)

abbrev shorter : Course → Course
shorter c = record c { line = joined_of c.line; served = c.served + 1; holder = None }

other_serves : (c : Course) (id i n : ℕ) (u : View) → IsSeat c i u → c.owner n ≡ id → is_holder c.holder id ≡ true → c.line ≡ n ∷ joined_of c.line → i ≢ id → IsSeat (shorter c) i u
other_serves c id i n u is own holds line ne =
    let out : u.inside ≡ true → ⊥ = λ e. ne (holder_one c.holder i id (sym is.inside ∙ e) holds) in
    record {
      home = is.home;
      known = is.known;
      old = is.old;
      ticket = λ t e.
          let k = is.ticket t e in
          ⊎_elim
          (λ here. absurd (ne (sym (is.known.owned k.0 k.1).0 ∙ (ap c.owner (sym here.1) ∙ own))))
          (λ later.
          let le = k.2 in
          let d = later.0 in
          let at : get_elem? (joined_of c.line) (t - (c.served + 1)) ≡ some k.0 = subst (λ z. get_elem? (joined_of c.line) z ≡ some k.0) (omega arith) later.1 in
          (k.0, k.1, omega arith, at))
          (further n (joined_of c.line) (t - c.served) k.0 (sym (ap (λ l. get_elem? l (t - c.served)) line) ∙ k.3));
      line = λ m place h e.
          let whole : get_elem? c.line (suc place) ≡ some m = ap (λ l. get_elem? l (suc place)) line ∙ e in
          let same : c.served + suc place ≡ c.served + 1 + place = omega arith in
          is.line m (suc place) h whole ∙ ap Some same;
      inside = false_from_ne_true u.inside out;
      entered = λ e. absurd (out e);
      next = is.next;
    }

own_serves : (c : Course) (id n : ℕ) (v : View) → IsSeat c id v → v.ticket ≡ Some c.served → c.line ≡ n ∷ joined_of c.line → IsSeat (shorter c) id (record v { ticket = None; inside = false })
own_serves c id n v mine ticket line = record {
  home = mine.home;
  known = mine.known;
  old = mine.old;
  ticket = λ t e. absurd (none_some t None refl e);
  line = λ m place h e.
      let whole : get_elem? c.line (suc place) ≡ some m = ap (λ l. get_elem? l (suc place)) line ∙ e in
      let same : c.served ≡ c.served + suc place = some_same _ _ (sym ticket ∙ mine.line m (suc place) h whole) in
      absurd (omega arith);
  inside = refl;
  entered = λ e. absurd (both_ways false refl e);
  next = mine.next;
}

line_shorter : (next : ℕ) (line : List ℕ) (n : ℕ) → line ≡ n ∷ joined_of line → IsLine next line → IsLine next (joined_of line)
line_shorter next line n is k =
    let at : (place m : ℕ) → get_elem? (joined_of line) place ≡ some m → get_elem? line (suc place) ≡ some m = λ place m e. ap (λ l. get_elem? l (suc place)) is ∙ e in
    record {
      given = λ place m e. k.given (suc place) m (at place m e);
      once = λ p q m e f. let same = k.once (suc p) (suc q) m (at p m e) (at q m f) in omega arith;
    }

module _ {T : Type 0} (entries : T → List Entry) (base : T → List ℕ) where
  pub serves : (slots id : ℕ) (v : View) (x : T) → v.inside ≡ true → entries x ≡ v.known.seen → ((c : Course) → IsSeat c id v → base x ≡ c.home.base)
      → Allows (Kept entries base) slots id (v, (0, Some x) ∷ []) 1 (λ y. (y + 1) % 2 ^ 64) (Serves (step slots 1 1 0 none) (v, (0, Some x) ∷ []))
  serves slots id v x inside list has_base s k _ at _ =
      let c : Course = k.course in
      let w : View = record v { ticket = None; inside = false } in
      let mine = k.seats id v at in
      let enter = mine.entered inside in
      let t = mine.ticket c.served enter.0 in
      let n : ℕ = t.0 in
      let own = (mine.known.owned n t.1).0 in
      let holds : is_holder c.holder id ≡ true = sym mine.inside ∙ inside in
      let zero_is : c.served - c.served ≡ 0 = omega arith in
      let line : c.line ≡ n ∷ joined_of c.line = front c.line n (subst (λ z. get_elem? c.line z ≡ some n) zero_is t.3) in
      let tail : List ℕ = joined_of c.line in
      let long : length c.line ≡ suc (length tail) = ap length line in
      let same : c.served + length c.line ≡ c.served + 1 + length tail = omega arith in (
        w,
        gives,
        tt,
        record {
          course = shorter c;
          words = ap (λ ws. set ws 1 ((get_or ws 1 0 + 1) % 2 ^ 64)) k.words
              ∙ (ap (λ z. word (c.served + length c.line) ∷ z ∷ word c.ended ∷ []) (word_more c.served)
              ∙ ap (λ z. word z ∷ word (c.served + 1) ∷ word c.ended ∷ []) same);
          seats = seats_set (shorter c) s.views id w (λ i u ne e. other_serves c id i n u (k.seats i u e) own holds line ne) (own_serves c id n v mine enter.0 line);
          place = (x, ap (λ hs. set hs 0 (some (Some x))) (homes_away entries base c.holder c.journal c.home.base s.views s.homes id holds k.place), list ∙ enter.1, has_base c mine);
          authors = k.authors;
          bounds = k.bounds;
          line = line_shorter c.next c.line n line k.line;
          opener = omega (arith, k.opener, length-set s.views id w);
        },
        refl,
      )
