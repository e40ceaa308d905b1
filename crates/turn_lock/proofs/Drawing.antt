-- A ticket is drawn.
use Rattle.std.proofs.Common.{◌≡◌, ◌≢◌, ℕ, ◌+◌, ◌-◌, ◌%◌, ◌^◌, ◌<◌, true, false, List, [], ◌∷◌, ◌++◌, length, get_or, set, refl, sym, ap, ◌∙◌, subst, ⊎_elim, arith, length-set, length-append, Option, Some, None}
use Rattle.std.proofs.lemmas.Bool.{both_ways}
use mathlib.Core.Option.{some, none}
use lib.ListN.{get_elem?}
use Rattle.atomic_table.specs.Table.{Me, step, keeps, Allows}
use Rattle.atomic_table.proofs.Lists.{at_longer, at_last}
use Rattle.journal_entry.specs.declared.entry.Entry.{Entry}
use Rattle.turn_lock.specs.declared.view.View.{View}
use Rattle.turn_lock.specs.Seen.{has_number}
use Rattle.turn_lock.specs.Rule.{Course, IsSeat, IsTicket, IsLine, Kept, word}
use Rattle.turn_lock.specs.Steps.{Draws}
use Rattle.turn_lock.proofs.Lists.{at_snoc}
use Rattle.turn_lock.proofs.Knowing.{none_some, some_same, word_more, seats_set, place_views}

abbrev longer_line : Course → ℕ → Course
longer_line c n = record c { line = c.line ++ n ∷ [] }

-- the seat with the number at the end of the line
drawn : (c : Course) (id n : ℕ) (v : View) → IsSeat c id v → v.ticket ≡ None → v.inside ≡ false → has_number v.known.numbers n ≡ true → IsSeat (longer_line c n) id (record v { ticket = Some (c.served + length c.line) })
drawn c id n v mine no_ticket out has = let t : ℕ = c.served + length c.line in record {
  home = mine.home;
  known = mine.known;
  old = mine.old;
  ticket = λ t' e. subst (λ z. IsTicket (longer_line c n) v.known.numbers z) (some_same t t' e) (n, has, omega arith, at_last c.line n (t - c.served) (omega arith));
  line = λ m place h e. ⊎_elim
      (λ old. absurd (none_some (c.served + place) v.ticket no_ticket (mine.line m place h old)))
      (λ new. ap (λ z. Some (c.served + z)) (sym new.0))
      (at_snoc c.line n m place e);
  inside = mine.inside;
  entered = λ e. absurd (both_ways v.inside out e);
  next = mine.next;
}

other_draws : (c : Course) (i id n : ℕ) (u : View) → IsSeat c i u → c.owner n ≡ id → i ≢ id → IsSeat (longer_line c n) i u
other_draws c i id n u is own ne = record {
  home = is.home;
  known = is.known;
  old = is.old;
  ticket = λ t e. let k = is.ticket t e in (k.0, k.1, k.2, at_longer c.line (n ∷ []) (t - c.served) k.0 k.3);
  line = λ m place h e. ⊎_elim
      (λ old. is.line m place h old)
      (λ new. absurd (ne (sym (is.known.owned m h).0 ∙ (ap c.owner (sym new.1) ∙ own))))
      (at_snoc c.line n m place e);
  inside = is.inside;
  entered = is.entered;
  next = is.next;
}

line_longer : (c : Course) (id n : ℕ) (v : View) → IsSeat c id v → v.ticket ≡ None → has_number v.known.numbers n ≡ true → IsLine c.next c.line → IsLine c.next (c.line ++ n ∷ [])
line_longer c id n v mine no_ticket has is =
    let absent : (place : ℕ) → get_elem? c.line place ≡ some n → ⊥ = λ place e. none_some (c.served + place) v.ticket no_ticket (mine.line n place has e) in
    record {
      given = λ place m e. ⊎_elim (λ old. is.given place m old) (λ new. subst (λ z. z < c.next) new.1 (mine.known.owned n has).2) (at_snoc c.line n m place e);
      once = λ p q m e f. ⊎_elim
          (λ a. ⊎_elim (λ b. is.once p q m a b) (λ b. absurd (absent p (a ∙ ap some (sym b.1)))) (at_snoc c.line n m q f))
          (λ a. ⊎_elim (λ b. absurd (absent q (b ∙ ap some (sym a.1)))) (λ b. a.0 ∙ sym b.0) (at_snoc c.line n m q f))
          (at_snoc c.line n m p e);
    }

module _ {T : Type 0} (entries : T → List Entry) (base : T → List ℕ) where
  pub draws : (slots id : ℕ) (me : Me (Option T) View) (n : ℕ) → me.0.ticket ≡ None → me.0.inside ≡ false → has_number me.0.known.numbers n ≡ true
      → Allows (Kept entries base) slots id me 0 (λ x. (x + 1) % 2 ^ 64) (Draws (step slots 0 1 0 none) me)
  draws slots id me n no_ticket out has s k _ at _ =
      let c : Course = k.course in
      let t : ℕ = c.served + length c.line in
      let w : View = record me.0 { ticket = Some t } in
      let mine = k.seats id me.0 at in
      let own = (mine.known.owned n has).0 in
      let last : word (t + 1) ≡ word (c.served + length (c.line ++ n ∷ [])) = ap word (omega (arith, length-append c.line (n ∷ []))) in (
        w,
        keeps,
        tt,
        record {
          course = longer_line c n;
          words = ap (λ ws. set ws 0 ((get_or ws 0 0 + 1) % 2 ^ 64)) k.words ∙ ap (λ x. x ∷ word c.served ∷ word c.ended ∷ []) (word_more t ∙ last);
          seats = seats_set (longer_line c n) s.views id w (λ i u ne e. other_draws c i id n u (k.seats i u e) own ne) (drawn c id n me.0 mine no_ticket out has);
          place = place_views entries base c.holder c.journal c.home.base s.views (set s.views id w) s.homes (omega (arith, length-set s.views id w)) k.place;
          authors = k.authors;
          bounds = k.bounds;
          line = line_longer c id n me.0 mine no_ticket has k.line;
          opener = omega (arith, k.opener, length-set s.views id w);
        },
        (t, ap (λ ws. get_or ws 0 0) k.words, refl),
      )
