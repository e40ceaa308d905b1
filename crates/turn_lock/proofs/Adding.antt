-- An entry is added to the journal, or none.
use Rattle.std.proofs.Common.{◌≡◌, ◌≢◌, ℕ, ◌+◌, ◌%◌, ◌^◌, ◌<◌, ◌≤◌, true, List, [], ◌∷◌, length, get_or, set, refl, sym, ap, ◌∙◌, subst, inl, inr, arith, length-set, Some}
use Rattle.std.specs.List.{AllByRecursion}
use mathlib.Core.Option.{none}
use Rattle.atomic_table.specs.Table.{step, keeps, Allows}
use Rattle.journal_entry.specs.declared.entry.Entry.{Entry}
use Rattle.turn_lock.specs.declared.view.Known.{Known}
use Rattle.turn_lock.specs.declared.view.View.{View}
use Rattle.turn_lock.specs.Seen.{has_number, IsTurnOf}
use Rattle.turn_lock.specs.Rule.{Course, IsSeat, IsKnown, Kept, word, is_holder}
use Rattle.turn_lock.specs.Steps.{Adds, seeing}
use Rattle.turn_lock.proofs.Lists.{all_map, all_append}
use Rattle.turn_lock.proofs.Knowing.{word_more, seats_set, place_away, knows_all, not_own, grow, holder_one}

abbrev after : Course → List Entry → Course
after c journal = record c { journal = journal; ended = c.ended + 1 }

other_adds : (c : Course) (id i n : ℕ) (journal : List Entry) (u : View) → IsSeat c i u → c.owner n ≡ id → is_holder c.holder id ≡ true → i ≢ id → c.home.first ≤ n → IsTurnOf n c.journal journal → IsSeat (after c journal) i u
other_adds c id i n journal u is own holds ne low turn = record {
  home = is.home;
  known = grow c.owner c.home.first c.next c.journal journal i n u.known is.known turn (not_own c.owner c.home.first c.next c.journal i id n u.known is.known own ne) low;
  old = all_map (IsKnown c.owner c.home.first c.next c.journal i) (IsKnown c.owner c.home.first c.next journal i) (λ (k : Known) known. grow c.owner c.home.first c.next c.journal journal i n k known turn (not_own c.owner c.home.first c.next c.journal i id n k known own ne) low) u.old is.old;
  ticket = is.ticket;
  line = is.line;
  inside = is.inside;
  entered = λ e. absurd (ne (holder_one c.holder i id (sym is.inside ∙ e) holds));
  next = is.next;
}

own_adds : (c : Course) (id : ℕ) (journal : List Entry) (v : View) → IsSeat c id v → v.inside ≡ true → v.old ≡ [] → IsSeat (after c journal) id (seeing journal v)
own_adds c id journal v mine inside none_old = record {
  home = mine.home;
  known = knows_all c.owner c.home.first c.next journal id v.known journal mine.known.owned refl;
  old = subst (AllByRecursion (IsKnown c.owner c.home.first c.next journal id)) (sym none_old) tt;
  ticket = mine.ticket;
  line = mine.line;
  inside = mine.inside;
  entered = λ e. ((mine.entered inside).0, refl);
  next = mine.next;
}

authors_after : (next n : ℕ) (before later : List Entry) → IsTurnOf n before later → n < next → AllByRecursion (λ (e : Entry). e.author < next) before → AllByRecursion (λ (e : Entry). e.author < next) later
authors_after next n before later (inl same) low all = subst (AllByRecursion (λ (e : Entry). e.author < next)) (sym same) all
authors_after next n before later (inr more) low all =
    subst (AllByRecursion (λ (e : Entry). e.author < next)) (sym more.1)
    (all_append (λ (e : Entry). e.author < next) before (more.0 ∷ []) all (subst (λ z. z < next) (sym more.2) low, tt))

module _ {T : Type 0} (entries : T → List Entry) (base : T → List ℕ) where
  pub adds : (slots id : ℕ) (v : View) (x : T) (n : ℕ) → v.inside ≡ true → v.old ≡ [] → has_number v.known.numbers n ≡ true → IsTurnOf n v.known.seen (entries x)
      → Allows (Kept entries base) slots id (v, (0, Some x) ∷ []) 2 (λ y. (y + 1) % 2 ^ 64) (Adds entries base (step slots 2 1 0 none) (v, (0, Some x) ∷ []))
  adds slots id v x n inside none_old has turn s k _ at _ =
      let c : Course = k.course in
      let journal : List Entry = entries x in
      let w : View = seeing journal v in
      let mine = k.seats id v at in
      let own = mine.known.owned n has in
      let holds : is_holder c.holder id ≡ true = sym mine.inside ∙ inside in
      let grows : IsTurnOf n c.journal journal = subst (λ z. IsTurnOf n z journal) (mine.entered inside).1 turn in (
        w,
        keeps,
        tt,
        record {
          course = after c journal;
          words = ap (λ ws. set ws 2 ((get_or ws 2 0 + 1) % 2 ^ 64)) k.words ∙ ap (λ z. word (c.served + length c.line) ∷ word c.served ∷ z ∷ []) (word_more c.ended);
          seats = seats_set (after c journal) s.views id w (λ i u ne e. other_adds c id i n journal u (k.seats i u e) own.0 holds ne own.1 grows) (own_adds c id journal v mine inside none_old);
          place = place_away entries base c.holder c.journal journal c.home.base s.views (set s.views id w) s.homes id holds (omega (arith, length-set s.views id w)) k.place;
          authors = authors_after c.next n c.journal journal grows own.2 k.authors;
          bounds = k.bounds;
          line = k.line;
          opener = omega (arith, k.opener, length-set s.views id w);
        },
        refl,
      )
