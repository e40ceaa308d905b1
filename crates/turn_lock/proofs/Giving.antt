-- The opener gives out a number, or a pass a copy of what it has seen.
use Rattle.std.proofs.Common.{◌≡◌, ◌≢◌, ℕ, suc, ◌+◌, ◌^◌, ◌<◌, ◌≤◌, eqb, cond, true, false, List, [], ◌∷◌, ◌++◌, length, set, refl, sym, ap, ◌∙◌, subst, ⊎_elim, arith, length-set, length-append, eq-eqb, ne_eqb, Some, None}
use Rattle.std.specs.List.{AllByRecursion}
use Rattle.std.proofs.lemmas.Bool.{both_ways, false_from_ne_true}
use mathlib.Core.Option.{some}
use lib.ListN.{get_elem?}
use Rattle.atomic_table.specs.Table.{Splits}
use Rattle.journal_entry.specs.declared.entry.Entry.{Entry}
use Rattle.turn_lock.specs.declared.view.Known.{Known}
use Rattle.turn_lock.specs.declared.view.View.{View}
use Rattle.turn_lock.specs.Seen.{has_number}
use Rattle.turn_lock.specs.Rule.{Course, IsSeat, IsKnown, IsUnseen, IsLine, Kept, is_numbered, is_holder}
use Rattle.turn_lock.specs.Steps.{gave, given, copy, next_number}
use Rattle.turn_lock.proofs.Lists.{has_one, all_map, all_and, all_right, at_snoc}
use Rattle.turn_lock.proofs.Knowing.{none_some, seats_set, place_views, holder_below, next_is, next_here, next_none, renumber}

abbrev owner_with : (ℕ → ℕ) → ℕ → ℕ → ℕ → ℕ
owner_with owner next seat n = cond (eqb n next) seat (owner n)

owner_old : (owner : ℕ → ℕ) (next seat n : ℕ) → n < next → owner_with owner next seat n ≡ owner n
owner_old owner next seat n low = ap (λ b. cond b seat (owner n)) (ne_eqb n next (λ e. absurd (omega arith)))

owner_new : (owner : ℕ → ℕ) (next seat n : ℕ) → n ≡ next → owner_with owner next seat n ≡ seat
owner_new owner next seat n is = ap (λ b. cond b seat (owner n)) (eq-eqb n next is)

abbrev more : Course → ℕ → Course
more c seat = record c { next = suc c.next; owner = owner_with c.owner c.next seat }

keeps_numbers : (c : Course) (seat i : ℕ) (k : Known) → IsKnown c.owner c.home.first c.next c.journal i k → IsKnown (owner_with c.owner c.next seat) c.home.first (suc c.next) c.journal i k
keeps_numbers c seat i k is = renumber c.owner (owner_with c.owner c.next seat) c.home.first c.next (suc c.next) c.journal i i k is (λ n h own low. owner_old c.owner c.next seat n low ∙ own) (omega arith)

-- a seat that is not the opener's
other_gives : (c : Course) (seat i : ℕ) (u : View) → IsSeat c i u → c.opener ≢ i → IsSeat (more c seat) i u
other_gives c seat i u is not = record {
  home = is.home;
  known = keeps_numbers c seat i u.known is.known;
  old = all_map (IsKnown c.owner c.home.first c.next c.journal i) (IsKnown (owner_with c.owner c.next seat) c.home.first (suc c.next) c.journal i) (λ (k : Known) known. keeps_numbers c seat i k known) u.old is.old;
  ticket = is.ticket;
  line = is.line;
  inside = is.inside;
  entered = is.entered;
  next = is.next ∙ (next_none c.opener c.next i not ∙ sym (next_none c.opener (suc c.next) i not));
}

opener_gives : (c : Course) (seat id : ℕ) (v : View) → IsSeat c id v → c.opener ≡ id → next_number v.next ≡ c.next → IsSeat (more c seat) id (gave v)
opener_gives c seat id v mine opens is = record {
  home = mine.home;
  known = keeps_numbers c seat id v.known mine.known;
  old = all_map (IsKnown c.owner c.home.first c.next c.journal id) (IsKnown (owner_with c.owner c.next seat) c.home.first (suc c.next) c.journal id) (λ (k : Known) known. keeps_numbers c seat id k known) v.old mine.old;
  ticket = mine.ticket;
  line = mine.line;
  inside = mine.inside;
  entered = mine.entered;
  next = ap (λ z. Some (suc z)) is ∙ sym (next_here c.opener (suc c.next) id opens);
}

-- what the seat of the new number need not have seen
unseen_by_next : (first next n : ℕ) (numbers : List ℕ) → is_numbered numbers ≡ true → n ≡ next → (e : Entry) → IsUnseen first numbers e → e.author < next → IsUnseen first (n ∷ []) e
unseen_by_next first next n numbers numbered is e unseen low = record {
  other = false_from_ne_true (has_number (n ∷ []) e.author) (λ h. let same = has_one n e.author h in absurd (omega arith));
  late = λ _. unseen.late numbered;
}

new_seat : (c : Course) (seat id : ℕ) (v : View) → IsSeat c id v → is_numbered v.known.numbers ≡ true → next_number v.next ≡ c.next → c.home.first ≤ c.next → IsLine c.next c.line
    → AllByRecursion (λ (e : Entry). e.author < c.next) c.journal → is_holder c.holder seat ≡ false → c.opener ≢ seat → IsSeat (more c seat) seat (given v)
new_seat c seat id v mine numbered is low line authors out not =
    let n : ℕ = next_number v.next in
    let b = mine.known.behind in
    let rest : AllByRecursion (λ (e : Entry). e.author < c.next) b.0 = all_right (λ (e : Entry). e.author < c.next) v.known.seen b.0 (subst (AllByRecursion (λ (e : Entry). e.author < c.next)) (sym b.1) authors) in
    record {
      home = mine.home;
      known = record {
        owned = λ m h. let one = has_one n m h in (owner_new c.owner c.next seat m (sym one ∙ is), omega arith, omega arith);
        behind = (b.0, b.1, all_and (IsUnseen c.home.first v.known.numbers) (λ (e : Entry). e.author < c.next) (IsUnseen c.home.first (n ∷ [])) (unseen_by_next c.home.first c.next n v.known.numbers numbered is) b.0 b.2 rest);
      };
      old = tt;
      ticket = λ t e. absurd (none_some t None refl e);
      line = λ m place h e. let one = has_one n m h in let below = line.given place m e in absurd (omega arith);
      inside = sym out;
      entered = λ e. absurd (both_ways false refl e);
      next = sym (next_none c.opener (suc c.next) seat not);
    }

copied : (c : Course) (seat id : ℕ) (v : View) → IsSeat c id v → is_holder c.holder seat ≡ false → c.opener ≢ seat → IsSeat c seat (copy [] v)
copied c seat id v mine out not =
    let b = mine.known.behind in
    record {
      home = mine.home;
      known = record {
        owned = λ m h. absurd (both_ways false refl h);
        behind = (b.0, b.1, all_map (IsUnseen c.home.first v.known.numbers) (IsUnseen c.home.first []) (λ e u. record { other = refl; late = λ no. absurd (both_ways false refl no) }) b.0 b.2);
      };
      old = tt;
      ticket = λ t e. absurd (none_some t None refl e);
      line = λ m place h e. absurd (both_ways false refl h);
      inside = sym out;
      entered = λ e. absurd (both_ways false refl e);
      next = sym (next_none c.opener c.next seat not);
    }

seats_more : (c : Course) (views : List View) (right : View) → ((i : ℕ) (u : View) → get_elem? views i ≡ some u → IsSeat c i u) → IsSeat c (length views) right → (i : ℕ) (u : View) → get_elem? (views ++ right ∷ []) i ≡ some u → IsSeat c i u
seats_more c views right old new i u e = ⊎_elim
    (λ at. old i u at)
    (λ at. subst (λ (y : ℕ × View). IsSeat c y.0 y.1) (λ k. (sym at.0 k, at.1 k)) new)
    (at_snoc views right u i e)

line_more : (next : ℕ) (line : List ℕ) → IsLine next line → IsLine (suc next) line
line_more next line is = record {
  given = λ place n e. let l = is.given place n e in omega arith;
  once = is.once;
}

module _ {T : Type 0} (entries : T → List Entry) (base : T → List ℕ) where
  pub numbers_given : (id : ℕ) (v : View) (m : ℕ) → v.next ≡ Some m → m < 2 ^ 32 → is_numbered v.known.numbers ≡ true → Splits (Kept entries base) id v (gave v) (given v)
  numbers_given id v m is_next low numbered s k at =
      let c : Course = k.course in
      let mine = k.seats id v at in
      let opens = next_is c.opener c.next id m (sym mine.next ∙ is_next) in
      let last = opens.1 in
      let views : List View = set s.views id (gave v) in
      let wide : length views ≡ length s.views = length-set s.views id (gave v) in
      let seat : ℕ = length views in
      let is : next_number v.next ≡ c.next = ap next_number is_next ∙ last in
      let first = k.bounds.0 in
      let opener = k.opener in
      let not : c.opener ≢ seat = λ e. absurd (omega arith) in
      let out : is_holder c.holder seat ≡ false = holder_below entries base c.holder c.journal c.home.base s.views s.homes seat (omega arith) k.place in
      let long : length (views ++ given v ∷ []) ≡ length views + 1 = length-append views (given v ∷ []) in
      record {
        course = more c seat;
        words = k.words;
        seats = seats_more (more c seat) views (given v)
            (seats_set (more c seat) s.views id (gave v) (λ i u ne e. other_gives c seat i u (k.seats i u e) (λ o. ne (sym o ∙ opens.0))) (opener_gives c seat id v mine opens.0 is))
            (new_seat c seat id v mine numbered is k.bounds.0 k.line k.authors out not);
        place = place_views entries base c.holder c.journal c.home.base s.views (views ++ given v ∷ []) s.homes (omega arith) k.place;
        authors = all_map (λ (e : Entry). e.author < c.next) (λ (e : Entry). e.author < suc c.next) (λ e l. omega arith) c.journal k.authors;
        bounds = (omega arith, omega arith);
        line = line_more c.next c.line k.line;
        opener = omega arith;
      }

  pub copies_seen : (id : ℕ) (v : View) → Splits (Kept entries base) id v v (copy [] v)
  copies_seen id v s k at =
      let c : Course = k.course in
      let mine = k.seats id v at in
      let views : List View = set s.views id v in
      let wide : length views ≡ length s.views = length-set s.views id v in
      let seat : ℕ = length views in
      let opener = k.opener in
      let not : c.opener ≢ seat = λ e. absurd (omega arith) in
      let out : is_holder c.holder seat ≡ false = holder_below entries base c.holder c.journal c.home.base s.views s.homes seat (omega arith) k.place in
      let long : length (views ++ copy [] v ∷ []) ≡ length views + 1 = length-append views (copy [] v ∷ []) in
      record {
        course = c;
        words = k.words;
        seats = seats_more c views (copy [] v) (seats_set c s.views id v (λ i u ne e. k.seats i u e) mine) (copied c seat id v mine out not);
        place = place_views entries base c.holder c.journal c.home.base s.views (views ++ copy [] v ∷ []) s.homes (omega arith) k.place;
        authors = k.authors;
        bounds = k.bounds;
        line = k.line;
        opener = omega arith;
      }
