-- A look whose turn it is.
use Rattle.std.proofs.Common.{◌≡◌, ◌≢◌, ℕ, ◌+◌, ◌-◌, ◌<◌, true, false, List, [], ◌∷◌, get_or, set, refl, sym, ap, ◌∙◌, subst, ⊎_elim, arith, length-set, eq-eqb, ne_eqb, Option, Some, None}
use Rattle.std.specs.List.{AllByRecursion}
use Rattle.std.proofs.lemmas.Bool.{both_ways, cases_lt}
use Rattle.std.proofs.lemmas.List.{set-get_or}
use mathlib.Core.Logic.{dite}
use native.Mathlib.Decide.{ℕ_discrete}
use mathlib.Core.Option.{some, none}
use mathlib.Core.Option as maybe
use lib.ListN.{get_elem?}
use Rattle.atomic_table.specs.Table.{State, step, keeps, takes, stepped, Allows}
use Rattle.atomic_table.proofs.Lists.{set_again, one_turn}
use Rattle.journal_entry.specs.declared.entry.Entry.{Entry}
use Rattle.turn_lock.specs.declared.view.Home.{Home}
use Rattle.turn_lock.specs.declared.view.View.{View}
use Rattle.turn_lock.specs.Seen.{has_number, IsByOther}
use Rattle.turn_lock.specs.Passes.{HasEach}
use Rattle.turn_lock.specs.Rule.{Course, IsSeat, IsUnseen, IsPlace, is_holder, Kept, word}
use Rattle.turn_lock.specs.Steps.{Looks, Enters, seeing}
use Rattle.turn_lock.proofs.Lists.{all_map, all_and, all_right, all_never, nothing_behind, there, within_list}
use Rattle.turn_lock.proofs.Pigeonhole.{line_length}
use Rattle.turn_lock.proofs.Knowing.{some_same, seats_set, place_views, knows_all, has_numbered, next_is}

-- behind what has every number is nothing
none_behind : (first next : ℕ) (numbers : List ℕ) (n : ℕ) (behind : List Entry) → has_number numbers n ≡ true → HasEach first next numbers → AllByRecursion (IsUnseen first numbers) behind → AllByRecursion (λ e. e.author < next) behind → behind ≡ []
none_behind first next numbers n behind has each unseen authors =
    let never : (e : Entry) → IsUnseen first numbers e × (e.author < next) → ⊥ = λ e both. ⊎_elim
    (λ early. let late = both.0.late (has_numbered numbers n has) in absurd (omega arith))
    (λ late. both_ways (has_number numbers e.author) both.0.other (each e.author late both.1))
    (cases_lt e.author first) in
    all_never (λ e. IsUnseen first numbers e × (e.author < next)) never behind (all_and (IsUnseen first numbers) (λ e. e.author < next) (λ e. IsUnseen first numbers e × (e.author < next)) (λ e p q. (p, q)) behind unseen authors)

module _ {T : Type 0} (entries : T → List Entry) (base : T → List ℕ) where
  abbrev St : Type 0
  St = State (Option T) View

  -- nobody else is inside while the ticket of this seat is served
  at_home : (s : St) (k : Kept entries base s) (id : ℕ) (v : View) → IsSeat k.course id v → v.ticket ≡ Some k.course.served → v.inside ≡ false
      → (h : Option ℕ) → k.course.holder ≡ h → IsPlace entries base h k.course.journal k.course.home.base s.views s.homes
      → (k.course.holder ≡ None) × ((x : T) × (s.homes ≡ some (Some x) ∷ []) × (entries x ≡ k.course.journal) × (base x ≡ k.course.home.base))
  at_home s k id v mine ticket out None is p = (is, p)
  at_home s k id v mine ticket out (Some h) is p =
      let c : Course = k.course in
      let found = there s.views h p.1 in
      let u : View = found.0 in
      let his = k.seats h u found.1 in
      let inside : u.inside ≡ true = his.inside ∙ (ap (λ z. is_holder z h) is ∙ eq-eqb h h refl) in
      let t = his.ticket c.served (his.entered inside).0 in
      let m = mine.ticket c.served ticket in
      let same : m.0 ≡ t.0 = maybe.some-injective m.0 t.0 (sym m.3 ∙ t.3) in
      let one : id ≡ h = sym (mine.known.owned m.0 m.1).0 ∙ (ap c.owner same ∙ (his.known.owned t.0 t.1).0) in
      absurd (both_ways v.inside out (mine.inside ∙ (ap (λ z. is_holder z id) is ∙ eq-eqb h id (sym one))))

  -- a load that changes no view
  unmoved : (s : St) (k : Kept entries base s) (word_at id : ℕ) (v : View) (cs : List (ℕ × Option T)) → get_elem? s.views id ≡ some v → Kept entries base (stepped s word_at (get_or s.words word_at 0) id cs v keeps)
  unmoved s k i id v cs at = record {
    course = k.course;
    words = set-get_or s.words i 0 ∙ k.words;
    seats = λ j u e. k.seats j u (subst (λ vs. get_elem? vs j ≡ some u) (set_again s.views id v at) e);
    place = place_views entries base k.course.holder k.course.journal k.course.home.base s.views (set s.views id v) s.homes (omega (arith, length-set s.views id v)) k.place;
    authors = k.authors;
    bounds = k.bounds;
    line = k.line;
    opener = omega (arith, k.opener, length-set s.views id v);
  }

  abbrev held : Course → ℕ → Course
  held c id = record c { holder = Some id }

  abbrev inner : T → View → View
  inner x v = record (seeing (entries x) v) { inside = true }

  in_turn : (c : Course) (id : ℕ) (v : View) (x : T) → IsSeat c id v → v.ticket ≡ Some c.served → entries x ≡ c.journal → IsSeat (held c id) id (inner x v)
  in_turn c id v x mine ticket list = record {
    home = mine.home;
    known = knows_all c.owner c.home.first c.next c.journal id v.known (entries x) mine.known.owned list;
    old = mine.old;
    ticket = mine.ticket;
    line = mine.line;
    inside = sym (eq-eqb id id refl);
    entered = λ _. (ticket, list);
    next = mine.next;
  }

  other_looks : (c : Course) (id i : ℕ) (u : View) → IsSeat c i u → c.holder ≡ None → i ≢ id → IsSeat (held c id) i u
  other_looks c id i u is free ne = record {
    home = is.home;
    known = is.known;
    old = is.old;
    ticket = is.ticket;
    line = is.line;
    inside = is.inside ∙ (ap (λ z. is_holder z i) free ∙ sym (ne_eqb id i (λ e. ne (sym e))));
    entered = is.entered;
    next = is.next;
  }

  told : (s : St) (k : Kept entries base s) (id n : ℕ) (v : View) (cs : List (ℕ × Option T)) (x : T) → IsSeat k.course id v → has_number v.known.numbers n ≡ true → entries x ≡ k.course.journal → base x ≡ k.course.home.base
      → Enters entries base (v, cs) (inner x v, (0, Some x) ∷ cs)
  told s k id n v cs x mine has list is_base =
      let c : Course = k.course in
      let b = mine.known.behind in (
        x,
        refl,
        (b.0, b.1 ∙ sym list, all_map (IsUnseen c.home.first v.known.numbers) (IsByOther v.known.numbers) (λ e u. u.other) b.0 b.2),
        (λ h e. is_base ∙ ap (λ (z : Home). z.base) (sym (mine.home h e))),
        (λ h m is_home is_next each.
            let first : h.first ≡ c.home.first = ap (λ (z : Home). z.first) (mine.home h is_home) in
            let last : m ≡ c.next = (next_is c.opener c.next id m (sym mine.next ∙ is_next)).1 in
            let every : HasEach c.home.first c.next v.known.numbers = subst (λ (z : ℕ × ℕ). HasEach z.0 z.1 v.known.numbers) (λ i. (first i, last i)) each in
            let authors : AllByRecursion (λ (e : Entry). e.author < c.next) b.0 = all_right (λ (e : Entry). e.author < c.next) v.known.seen b.0 (subst (AllByRecursion (λ (e : Entry). e.author < c.next)) (sym b.1) k.authors) in
            list ∙ (sym b.1 ∙ nothing_behind v.known.seen b.0 (none_behind c.home.first c.next v.known.numbers n b.0 has every b.2 authors))),
      )

  pub looks : (slots id : ℕ) (v : View) (cs : List (ℕ × Option T)) (t : ℕ) → v.ticket ≡ Some t → v.inside ≡ false
      → Allows (Kept entries base) slots id (v, cs) 1 (λ n. n) (Looks entries base (step slots 1 0 0 none) (v, cs))
  looks slots id v cs t ticket out s k _ at _ =
      let c : Course = k.course in
      let mine = k.seats id v at in
      let is_word : get_or s.words 1 0 ≡ word c.served = ap (λ ws. get_or ws 1 0) k.words in
      let m = mine.ticket t ticket in
      dite (ℕ_discrete (get_or s.words 1 0) (word t))
      (λ hit.
      let short = line_length c.next c.line k.line in
      let near = within_list c.line (t - c.served) m.0 m.3 in
      let low = m.2 in
      let most = k.bounds.1 in
      let close : t < c.served + 18446744073709551616 = omega arith in
      let now : c.served ≡ t = one_turn c.served t 18446744073709551616 m.2 close (sym is_word ∙ hit) in
      let served : v.ticket ≡ Some c.served = ticket ∙ ap Some (sym now) in
      let home = at_home s k id v mine served out c.holder refl k.place in
      let x : T = home.1.0 in
      let w : View = inner x v in (
        w,
        takes 0 (Some x),
        ap (λ hs. get_elem? hs 0) home.1.1,
        record {
          course = held c id;
          words = set-get_or s.words 1 0 ∙ k.words;
          seats = seats_set (held c id) s.views id w (λ i u ne e. other_looks c id i u (k.seats i u e) home.0 ne) (in_turn c id v x mine served home.1.2);
          place = (ap (λ hs. set hs 0 none) home.1.1, omega (arith, within_list s.views id v at, length-set s.views id w));
          authors = k.authors;
          bounds = k.bounds;
          line = k.line;
          opener = omega (arith, k.opener, length-set s.views id w);
        },
        (λ t' e. ((λ _. told s k id m.0 v cs x mine m.1 home.1.2 home.1.3), λ miss. absurd (miss (hit ∙ ap word (some_same t t' (sym ticket ∙ e)))))),
      ))
      (λ miss. (
        v,
        keeps,
        tt,
        unmoved s k 1 id v cs at,
        (λ t' e. ((λ hit. absurd (miss (hit ∙ ap word (some_same t' t (sym e ∙ ticket))))), λ _. refl)),
      ))
