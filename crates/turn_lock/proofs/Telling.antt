-- The count is looked at, which tells what became of the lists that were joined.
use Rattle.std.proofs.Common.{ℕ, ◌≤◌, List, [], ◌++◌, length, set, refl, ◌∙◌, subst, arith, length-set, Option}
use Rattle.std.specs.List.{AllByRecursion}
use Rattle.std.proofs.lemmas.List.{set-get_or}
use mathlib.Core.Option.{none}
use Rattle.atomic_table.specs.Table.{Me, step, keeps, Allows}
use Rattle.journal_entry.specs.declared.entry.Entry.{Entry}
use Rattle.turn_lock.specs.declared.view.Known.{Known}
use Rattle.turn_lock.specs.declared.view.View.{View}
use Rattle.turn_lock.specs.Seen.{IsByOther, IsLater}
use Rattle.turn_lock.specs.Rule.{Course, IsSeat, IsKnown, IsUnseen, Kept}
use Rattle.turn_lock.specs.Steps.{Tells}
use Rattle.turn_lock.proofs.Lists.{all_map, all_left, between}
use Rattle.turn_lock.proofs.Knowing.{seats_set, place_views}

-- of two that know of one journal, what the longer has more
later : (owner : ℕ → ℕ) (first next : ℕ) (journal : List Entry) (i j : ℕ) (k l : Known) → IsKnown owner first next journal i k → IsKnown owner first next journal j l → length k.seen ≤ length l.seen → IsLater k.numbers k.seen l.seen
later owner first next journal i j k l a b le =
    let m = between k.seen a.behind.0 l.seen b.behind.0 journal a.behind.1 b.behind.1 le in
    let all : AllByRecursion (IsUnseen first k.numbers) (m.0 ++ b.behind.0) = subst (AllByRecursion (IsUnseen first k.numbers)) m.2 a.behind.2 in
    (m.0, m.1, all_map (IsUnseen first k.numbers) (IsByOther k.numbers) (λ e u. u.other) m.0 (all_left (IsUnseen first k.numbers) m.0 b.behind.0 all))

cleared : (c : Course) (id : ℕ) (v : View) → IsSeat c id v → IsSeat c id (record v { old = [] })
cleared c id v mine = record {
  home = mine.home;
  known = mine.known;
  old = tt;
  ticket = mine.ticket;
  line = mine.line;
  inside = mine.inside;
  entered = mine.entered;
  next = mine.next;
}

module _ {T : Type 0} (entries : T → List Entry) (base : T → List ℕ) where
  pub tells : (slots id : ℕ) (me : Me (Option T) View) → Allows (Kept entries base) slots id me 2 (λ n. n) (Tells (step slots 2 0 0 none) me)
  tells slots id me s k _ at _ =
      let c : Course = k.course in
      let v : View = me.0 in
      let w : View = record v { old = [] } in
      let mine = k.seats id v at in (
        w,
        keeps,
        tt,
        record {
          course = c;
          words = set-get_or s.words 2 0 ∙ k.words;
          seats = seats_set c s.views id w (λ i u ne e. k.seats i u e) (cleared c id v mine);
          place = place_views entries base c.holder c.journal c.home.base s.views (set s.views id w) s.homes (omega (arith, length-set s.views id w)) k.place;
          authors = k.authors;
          bounds = k.bounds;
          line = k.line;
          opener = omega (arith, k.opener, length-set s.views id w);
        },
        (
          refl,
          all_map (IsKnown c.owner c.home.first c.next c.journal id) (λ (o : Known). length o.seen ≤ length v.known.seen → IsLater o.numbers o.seen v.known.seen)
              (λ (o : Known) known le. later c.owner c.home.first c.next c.journal id id o v.known known mine.known le) v.old mine.old,
        ),
      )
