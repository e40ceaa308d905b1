-- The steps at a seat whose view and hand are known.
use Rattle.std.proofs.Common.{◌≡◌, ◌<◌, ◌^◌, ◌+◌, ◌%◌, ℕ, true, false, List, [], ◌∷◌, refl, sym, ap, ◌∙◌, subst, Option, Some, None}
use mathlib.Core.Option.{none}
use Rattle.atomic_table.specs.Seated.{TableId}
use Rattle.atomic_table.specs.Table.{Me, rest, step, Allows, Splits, Joins}
use Rattle.journal_entry.specs.declared.entry.Entry.{Entry}
use Rattle.turn_lock.specs.declared.view.Home.{Home}
use Rattle.turn_lock.specs.declared.view.View.{View}
use Rattle.turn_lock.specs.declared.view.Known.{Known}
use Rattle.turn_lock.specs.Seen.{IsTurnOf, IsLater}
use Rattle.turn_lock.specs.Found.{IsFound}
use Rattle.turn_lock.specs.Passes.{PassView, pass_of, view_of, known_of, first_view, HasEach, nobody}
use Rattle.turn_lock.specs.Entered.{waiting, within}
use Rattle.turn_lock.specs.Rule.{Kept}
use Rattle.turn_lock.specs.Steps.{Draws, Looks, Enters, Adds, Serves, Tells, list_in, seeing, gave, given, copy, both}
use Rattle.turn_lock.proofs.Lists.{has_head}
use Rattle.turn_lock.proofs.Drawing.{draws}
use Rattle.turn_lock.proofs.Looking.{looks}
use Rattle.turn_lock.proofs.Adding.{adds}
use Rattle.turn_lock.proofs.Serving.{serves}
use Rattle.turn_lock.proofs.Telling.{tells}
use Rattle.turn_lock.proofs.Giving.{numbers_given, copies_seen}
use Rattle.turn_lock.proofs.Merging.{merges}

-- what a pass is in its own view, whatever its turns are
pub rests : {T : Type 0} (id : TableId) (m : Me (Option T) View) (p : PassView) (cs : List (ℕ × Option T)) → m ≡ (view_of p, cs) → m ≡ (view_of (pass_of id m.0), cs)
rests {T} id m p cs e = e ∙ sym (ap (λ (n : Me (Option T) View). let r : Me (Option T) View = (view_of (pass_of id n.0), cs) in r) e)

pub waits : {T : Type 0} (id : TableId) (m : Me (Option T) View) (t : ℕ) (p : PassView) → m ≡ (waiting t p, []) → m ≡ (waiting t (pass_of id m.0), [])
waits {T} id m t p e = e ∙ sym (ap (λ (n : Me (Option T) View). let r : Me (Option T) View = (waiting t (pass_of id n.0), []) in r) e)

-- the state is in hand again
pub held : {T : Type 0} (m m' : Me (Option T) View) (t : ℕ) (p : PassView) (x : T) → m ≡ (within t p, (0, None) ∷ []) → m' ≡ (m.0, (0, Some x) ∷ rest m.1) → m' ≡ (within t p, (0, Some x) ∷ [])
held {T} m m' t p x is e = e ∙ ap (λ (n : Me (Option T) View). let r : Me (Option T) View = (n.0, (0, Some x) ∷ rest n.1) in r) is

-- the view of a badge that has one
pub only_view : (views : List View) (v w : View) → views ≡ v ∷ [] → views ≡ w ∷ [] → v ≡ w
only_view views v w a b = ap first_view (sym a ∙ b)

module _ {T : Type 0} (entries : T → List Entry) (base : T → List ℕ) where
  pub draws_at : (slots id : ℕ) (me : Me (Option T) View) (p : PassView) → me ≡ (view_of p, [])
      → Allows (Kept entries base) slots id me 0 (λ x. (x + 1) % 2 ^ 64) (Draws (step slots 0 1 0 none) me)
  draws_at slots id me p is = subst (λ (m : Me (Option T) View). Allows (Kept entries base) slots id m 0 (λ x. (x + 1) % 2 ^ 64) (Draws (step slots 0 1 0 none) m)) (sym is) (draws entries base slots id (view_of p, []) p.number refl refl (has_head p.number p.joined))

  pub looks_at : (slots id : ℕ) (me : Me (Option T) View) (t : ℕ) (p : PassView) → me ≡ (waiting t p, [])
      → Allows (Kept entries base) slots id me 1 (λ n. n) (Looks entries base (step slots 1 0 0 none) me)
  looks_at slots id me t p is = subst (λ (m : Me (Option T) View). Allows (Kept entries base) slots id m 1 (λ n. n) (Looks entries base (step slots 1 0 0 none) m)) (sym is) (looks entries base slots id (waiting t p) [] t refl refl)

  pub adds_at : (slots id : ℕ) (me : Me (Option T) View) (t : ℕ) (p : PassView) (x : T) → me ≡ (within t p, (0, Some x) ∷ []) → IsTurnOf p.number p.seen (entries x)
      → Allows (Kept entries base) slots id me 2 (λ y. (y + 1) % 2 ^ 64) (Adds entries base (step slots 2 1 0 none) me)
  adds_at slots id me t p x is turn = subst (λ (m : Me (Option T) View). Allows (Kept entries base) slots id m 2 (λ y. (y + 1) % 2 ^ 64) (Adds entries base (step slots 2 1 0 none) m)) (sym is) (adds entries base slots id (within t p) x p.number refl refl (has_head p.number p.joined) turn)

  pub serves_at : (slots id : ℕ) (me : Me (Option T) View) (t : ℕ) (p : PassView) (x : T) → me ≡ (within t p, (0, Some x) ∷ []) → entries x ≡ p.seen → base x ≡ p.base
      → Allows (Kept entries base) slots id me 1 (λ y. (y + 1) % 2 ^ 64) (Serves (step slots 1 1 0 none) me)
  serves_at slots id me t p x is list is_base = subst (λ (m : Me (Option T) View). Allows (Kept entries base) slots id m 1 (λ y. (y + 1) % 2 ^ 64) (Serves (step slots 1 1 0 none) m)) (sym is)
      (serves entries base slots id (within t p) x refl list (λ c seat. is_base ∙ ap (λ (h : Home). h.base) (seat.home (record { first = p.first; base = p.base }) refl)))

  pub gives_at : (id : ℕ) (v : View) (p : PassView) (m : ℕ) → v ≡ view_of p → p.next ≡ Some m → m < 2 ^ 32 → Splits (Kept entries base) id v (gave v) (given v)
  gives_at id v p m is is_next low = subst (λ (u : View). Splits (Kept entries base) id u (gave u) (given u)) (sym is) (numbers_given entries base id (view_of p) m is_next low refl)

  pub copies_at : (id : ℕ) (v : View) → Splits (Kept entries base) id v v (copy [] v)
  copies_at id v = copies_seen entries base id v

  pub merges_at : (id : ℕ) (v : View) (other : ℕ) (w : View) → v.ticket ≡ None → w.ticket ≡ None → v.inside ≡ false → w.inside ≡ false → Joins (Kept entries base) id v other w (both v w) nobody
  merges_at = merges entries base

  pub tells_at : (slots id : ℕ) (me : Me (Option T) View) → Allows (Kept entries base) slots id me 2 (λ n. n) (Tells (step slots 2 0 0 none) me)
  tells_at = tells entries base

  -- ---- what the steps leave

  pub finds : (m m' : Me (Option T) View) (t : ℕ) (p : PassView) → m ≡ (waiting t p, []) → Enters entries base m m'
      → (x : T) × (m' ≡ (within t (record p { seen = entries x }), (0, Some x) ∷ [])) × IsFound entries base p x
  finds m m' t p is e =
      let x : T = e.0 in
      let home : Home = record { first = p.first; base = p.base } in
      let at_home : m.0.home ≡ Some home = ap (λ (n : Me (Option T) View). n.0.home) is in
      let known : m.0.known ≡ known_of p = ap (λ (n : Me (Option T) View). n.0.known) is in
      let next : m.0.next ≡ p.next = ap (λ (n : Me (Option T) View). n.0.next) is in (
        x,
        e.1 ∙ ap (λ (n : Me (Option T) View). let r : Me (Option T) View = (record (seeing (entries x) n.0) { inside = true }, (0, Some x) ∷ n.1) in r) is,
        record {
          base_is = e.3 home at_home;
          later = subst (λ (k : Known). IsLater k.numbers k.seen (entries x)) known e.2;
          whole = λ w. e.4 home w.0 at_home (next ∙ w.1) (subst (λ (k : Known). HasEach p.first w.0 k.numbers) (sym known) w.2) ∙ ap (λ (k : Known). k.seen) known;
        },
      )

  pub added : (m m' : Me (Option T) View) (t : ℕ) (p : PassView) (x : T) → m ≡ (within t p, (0, Some x) ∷ []) → m' ≡ (seeing (list_in entries base m.1) m.0, m.1)
      → m' ≡ (within t (record p { seen = entries x }), (0, Some x) ∷ [])
  added m m' t p x is a = a ∙ ap (λ (n : Me (Option T) View). let r : Me (Option T) View = (seeing (list_in entries base n.1) n.0, n.1) in r) is
