-- The turns as they start.
use Rattle.std.proofs.Common.{◌≡◌, ℕ, zero, suc, ◌^◌, ◌<◌, List, [], ◌∷◌, refl, sym, subst, arith, Some, None}
use Rattle.std.specs.List.{AllByRecursion}
use Rattle.std.proofs.lemmas.List.{append-nil}
use mathlib.Core.Option.{some, some-ne-none, some-injective}
use lib.ListN.{get_elem?}
use Rattle.atomic_table.specs.Table.{opening}
use Rattle.journal_entry.specs.declared.entry.Entry.{Entry}
use Rattle.turn_lock.specs.declared.view.View.{View}
use Rattle.turn_lock.specs.Openings.{opener}
use Rattle.turn_lock.specs.Rule.{Course, IsSeat, Kept}
use Rattle.turn_lock.proofs.Lists.{has_one, all_map}
use Rattle.turn_lock.proofs.Knowing.{none_some, some_same}

module _ {T : Type 0} (entries : T → List Entry) (base : T → List ℕ) (x : T) (first : ℕ) where
  abbrev begun : Course
  begun = record {
    home = record { first = first; base = base x };
    journal = entries x;
    next = suc first;
    served = 0;
    ended = 0;
    line = [];
    owner = λ _. 0;
    opener = 0;
    holder = None;
  }

  abbrev view : View
  view = opener first (base x) (entries x)

  alone : IsSeat begun 0 view
  alone = record {
    home = λ h e. sym (some_same _ _ e);
    known = record {
      owned = λ n h. let e = has_one first n h in (refl, omega arith, omega arith);
      behind = ([], append-nil (entries x), tt);
    };
    old = tt;
    ticket = λ t e. absurd (none_some t None refl e);
    line = λ n place h e. absurd (some-ne-none n (sym e));
    inside = refl;
    entered = λ e. absurd (cc (e));
    next = refl;
  }

  seats : (i : ℕ) (v : View) → get_elem? (view ∷ []) i ≡ some v → IsSeat begun i v
  seats zero v e = subst (IsSeat begun 0) (some-injective view v e) alone
  seats (suc i) v e = absurd (some-ne-none v (sym e))

  pub starts : first < 2 ^ 32 → AllByRecursion (λ e. e.author < first) (entries x) → Kept entries base (opening (0 ∷ 0 ∷ 0 ∷ []) (Some x ∷ []) (opener first (base x) (entries x)))
  starts fits authors = record {
    course = begun;
    words = refl;
    seats = seats;
    place = (x, refl, refl, refl);
    authors = all_map (λ (e : Entry). e.author < first) (λ (e : Entry). e.author < suc first) (λ e l. omega arith) (entries x) authors;
    bounds = (omega arith, omega arith);
    line = record {
      given = λ place n e. absurd (some-ne-none n (sym e));
      once = λ p q n e f. absurd (some-ne-none n (sym e));
    };
    opener = omega arith;
  }
