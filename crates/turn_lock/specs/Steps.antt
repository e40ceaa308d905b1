-- What each kind of step tells whoever takes it (this project's own).
use Rattle.std.specs.Prelude.{ℕ, suc, ◌≤◌, true, false, ◌≡◌, ◌≢◌, List, [], ◌∷◌, ◌++◌, length, Option, Some, None}
use Rattle.std.specs.List.{AllByRecursion}
use Rattle.atomic_table.specs.Table.{Me, Step, rest}
use Rattle.journal_entry.specs.declared.entry.Entry.{Entry}
use Rattle.turn_lock.specs.declared.view.Home.{Home}
use Rattle.turn_lock.specs.declared.view.View.{View}
use Rattle.turn_lock.specs.Seen.{IsLater, longer}
use Rattle.turn_lock.specs.Passes.{HasEach, next_of}
use Rattle.turn_lock.specs.Rule.{word}

-- a view that has seen this list
abbrev pub seeing : List Entry → View → View
seeing entries v = record v { known = record { numbers = v.known.numbers; seen = entries } }

module _ {T : Type 0} where
  -- a ticket was drawn
  abbrev pub Draws : Step (Option T) → Me (Option T) View → ℕ → Me (Option T) View → Type 0
  Draws s m found m' = (t : ℕ) × (found ≡ word t) × (m' ≡ (record m.0 { ticket = Some t }, m.1))

  -- the turn ended, and the state was given back
  abbrev pub Serves : Step (Option T) → Me (Option T) View → ℕ → Me (Option T) View → Type 0
  Serves s m found m' = m' ≡ (record m.0 { ticket = None; inside = false }, rest m.1)

  -- each older list is a beginning of what was seen, and behind it is no entry by its numbers
  abbrev pub Tells : Step (Option T) → Me (Option T) View → ℕ → Me (Option T) View → Type 0
  Tells s m found m' = (m' ≡ (record m.0 { old = [] }, m.1))
      × AllByRecursion (λ o. length o.seen ≤ length m.0.known.seen → IsLater o.numbers o.seen m.0.known.seen) m.0.old

module _ {T : Type 0} (entries : T → List Entry) (base : T → List ℕ) where
  -- the state was taken: behind what was seen are entries of others alone, and none where the seat has every number
  abbrev pub Enters : Me (Option T) View → Me (Option T) View → Type 0
  Enters m m' = (x : T) × (m' ≡ (record (seeing (entries x) m.0) { inside = true }, (0, Some x) ∷ m.1))
      × IsLater m.0.known.numbers m.0.known.seen (entries x)
      × ((h : Home) → m.0.home ≡ Some h → base x ≡ h.base)
      × ((h : Home) (next : ℕ) → m.0.home ≡ Some h → m.0.next ≡ Some next → HasEach h.first next m.0.known.numbers → entries x ≡ m.0.known.seen)

  -- the turn had come, or not yet
  abbrev pub Looks : Step (Option T) → Me (Option T) View → ℕ → Me (Option T) View → Type 0
  Looks s m found m' = (t : ℕ) → m.0.ticket ≡ Some t → (found ≡ word t → Enters m m') × (found ≢ word t → m' ≡ m)

  -- the list of the state in hand
  abbrev pub list_in : List (ℕ × Option T) → List Entry
  list_in [] = []
  list_in ((k, Some x) ∷ xs) = entries x
  list_in ((k, None) ∷ xs) = []

  -- the list of the state in hand is the journal
  abbrev pub Adds : Step (Option T) → Me (Option T) View → ℕ → Me (Option T) View → Type 0
  Adds s m found m' = m' ≡ (seeing (list_in m.1) m.0, m.1)

-- ---- how a view is cut in two, and how two are made one

abbrev pub next_number : Option ℕ → ℕ
next_number None = 0
next_number (Some n) = n

-- the opener, after it gave out a number
abbrev pub gave : View → View
gave v = record v { next = Some (suc (next_number v.next)) }

-- a view of its own with these numbers, which has seen the same
abbrev pub copy : List ℕ → View → View
copy numbers v = record { home = v.home; known = record { numbers = numbers; seen = v.known.seen }; old = []; ticket = None; inside = false; next = None }

abbrev pub given : View → View
given v = copy (next_number v.next ∷ []) v

-- both views in one, beside what each had seen
abbrev pub both : View → View → View
both v w = record v {
  known = record { numbers = v.known.numbers ++ w.known.numbers; seen = longer v.known.seen w.known.seen };
  old = v.known ∷ w.known ∷ [];
  next = next_of v.next w.next;
}
