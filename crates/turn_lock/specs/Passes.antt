-- What contracts see of a pass and of a note (this project's own).
use Rattle.std.specs.Prelude.{ℕ, true, false, ◌≡◌, ◌≤◌, ◌<◌, List, [], ◌∷◌, Option, Some, None}
use Rattle.atomic_table.specs.Seated.{TableId}
use Rattle.journal_entry.specs.declared.entry.Entry.{Entry}
use Rattle.turn_lock.specs.declared.view.Home.{Home}
use Rattle.turn_lock.specs.declared.view.Known.{Known}
use Rattle.turn_lock.specs.declared.view.View.{View}
use Rattle.turn_lock.specs.Seen.{has_number}

-- Which turns a pass belongs to, the first number of all, what the history is judged by, its own number, the numbers of
-- the passes that were joined into it, what it has seen, and, for the opener, the next number to be given out.
pub record PassView : Type 0 where
  pub turns : TableId
  pub first : ℕ
  pub base : List ℕ
  pub number : ℕ
  pub joined : List ℕ
  pub seen : List Entry
  pub next : Option ℕ

pub record NoteView : Type 0 where
  pub turns : TableId
  pub seen : List Entry

-- the numbers of a pass, own and joined
abbrev pub numbers_of : PassView → List ℕ
numbers_of p = p.number ∷ p.joined

-- the pass has, own or joined, each number from `first` up to below `next`
abbrev pub HasEach : ℕ → ℕ → List ℕ → Type 0
HasEach first next numbers = (n : ℕ) → first ≤ n → n < next → has_number numbers n ≡ true

-- the pass is the opener, and has every number that was given out
abbrev pub IsWhole : PassView → Type 0
IsWhole p = (next : ℕ) × (p.next ≡ Some next) × HasEach p.first next (numbers_of p)

-- where one of two passes is the opener, what is next to be given out
abbrev pub next_of : Option ℕ → Option ℕ → Option ℕ
next_of (Some n) other = Some n
next_of None other = other

-- ---- a pass as its seat knows it

abbrev pub known_of : PassView → Known
known_of p = record { numbers = numbers_of p; seen = p.seen }

-- a pass that waits for nothing
abbrev pub view_of : PassView → View
view_of p = record {
  home = Some (record { first = p.first; base = p.base });
  known = known_of p;
  old = [];
  ticket = None;
  inside = false;
  next = p.next;
}

abbrev pub nobody : View
nobody = record { home = None; known = record { numbers = []; seen = [] }; old = []; ticket = None; inside = false; next = None }

abbrev pub first_view : List View → View
first_view [] = nobody
first_view (v ∷ vs) = v

abbrev pub first_of : Option Home → ℕ
first_of None = 0
first_of (Some h) = h.first

abbrev pub base_of : Option Home → List ℕ
base_of None = []
base_of (Some h) = h.base

abbrev pub number_of : List ℕ → ℕ
number_of [] = 0
number_of (n ∷ ns) = n

abbrev pub joined_of : List ℕ → List ℕ
joined_of [] = []
joined_of (n ∷ ns) = ns

abbrev pub pass_of : TableId → View → PassView
pass_of id v = record {
  turns = id;
  first = first_of v.home;
  base = base_of v.home;
  number = number_of v.known.numbers;
  joined = joined_of v.known.numbers;
  seen = v.known.seen;
  next = v.next;
}

-- a note knows a list, and has no number
pub record IsNote (v : View) : Type 0 where
  pub numbers : v.known.numbers ≡ []
  pub old : v.old ≡ []
  pub ticket : v.ticket ≡ None
  pub inside : v.inside ≡ false
  pub next : v.next ≡ None
