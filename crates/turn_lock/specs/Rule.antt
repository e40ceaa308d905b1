-- The rule of the turns: what holds of the words, the state and what all passes know, between any two steps (this project's own).
-- The words are the next ticket, the ticket that is served and the number of turns that ended, each modulo 2^64.
use Rattle.std.specs.Prelude.{ℕ, ◌+◌, ◌-◌, ◌%◌, ◌^◌, ◌≤◌, ◌<◌, Bool, true, false, ◌==◌, ◌≡◌, List, [], ◌∷◌, ◌++◌, length, Option, Some, None, if◌then◌else◌}
use Rattle.std.specs.List.{AllByRecursion}
use mathlib.Core.Option.{some}
use mathlib.Core.Option as maybe
use lib.ListN.{get_elem?}
use Rattle.atomic_table.specs.Table.{State}
use Rattle.journal_entry.specs.declared.entry.Entry.{Entry}
use Rattle.turn_lock.specs.declared.view.Home.{Home}
use Rattle.turn_lock.specs.declared.view.Known.{Known}
use Rattle.turn_lock.specs.declared.view.View.{View}
use Rattle.turn_lock.specs.Seen.{has_number, IsByOther}

-- What the passes share. The line has the numbers of the passes that hold a ticket, the one that is served first; each
-- number that was given out has an owner, a seat; the holder is the seat that is inside.
pub record Course : Type 0 where
  pub home : Home
  pub journal : List Entry
  pub next : ℕ
  pub served : ℕ
  pub ended : ℕ
  pub line : List ℕ
  pub owner : ℕ → ℕ
  pub opener : ℕ
  pub holder : Option ℕ

abbrev pub is_numbered : List ℕ → Bool
is_numbered [] = false
is_numbered (n ∷ ns) = true

-- an entry that whoever has these numbers need not have seen
pub record IsUnseen (first : ℕ) (numbers : List ℕ) (e : Entry) : Type 0 where
  pub other : IsByOther numbers e
  pub late : is_numbered numbers ≡ true → first ≤ e.author

abbrev pub Behind : ℕ → List Entry → Known → Type 0
Behind first journal k = (behind : List Entry) × (k.seen ++ behind ≡ journal) × AllByRecursion (IsUnseen first k.numbers) behind

-- a seat's numbers are its own, and what it has seen begins the journal; behind that is no entry of its own
pub record IsKnown (owner : ℕ → ℕ) (first next : ℕ) (journal : List Entry) (seat : ℕ) (k : Known) : Type 0 where
  pub owned : (n : ℕ) → has_number k.numbers n ≡ true → (owner n ≡ seat) × (first ≤ n) × (n < next)
  pub behind : Behind first journal k

abbrev pub is_holder : Option ℕ → ℕ → Bool
is_holder None seat = false
is_holder (Some holder) seat = holder == seat

abbrev pub next_at : ℕ → ℕ → ℕ → Option ℕ
next_at opener next seat = if opener == seat then Some next else None

-- the ticket of one of these numbers, whose place in the line it is
abbrev pub IsTicket : Course → List ℕ → ℕ → Type 0
IsTicket c numbers t = (n : ℕ) × (has_number numbers n ≡ true) × (c.served ≤ t) × (get_elem? c.line (t - c.served) ≡ some n)

pub record IsSeat (c : Course) (seat : ℕ) (v : View) : Type 0 where
  pub home : (h : Home) → v.home ≡ Some h → h ≡ c.home
  pub known : IsKnown c.owner c.home.first c.next c.journal seat v.known
  pub old : AllByRecursion (IsKnown c.owner c.home.first c.next c.journal seat) v.old
  pub ticket : (t : ℕ) → v.ticket ≡ Some t → IsTicket c v.known.numbers t
  pub line : (n place : ℕ) → has_number v.known.numbers n ≡ true → get_elem? c.line place ≡ some n → v.ticket ≡ Some (c.served + place)
  pub inside : v.inside ≡ is_holder c.holder seat
  pub entered : v.inside ≡ true → (v.ticket ≡ Some c.served) × (v.known.seen ≡ c.journal)
  pub next : v.next ≡ next_at c.opener c.next seat

-- each number in the line was given out, and stands there once
pub record IsLine (next : ℕ) (line : List ℕ) : Type 0 where
  pub given : (place n : ℕ) → get_elem? line place ≡ some n → n < next
  pub once : (place other n : ℕ) → get_elem? line place ≡ some n → get_elem? line other ≡ some n → place ≡ other

abbrev pub word : ℕ → ℕ
word n = n % 2 ^ 64

module _ {T : Type 0} (entries : T → List Entry) (base : T → List ℕ) where
  -- the state is at home, with the journal and the base; or it is away with the holder
  abbrev pub IsPlace : Option ℕ → List Entry → List ℕ → List View → List (maybe.Option (Option T)) → Type 0
  IsPlace None journal numbers views homes = (x : T) × (homes ≡ some (Some x) ∷ []) × (entries x ≡ journal) × (base x ≡ numbers)
  IsPlace (Some holder) journal numbers views homes = (homes ≡ maybe.none ∷ []) × (holder < length views)

  pub record Kept (s : State (Option T) View) : Type 0 where
    pub course : Course
    pub words : s.words ≡ word (course.served + length course.line) ∷ word course.served ∷ word course.ended ∷ []
    pub seats : (seat : ℕ) (v : View) → get_elem? s.views seat ≡ some v → IsSeat course seat v
    pub place : IsPlace course.holder course.journal course.home.base s.views s.homes
    pub authors : AllByRecursion (λ e. e.author < course.next) course.journal
    pub bounds : (course.home.first ≤ course.next) × (course.next ≤ 2 ^ 32)
    pub line : IsLine course.next course.line
    pub opener : course.opener < length s.views
