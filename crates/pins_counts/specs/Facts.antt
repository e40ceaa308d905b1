-- How the numbers and what is gone are kept.
use Rattle.std.specs.Prelude.{ℕ, ◌≡◌, ◌≤◌, Bool, true, false, cond, List, [], ◌∷◌, map, Option, None, Some, unwrap_or, is_some}
use Rattle.std.specs.HashMap as hash
use Rattle.std.specs.declared.hash.BuildHasherDefault.{BuildHasherDefault}
use Rattle.std.specs.FinMap as map
use Rattle.std.specs.FinSet as set
use Rattle.fx_hash.specs.declared.hasher.FxHasher.{FxHasher}
use Rattle.ss_base.specs.declared.object.Object.{Object}
use Rattle.ss_base.specs.declared.object.Object.TheVariants.{Container, Manifest}
use Rattle.pins_counts.specs.declared.fact.Fact.{Fact}
use Rattle.pins_counts.specs.declared.fact.Run.{Run}
use Rattle.ss_base.specs.Ids.{same_object}
use Rattle.ss_base.specs.Order.{object_cmp}

-- the facts as they are kept, by their objects
abbrev pub Kept : Type 0
Kept = hash.HashMap Object Fact (BuildHasherDefault FxHasher)

-- what is kept of an object
abbrev pub fact_at : Kept → Object → Option Fact
fact_at m q = hash.get same_object m q

-- of an object without an entry: the number 0, and not gone
abbrev pub nothing : Fact
nothing = record { number = 0; gone = None }

-- what is kept, or nothing
abbrev pub fact_or_nothing : Option Fact → Fact
fact_or_nothing found = unwrap_or found nothing

-- n has w at k, and is m elsewhere
pub record OneSet (m n : Kept) (k : Object) (w : Fact) : Type 0 where
  pub here : fact_at n k ≡ Some w
  pub other : (q : Object) → same_object q k ≡ false → fact_at n q ≡ fact_at m q

-- the numbers of these entries
abbrev pub numbers_of : List (Object × Fact) → map.FinMap object_cmp ℕ
numbers_of entries = map.from_entries (map (λ e. (e.0, e.1.number)) entries)

-- whether what is kept says that the object is gone
abbrev pub is_gone_fact : Fact → Bool
is_gone_fact fact = is_some fact.gone

-- the objects of these entries that are gone
abbrev pub gone_of : List (Object × Fact) → set.FinSet object_cmp
gone_of [] = set.empty
gone_of (e ∷ entries) = cond (is_gone_fact e.1) (set.insert (gone_of entries) e.0) (set.remove (gone_of entries) e.0)

-- the object's number in its session
abbrev pub place_of : Object → ℕ
place_of (Container c) = c.ordinal
place_of (Manifest m) = m.seq

-- the object of the same kind and session with this number
abbrev pub at_place : Object → ℕ → Object
at_place (Container c) n = Container (record { session = c.session; ordinal = n })
at_place (Manifest m) n = Manifest (record { session = m.session; seq = n })

-- whether what is found says that the object is gone
abbrev pub gone_in : Option Fact → Bool
gone_in None = false
gone_in (Some f) = is_gone_fact f

-- the run that an object knows, where it is gone
abbrev pub run_in : Option Fact → Option Run
run_in None = None
run_in (Some f) = f.gone

-- the objects from the run's first to this one, and from this one to the run's last, are gone
pub record Claims (m : Kept) (q : Object) (run : Run) : Type 0 where
  pub before : (n : ℕ) → run.first ≤ n → n ≤ place_of q → gone_in (fact_at m (at_place q n)) ≡ true
  pub after : (n : ℕ) → place_of q ≤ n → n ≤ run.last → gone_in (fact_at m (at_place q n)) ≡ true

-- what each object knows of its neighbours is so
pub record IsSound (m : Kept) : Type 0 where
  pub claims : (q : Object) (run : Run) → run_in (fact_at m q) ≡ Some run → Claims m q run

-- the number of what is found, and whether it says that the object is gone
abbrev pub seen_in : Option Fact → Option (ℕ × Bool)
seen_in None = None
seen_in (Some f) = Some (f.number, is_gone_fact f)

-- the same, and gone
abbrev pub gone_now : Option (ℕ × Bool) → Option (ℕ × Bool)
gone_now None = None
gone_now (Some s) = Some (s.0, true)
