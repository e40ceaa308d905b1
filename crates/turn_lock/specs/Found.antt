-- What a pass finds as it enters (this project's own).
use Rattle.std.specs.Prelude.{ℕ, ◌≡◌, List}
use Rattle.journal_entry.specs.declared.entry.Entry.{Entry}
use Rattle.turn_lock.specs.Seen.{IsLater}
use Rattle.turn_lock.specs.Passes.{PassView, numbers_of, IsWhole}

-- a state with the pass's base, whose list goes on from what the pass has seen by entries of others, and by none where
-- the pass has every number
pub record IsFound {T : Type 0} (entries : T → List Entry) (base : T → List ℕ) (p : PassView) (state : T) : Type 0 where
  pub base_is : base state ≡ p.base
  pub later : IsLater (numbers_of p) p.seen (entries state)
  pub whole : IsWhole p → entries state ≡ p.seen
