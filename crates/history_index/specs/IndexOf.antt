-- When an index agrees with a history (this project's own).
use Rattle.std.specs.Prelude.{ℕ, ◌≡◌, Bool, true, IsTrue, List}
use Rattle.sparse_index.specs.Lists.{Lists, list_at, is_ready}
use Rattle.ss_base.specs.declared.name.Name.{Name}
use Rattle.ss_base.specs.Ids.{has_name}
use Rattle.journal_entry.specs.declared.entry.Entry.{Entry}
use Rattle.journal_entry.specs.declared.entry.Point.{Point}
use Rattle.history.specs.Sessions.{has, hooks_chosen}
use Rattle.history.specs.StandingList.{standing}

-- whether an entry chose with the hook
unfoldable pub names_hook : Name → Point → Bool
names_hook hook point = has_name hook (hooks_chosen point)

-- the index has at every hook what stands there by the entries, and every hook that a choice named is ready
pub record IsIndexOf (bound : ℕ) (lists : Lists) (past : List Entry) : Type 0 where
  pub stood : (hook : Name) → list_at lists hook ≡ standing bound hook past
  pub ready : (hook : Name) → has (names_hook hook) past ≡ true → IsTrue (is_ready lists hook)
