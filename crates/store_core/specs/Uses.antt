-- Containers that entries list, by the entries' numbers (this project's own).
use Rattle.std.specs.Prelude.{ℕ, Bool, ◌==◌, ◌&&◌, ◌||◌, nat_lt, nat_le, List, [], length}
use Rattle.std.specs.List.{list_all, list_any}
use Rattle.std.specs.Option.{option_map_or}
use Rattle.ss_base.specs.declared.ids.ContainerId.{ContainerId}
use Rattle.ss_base.specs.Ids.{has_container}
use Rattle.ss_base.specs.Order.{are_ascending}
use Rattle.journal_entry.specs.Bounds.{most_uses}
use Rattle.journal_entry.specs.declared.entry.Entry.{Entry}
use Rattle.history_laws.specs.EntryNumbers.{entry_at, uses_listed}

-- the containers that the entry with a number lists
unfoldable pub uses_at : List Entry → ℕ → List ContainerId
uses_at past n = option_map_or (λ (entry : Entry). uses_listed entry.point) (entry_at n past) []

-- whether chunks of the session may lie in the container: it is one of its own, or one of these entries lists it
unfoldable pub may_lie_in : ℕ → List ℕ → List Entry → ContainerId → Bool
may_lie_in session numbers past id =
    ((id.session == session) && nat_lt id.ordinal 4294967295)
    || list_any (λ n. has_container id (uses_at past n)) numbers

-- ascending containers, at most 4,096, and chunks of the session may lie in each
abbrev pub are_listed : ℕ → List ℕ → List Entry → List ContainerId → Bool
are_listed session numbers past uses =
    are_ascending uses && (nat_le (length uses) most_uses && list_all (may_lie_in session numbers past) uses)
