-- What may stand at a hook (this project's own).
use Rattle.std.specs.Prelude.{◌≡◌, ℕ, ◌-◌, true, false, List, length, drop, reverse, slice_get}
use Rattle.std.specs.Option.{IsSomeAnd}
use Rattle.ss_base.specs.declared.ids.Standing.{Standing}
use Rattle.journal_entry.specs.declared.entry.Entry.{Entry}
use Rattle.ss_base.specs.declared.name.Name.{Name}
use Rattle.ss_base.specs.Ids.{has_name}
use Rattle.history.specs.Sessions.{has, aborts, deletes, last_hooks}
use Rattle.history.specs.Need.{commits_manifest}

-- entry number `stamp` commits the manifest, and its session is neither aborted nor deleted
pub record MayStand (stands : Standing) (past : List Entry) : Type 0 where
  pub committed : IsSomeAnd (slice_get (reverse past) stands.stamp) (λ (entry : Entry). commits_manifest stands.id entry.point ≡ true)
  pub unaborted : has (aborts stands.id.session) past ≡ false
  pub undeleted : has (deletes stands.id.session) past ≡ false

-- the entries before the one with this number
unfoldable pub before : ℕ → List Entry → List Entry
before n past = drop (length past - n) past

-- the manifest's session has the hook in its last choice before entry number `stamp`
abbrev pub HasChosen : Name → Standing → List Entry → Type 0
HasChosen hook stands past = has_name hook (last_hooks stands.id.session (before stands.stamp past)) ≡ true
