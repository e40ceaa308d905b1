-- Which session last began under each name (this project's own).
use Rattle.std.specs.Prelude.{ℕ, ◌≡◌, List, slice_get, Option, Some}
use Rattle.std.specs.Str.{bytes_eq}
use Rattle.std.specs.declared.cmp.Ordering.{Ordering}
use Rattle.std.specs.BTreeMap as tree
use Rattle.std.specs.Prelude.{false}
use Rattle.ss_base.specs.contracts.stream_name.StreamNameOrd.TheImpl as name_ord
use Rattle.journal_entry.specs.declared.entry.Entry.{Entry}
use Rattle.history.specs.Sessions.{sessions_under}

-- names in the order that their type has
abbrev pub name_cmp : List ℕ → List ℕ → Ordering
name_cmp = (name_ord.ghosts).cmp

-- what is kept under a name
abbrev pub session_at : tree.BTreeMap (List ℕ) ℕ → List ℕ → Option ℕ
session_at m name = tree.get name_cmp m name

-- n has the session under the name, and is m elsewhere
pub record OneNamed (m n : tree.BTreeMap (List ℕ) ℕ) (name : List ℕ) (session : ℕ) : Type 0 where
  pub here : session_at n name ≡ Some session
  pub other : (q : List ℕ) → bytes_eq q name ≡ false → session_at n q ≡ session_at m q

-- nothing has changed
pub record SameNames (m n : tree.BTreeMap (List ℕ) ℕ) : Type 0 where
  pub each : (q : List ℕ) → session_at n q ≡ session_at m q

-- under each name is the newest session that began under it
pub record AreNames (m : tree.BTreeMap (List ℕ) ℕ) (past : List Entry) : Type 0 where
  pub each : (q : List ℕ) → session_at m q ≡ slice_get (sessions_under q past) 0
