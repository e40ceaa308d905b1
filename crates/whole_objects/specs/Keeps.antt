-- Objects among which all that a history wants is still there (this project's own).
use Rattle.std.specs.Prelude.{ℕ, ◌≡◌, ◌<◌, ◌^◌, ◌≢◌, true, List, ◌++◌}
use Rattle.ss_base.specs.declared.ids.ContainerId.{ContainerId}
use Rattle.ss_base.specs.declared.ids.ManifestId.{ManifestId}
use Rattle.ss_base.specs.declared.object.Object.{Object}
use Rattle.ss_base.specs.declared.object.Object.TheVariants.{Container, Manifest}
use Rattle.ss_base.specs.declared.profile.Numbers.{Numbers}
use Rattle.ss_base.specs.ObjectName.{object_text}
use Rattle.outside.specs.Shelf.{Objects, bytes_of}
use Rattle.journal_entry.specs.declared.entry.Entry.{Entry}
use Rattle.journal_entry.specs.declared.entry.Point.{Point}
use Rattle.journal_entry.specs.declared.entry.Point.TheVariants.{Commit}
use Rattle.history.specs.Need.{is_live, is_needed}
use Rattle.stored_streams.specs.Streams.{Streams}
use Rattle.stored_streams.specs.Plans.{containers_of}

-- the bytes go on from those before
abbrev pub GoesOn : List ℕ → List ℕ → Type 0
GoesOn before after = (more : List ℕ) × (after ≡ before ++ more)

-- Each container that is needed, as far as containers are laid out, goes on from what it was, and each live manifest is
-- as it was.
pub record KeepsWanted (n : Numbers) (streams : Streams) (past : List Entry) (objects now : Objects) : Type 0 where
  pub containers : (id : ContainerId) → is_needed id past ≡ true → id.ordinal < containers_of n streams id.session past
      → GoesOn (bytes_of objects (object_text (Container id))) (bytes_of now (object_text (Container id)))
  pub manifests : (id : ManifestId) → is_live id past ≡ true → bytes_of now (object_text (Manifest id)) ≡ bytes_of objects (object_text (Manifest id))

-- the name is that of no container and no manifest
abbrev pub IsNoObject : List ℕ → Type 0
IsNoObject name = (object : Object) → name ≢ object_text object

-- All but the containers of one session are as they were.
pub record KeepsOthers (session : ℕ) (objects now : Objects) : Type 0 where
  pub containers : (id : ContainerId) → id.session < 2 ^ 32 → id.session ≢ session
      → bytes_of now (object_text (Container id)) ≡ bytes_of objects (object_text (Container id))
  pub manifests : (id : ManifestId) → bytes_of now (object_text (Manifest id)) ≡ bytes_of objects (object_text (Manifest id))
  pub rest : (name : List ℕ) → IsNoObject name → bytes_of now name ≡ bytes_of objects name

-- an entry that commits no segment
abbrev pub CommitsNothing : Point → Type 0
CommitsNothing (Commit id content text chunks bytes fresh fresh_bytes uses) = ⊥
CommitsNothing _ = Unit {0}
