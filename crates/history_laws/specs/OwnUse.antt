-- The containers of its own that a session used (this project's own).
use Rattle.std.specs.Prelude.{◌≡◌, ℕ, Contains}
use Rattle.ss_base.specs.declared.ids.ContainerId.{ContainerId}
use Rattle.journal_entry.specs.declared.entry.Point.{Point}
use Rattle.journal_entry.specs.declared.entry.Point.TheVariants.{Commit}

-- the entry commits a segment of the session, and lists the container, which is the session's own
abbrev pub UsesOwn : ℕ → ContainerId → Point → Type 0
UsesOwn session id (Commit manifest content text chunks bytes fresh fresh_bytes uses) =
    (manifest.session ≡ session) × (id.session ≡ session) × Contains uses id
UsesOwn session id _ = ⊥
