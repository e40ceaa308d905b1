-- What contracts see of the tokens (this project's own).
use Rattle.std.specs.Prelude.{ℕ}
use Rattle.ss_base.specs.declared.ids.ManifestId.{ManifestId}
use Rattle.ss_base.specs.declared.name.Name.{Name}

-- the manifest whose fresh chunks were stored, and how many bytes were put
pub record PlacedView : Type 0 where
  pub id : ManifestId
  pub sum : ℕ

-- the manifest that was written, how many bytes were put before, and the SHA-256 of its text
pub record WrittenView : Type 0 where
  pub id : ManifestId
  pub sum : ℕ
  pub text : Name
