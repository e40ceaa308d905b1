-- What an entry's change of the lists asks of them (this project's own).
use Rattle.std.specs.Prelude.{ℕ, ◌≡◌, ◌-◌, ◌<◌, ◌^◌, false, IsTrue, All, List, length, reverse, Some}
use Rattle.std.specs.List.{IsDistinct, list_all}
use Rattle.sparse_index.specs.Lists.{Lists, list_at, is_ready}
use Rattle.ss_base.specs.declared.ids.ManifestId.{ManifestId}
use Rattle.ss_base.specs.declared.name.Name.{Name}
use Rattle.ss_base.specs.Ids.{same_name, same_manifest}
use Rattle.ss_base.specs.Champions.{stands_in}
use Rattle.journal_entry.specs.declared.entry.Entry.{Entry}
use Rattle.journal_entry.specs.declared.entry.Point.{Point}
use Rattle.journal_entry.specs.declared.entry.Point.TheVariants.{Choose, Commit, Abort, Delete}
use Rattle.history.specs.Sessions.{last_hooks}
use Rattle.history_index.specs.Choices.{hooks_of, was_chosen}

-- the manifest is at none of the hooks, which are distinct and ready, and are those of the last of the choices
pub record MayPut (lists : Lists) (id : ManifestId) (before : List Entry) (choices : List ℕ) : Type 0 where
  pub last : hooks_of before choices (length choices - 1) ≡ last_hooks id.session (reverse before)
  pub distinct : IsDistinct same_name (last_hooks id.session (reverse before))
  pub ready : All (λ hook. IsTrue (is_ready lists hook)) (last_hooks id.session (reverse before))
  pub absent : All (λ hook. stands_in id (list_at lists hook) ≡ false) (last_hooks id.session (reverse before))

-- the session's manifests stand at hooks of their choices
pub record MayRetire (lists : Lists) (session : ℕ) (before : List Entry) (choices : List ℕ) : Type 0 where
  pub few : length choices < 2 ^ 32
  pub chosen : (hook : Name) → IsTrue (list_all (was_chosen before choices session hook) (list_at lists hook))

-- what is asked at each point
abbrev pub MayChange : Lists → Point → List Entry → List ℕ → Type 0
MayChange lists (Choose session hooks champions) before choices = IsDistinct same_name hooks × IsDistinct same_manifest champions
MayChange lists (Commit manifest content text chunks bytes fresh fresh_bytes uses) before choices = MayPut lists manifest before choices
MayChange lists (Abort session containers texts) before choices = MayRetire lists session before choices
MayChange lists (Delete name (Some session)) before choices = MayRetire lists session before choices
MayChange lists _ before choices = Unit {0}
