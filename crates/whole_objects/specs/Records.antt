-- Containers that hold just the records that are laid out (this project's own).
use Rattle.std.specs.Prelude.{ℕ, ◌≡◌, ◌<◌, List, ◌++◌, map}
use Rattle.ss_base.specs.declared.ids.ContainerId.{ContainerId}
use Rattle.ss_base.specs.declared.object.Object.TheVariants.{Container}
use Rattle.ss_base.specs.declared.profile.Numbers.{Numbers}
use Rattle.ss_base.specs.ObjectName.{object_text}
use Rattle.container_file.specs.Layout.{Laid, laid_in}
use Rattle.container_file.specs.Text.{container_text}
use Rattle.segment_plan.specs.Plan.{Located, laid_against, end_against}
use Rattle.outside.specs.Shelf.{Objects, bytes_of}
use Rattle.journal_entry.specs.declared.entry.Entry.{Entry}
use Rattle.stored_streams.specs.Streams.{Streams}
use Rattle.stored_streams.specs.Plans.{plans_of, laid_of, end_of}
use Rattle.whole_objects.specs.Keeps.{GoesOn, KeepsOthers}

-- the text of a container in which these are laid out
abbrev pub laid_text : ContainerId → List Laid → List ℕ
laid_text id laid = container_text id (map (λ l. l.chunk) (laid_in id.ordinal laid))

-- as many containers of a session hold just the records that are laid out in them
abbrev pub HoldRecords : ℕ → ℕ → List Laid → Objects → Type 0
HoldRecords session count laid objects = (ordinal : ℕ) → ordinal < count
    → let id : ContainerId = record { session = session; ordinal = ordinal } in bytes_of objects (object_text (Container id)) ≡ laid_text id laid

-- those of a session's commits
abbrev pub HoldCommits : Numbers → Streams → ℕ → List Entry → Objects → Type 0
HoldCommits n streams session past objects =
    let plans = plans_of n streams past in
    HoldRecords session (end_of session plans).containers (laid_of session plans) objects

-- The fresh chunks of a segment, planned against what is located, were put behind a session's commits.
pub record ArePut (n : Numbers) (streams : Streams) (session : ℕ) (past : List Entry) (chunks : List (List ℕ)) (located : List Located) (objects now : Objects) : Type 0 where
  pub records :
      let plans = plans_of n streams past in
      HoldRecords session (end_against chunks located (end_of session plans) n.room).containers
      (laid_of session plans ++ laid_against chunks located (end_of session plans) n.room) now
  pub others : KeepsOthers session objects now
  pub grown : (ordinal : ℕ) → ordinal < (end_of session (plans_of n streams past)).containers
      → let name = object_text (Container (record { session = session; ordinal = ordinal })) in GoesOn (bytes_of objects name) (bytes_of now name)
