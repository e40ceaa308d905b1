-- What a history stores where each segment is planned against what was loaded for it (this project's own).
use Rattle.std.specs.Prelude.{ℕ, ◌≡◌, ◌⊎◌, true, List, [], ◌∷◌, ◌++◌, Some}
use Rattle.ss_base.specs.declared.ids.ManifestId.{ManifestId}
use Rattle.ss_base.specs.declared.profile.Numbers.{Numbers}
use Rattle.chunk_name.specs.Pieces.{name_of_bytes}
use Rattle.manifest_codec.specs.Text.{manifest_text, AreManifest}
use Rattle.segment_plan.specs.Plan.{Located}
use Rattle.journal_entry.specs.declared.entry.Entry.{Entry}
use Rattle.journal_entry.specs.declared.entry.Point.{Point}
use Rattle.journal_entry.specs.declared.entry.Point.TheVariants.{Commit, Finish, Abort}
use Rattle.history.specs.Sessions.{is_pending, pending_champions}
use Rattle.store_core.specs.View.{KeptView, kept}
use Rattle.stored_streams.specs.Streams.{Streams, manifest_pieces}
use Rattle.stored_streams.specs.Plans.{Planned, planned_places, end_of, plan_for, plans_of}
use Rattle.stored_streams.specs.OfStreams.{next_of, StoresSegment}

-- the manifests that were loaded for the segment of a manifest
abbrev pub Loads : Type 0
Loads = ManifestId → List Located

-- the text of a manifest that was loaded
abbrev pub loaded_text : Located → List ℕ
loaded_text located = manifest_text located.pieces located.places

-- the plans behind an entry, by those before it: a Commit is planned against what was loaded for it
unfoldable pub loaded_after : Numbers → Streams → Loads → Point → List Planned → List Planned
loaded_after n streams loads (Commit id content text chunks bytes fresh fresh_bytes uses) plans = plan_for n streams id (loads id) plans ∷ plans
loaded_after n streams loads _ plans = plans

-- the plans of a history's newer entries, the newest first, each against what was loaded, behind those of the older
-- entries
unfoldable pub loaded_plans : Numbers → Streams → Loads → List Entry → List Entry → List Planned
loaded_plans n streams loads [] older = plans_of n streams older
loaded_plans n streams loads (entry ∷ newer) older = loaded_after n streams loads entry.point (loaded_plans n streams loads newer older)

-- A manifest was loaded for a champion: its text has the digest that the champion's Commit kept, and it was given by a
-- read, or is the text that was planned for that Commit.
pub record IsLoadOf (n : Numbers) (streams : Streams) (given : List ℕ → Type 0) (past : List Entry) (plans : List Planned) (champion : ManifestId) (located : Located) : Type 0 where
  pub manifest : AreManifest located.pieces located.places
  pub digest : (view : KeptView) → kept champion past ≡ Some view → name_of_bytes (loaded_text located) ≡ view.text
  pub source : given (loaded_text located) ⊎ (loaded_text located ≡ manifest_text (manifest_pieces n streams champion) (planned_places champion plans))

-- one manifest was loaded for each champion, in their order
abbrev pub AreLoadsOf : Numbers → Streams → (List ℕ → Type 0) → List Entry → List Planned → List ManifestId → List Located → Type 0
AreLoadsOf n streams given past plans [] [] = Unit {0}
AreLoadsOf n streams given past plans (c ∷ cs) (l ∷ ls) = IsLoadOf n streams given past plans c l × AreLoadsOf n streams given past plans cs ls
AreLoadsOf n streams given past plans _ _ = ⊥

-- A session that is given up has as many containers as are laid out for its commits, or, where a choice is pending,
-- as many as with the chosen segment laid out against what was loaded for it.
abbrev pub AbortsLoaded : Numbers → Streams → Loads → (List ℕ → Type 0) → List Entry → List Planned → ℕ → ℕ → Type 0
AbortsLoaded n streams loads given past plans session containers =
    (containers ≡ (end_of session plans).containers)
    ⊎ ((is_pending session past ≡ true)
    × AreLoadsOf n streams given past plans (pending_champions session past) (loads (next_of session past))
    × (containers ≡ (plan_for n streams (next_of session past) (loads (next_of session past)) plans).end.containers))

-- What a newer entry says of what is stored, behind these entries and plans: a Commit, the numbers of its segment
-- against what was loaded for it; an end, how many containers these plans lay out.
abbrev pub LoadedOf : Numbers → Streams → Loads → (List ℕ → Type 0) → List Entry → List Planned → Point → Type 0
LoadedOf n streams loads given past plans (Commit id content text chunks bytes fresh fresh_bytes uses) =
    AreLoadsOf n streams given past plans (pending_champions id.session past) (loads id)
    × StoresSegment n streams id (loads id) plans text fresh fresh_bytes uses
LoadedOf n streams loads given past plans (Finish session containers) = containers ≡ (end_of session plans).containers
LoadedOf n streams loads given past plans (Abort session containers texts) = AbortsLoaded n streams loads given past plans session containers
LoadedOf n streams loads given past plans _ = Unit {0}

-- each newer entry says so, behind those before it
abbrev pub StoresLoaded : Numbers → Streams → Loads → (List ℕ → Type 0) → List Entry → List Entry → Type 0
StoresLoaded n streams loads given [] older = Unit {0}
StoresLoaded n streams loads given (entry ∷ newer) older =
    StoresLoaded n streams loads given newer older
    × LoadedOf n streams loads given (newer ++ older) (loaded_plans n streams loads newer older) entry.point
