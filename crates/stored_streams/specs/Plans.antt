-- What the commits of a history store of its streams, by looking through the history (this project's own).
use Rattle.std.specs.Prelude.{ℕ, ◌==◌, List, [], ◌∷◌, ◌++◌, map, Option, option_map, unwrap_or, if◌then◌else◌}
use Rattle.std.specs.List.{find}
use Rattle.ss_base.specs.declared.ids.ManifestId.{ManifestId}
use Rattle.ss_base.specs.declared.ids.Place.{Place}
use Rattle.ss_base.specs.declared.profile.Numbers.{Numbers}
use Rattle.ss_base.specs.Ids.{same_manifest}
use Rattle.container_file.specs.declared.container_end.ContainerEnd.{ContainerEnd}
use Rattle.container_file.specs.Layout.{Laid}
use Rattle.manifest_codec.specs.Text.{manifest_text}
use Rattle.segment_plan.specs.Plan.{Located, places_against, laid_against, end_against}
use Rattle.journal_entry.specs.declared.entry.Entry.{Entry}
use Rattle.journal_entry.specs.declared.entry.Point.{Point}
use Rattle.journal_entry.specs.declared.entry.Point.TheVariants.{Commit}
use Rattle.history.specs.Sessions.{pending_champions}
use Rattle.stored_streams.specs.Streams.{Streams, manifest_chunks, manifest_pieces}

-- of a manifest: where its chunks lie, its fresh chunks with their places, and the containers of its session behind it
pub record Planned : Type 0 where
  pub id : ManifestId
  pub places : List Place
  pub laid : List Laid
  pub end : ContainerEnd

-- the newest plan for a manifest, of a session
unfoldable pub plan_of : ManifestId → List Planned → Option Planned
plan_of id plans = find (λ (p : Planned). same_manifest id p.id) plans

unfoldable pub last_plan : ℕ → List Planned → Option Planned
last_plan session plans = find (λ (p : Planned). p.id.session == session) plans

-- where the chunks of a manifest lie
unfoldable pub planned_places : ManifestId → List Planned → List Place
planned_places id plans = unwrap_or (option_map (λ (p : Planned). p.places) (plan_of id plans)) []

-- the containers of a session that has nothing stored
abbrev pub no_containers : ℕ → ContainerEnd
no_containers session = record { session = session; containers = 0; used = 0 }

-- the containers of a session
unfoldable pub end_of : ℕ → List Planned → ContainerEnd
end_of session plans = unwrap_or (option_map (λ (p : Planned). p.end) (last_plan session plans)) (no_containers session)

-- what is laid out for a session, in its order
unfoldable pub laid_of : ℕ → List Planned → List Laid
laid_of session [] = []
laid_of session (p ∷ plans) = if p.id.session == session then laid_of session plans ++ p.laid else laid_of session plans

-- manifests as a segment is planned against them
unfoldable pub located_of : Numbers → Streams → List ManifestId → List Planned → List Located
located_of n streams ids plans = map (λ id. record { pieces = manifest_pieces n streams id; places = planned_places id plans }) ids

-- the plan for a manifest behind these, whose segment is planned against what is located
unfoldable pub plan_for : Numbers → Streams → ManifestId → List Located → List Planned → Planned
plan_for n streams id located plans =
    let end = end_of id.session plans in
    record {
      id = id;
      places = places_against (manifest_chunks n streams id) located end n.room;
      laid = laid_against (manifest_chunks n streams id) located end n.room;
      end = end_against (manifest_chunks n streams id) located end n.room;
    }

-- the plan for a manifest against its session's pending champions
unfoldable pub next_plan : Numbers → Streams → List Entry → ManifestId → List Planned → Planned
next_plan n streams past id plans = plan_for n streams id (located_of n streams (pending_champions id.session past) plans) plans

-- the plans behind an entry, by those of the entries before it
unfoldable pub plans_after : Numbers → Streams → List Entry → Point → List Planned → List Planned
plans_after n streams past (Commit id content text chunks bytes fresh fresh_bytes uses) plans = next_plan n streams past id plans ∷ plans
plans_after n streams past _ plans = plans

-- the plans for what the entries commit, the newest first
unfoldable pub plans_of : Numbers → Streams → List Entry → List Planned
plans_of n streams [] = []
plans_of n streams (entry ∷ past) = plans_after n streams past entry.point (plans_of n streams past)

-- the text of a manifest
unfoldable pub text_of : Numbers → Streams → ManifestId → List Entry → List ℕ
text_of n streams id past = manifest_text (manifest_pieces n streams id) (planned_places id (plans_of n streams past))

-- how many containers are laid out for a session's commits
unfoldable pub containers_of : Numbers → Streams → ℕ → List Entry → ℕ
containers_of n streams session past = (end_of session (plans_of n streams past)).containers
