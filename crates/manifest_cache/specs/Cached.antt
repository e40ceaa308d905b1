-- What a cache of loaded manifests holds (this project's own).
use Rattle.std.specs.Prelude.{ℕ, ◌≡◌, Bool, ◌==◌, ◌&&◌, if◌then◌else◌, List, Option, None, Some, option_and_then, is_some}
use Rattle.std.specs.Cmp.Lexicographic.{pointwise}
use Rattle.std.specs.Map.{lookup}
use Rattle.ss_base.specs.declared.ids.ContainerId.{ContainerId}
use Rattle.ss_base.specs.declared.ids.ManifestId.{ManifestId}
use Rattle.ss_base.specs.declared.name.Name.{Name}
use Rattle.ss_base.specs.Ids.{same_name, same_manifest, same_container}
use Rattle.chunk_name.specs.Pieces.{name_of_bytes}
use Rattle.manifest_codec.specs.declared.manifest.Manifest.{Manifest}
use Rattle.manifest_codec.specs.Text.{manifest_text}
use Rattle.segment_plan.specs.Plan.{Located}
use Rattle.store_core.specs.View.{KeptView}
use Rattle.depot.specs.Loading.{IsLike}

-- what a manifest lists
abbrev pub listed_by : Manifest → Located
listed_by manifest = record { pieces = manifest.pieces.items; places = manifest.places.items }

-- It is what was kept: its text has the kept digest, and it has the content, the number of chunks and the containers
-- that were kept.
pub record IsOf (kept : KeptView) (manifest : Located) : Type 0 where
  pub digest : name_of_bytes (manifest_text manifest.pieces manifest.places) ≡ kept.text
  pub like : IsLike kept manifest.pieces manifest.places

-- an entry without its id: the other values of what was kept, and the manifest that a load answered for it
pub record CachedView : Type 0 where
  pub text : Name
  pub content : Name
  pub chunks : ℕ
  pub uses : List ContainerId
  pub manifest : Located

-- the five values under which an entry lies
abbrev pub kept_of : ManifestId → CachedView → KeptView
kept_of id cached = record { id = id; text = cached.text; content = cached.content; chunks = cached.chunks; uses = cached.uses }

-- the entry of what was kept and its manifest
abbrev pub cached : KeptView → Located → CachedView
cached kept manifest = record { text = kept.text; content = kept.content; chunks = kept.chunks; uses = kept.uses; manifest = manifest }

-- whether what was kept has the entry's values
abbrev pub same_values : CachedView → KeptView → Bool
same_values cached kept =
    same_name cached.text kept.text && (same_name cached.content kept.content && ((cached.chunks == kept.chunks) && pointwise same_container cached.uses kept.uses))

-- the manifest that the entries have of what was kept: that of the entry under its id, where it has the same values
unfoldable pub held : List (ManifestId × CachedView) → KeptView → Option Located
held entries kept = option_and_then (λ (cached : CachedView). if same_values cached kept then Some cached.manifest else None) (lookup (same_manifest kept.id) entries)

-- whether they have one
abbrev pub is_held : List (ManifestId × CachedView) → KeptView → Bool
is_held entries kept = is_some (held entries kept)
