-- What becomes of the list of a hook, the most recently used manifest first (FAST 2009 bounds the list of a hook; the
-- rule on the order is this project's own).
use Rattle.std.specs.Prelude.{ℕ, ◌==◌, not, List, ◌∷◌, ◌++◌, take, filter, find, filter_map, Option}
use Rattle.ss_base.specs.declared.ids.ManifestId.{ManifestId}
use Rattle.ss_base.specs.declared.ids.Standing.{Standing}
use Rattle.ss_base.specs.Ids.{same_manifest, has_manifest}

-- the manifest in front of what stood, cut to the bound
unfoldable pub in_front : ℕ → Standing → List Standing → List Standing
in_front bound newest stood = take bound (newest ∷ stood)

-- how a manifest stood
unfoldable pub standing_of : ManifestId → List Standing → Option Standing
standing_of id stood = find (λ (stands : Standing). same_manifest id stands.id) stood

-- those of the champions that stood, in their order
unfoldable pub chosen_standings : List ManifestId → List Standing → List Standing
chosen_standings chosen stood = filter_map (λ id. standing_of id stood) chosen

-- the others, as they stood
unfoldable pub others_standing : List ManifestId → List Standing → List Standing
others_standing chosen stood = filter (λ (stands : Standing). not (has_manifest stands.id chosen)) stood

-- those of the champions that stood, in their order, then the others as they stood
unfoldable pub promoted : List ManifestId → List Standing → List Standing
promoted chosen stood = chosen_standings chosen stood ++ others_standing chosen stood

-- what stood, without a manifest
unfoldable pub without_manifest : ManifestId → List Standing → List Standing
without_manifest id stood = filter (λ (stands : Standing). not (same_manifest stands.id id)) stood

-- what stood, without the manifests of a session
unfoldable pub without_session : ℕ → List Standing → List Standing
without_session session stood = filter (λ (stands : Standing). not (stands.id.session == session)) stood
