-- How manifests come out of a cache, and what is put into it (this project's own).
use Rattle.std.specs.Prelude.{◌≡◌, ◌⊎◌, List, [], ◌∷◌, Option, None, Some, option_map, IfSome, Err, Contains}
use Rattle.ss_base.specs.declared.ids.ManifestId.{ManifestId}
use Rattle.manifest_codec.specs.declared.manifest.Manifest.{Manifest}
use Rattle.store_core.specs.View.{KeptView}
use Rattle.outside.specs.Views.{ShelfView}
use Rattle.depot.specs.declared.fault.LoadFault.{LoadFault}
use Rattle.depot.specs.Loading.{IsLoaded, LoadAnswer}
use Rattle.manifest_cache.specs.Cached.{CachedView, IsOf, listed_by, cached, held}
use Rattle.segment_store.specs.Loads.{Entries, Holding}

-- a copy of the manifest that the cache holds, where it holds one
pub record IsCopy (holds : Holding) (kept : KeptView) (copy : Option Manifest) : Type 0 where
  pub found : option_map listed_by copy ≡ holds kept
  pub good : IfSome copy (λ m. IsOf kept (listed_by m))

-- one for each that was kept, in order
abbrev pub AreCopies : Holding → List KeptView → List (Option Manifest) → Type 0
AreCopies holds [] [] = Unit {0}
AreCopies holds (kept ∷ kepts) (copy ∷ copies) = IsCopy holds kept copy × AreCopies holds kepts copies
AreCopies holds _ _ = ⊥

-- The cache holds what it held, and each of its entries was there.
pub record IsSame (cache cache' : Entries) : Type 0 where
  pub holds : (kept : KeptView) → held cache' kept ≡ held cache kept
  pub lies : (entry : ManifestId × CachedView) → Contains cache' entry → Contains cache entry

-- each entry was there, or has this manifest of what was kept
abbrev pub HasPut : Entries → Entries → KeptView → Manifest → Type 0
HasPut cache cache' kept manifest = (entry : ManifestId × CachedView) → Contains cache' entry → Contains cache entry ⊎ (entry ≡ (kept.id, cached kept (listed_by manifest)))

-- the manifest is the copy, or it was loaded and put into the cache
abbrev pub Comes : Entries → Entries → ShelfView → ShelfView → KeptView → Option Manifest → Manifest → Type 0
Comes cache cache' before after kept (Some copy) manifest = (manifest ≡ copy) × (after ≡ before) × (cache' ≡ cache)
Comes cache cache' before after kept None manifest = IsLoaded before after kept manifest × HasPut cache cache' kept manifest

-- It was not there and could not be loaded.
pub record NotComes (cache cache' : Entries) (before after : ShelfView) (kept : KeptView) (copy : Option Manifest) (fault : LoadFault) : Type 0 where
  pub same : cache' ≡ cache
  pub failed : LoadAnswer before after kept (Err fault)
  pub missing : copy ≡ None
