-- Loads of a segment's champions, beside a cache of loaded manifests (this project's own).
use Rattle.std.specs.Prelude.{ℕ, zero, suc, ◌≡◌, ◌*◌, ◌⊎◌, if◌then◌else◌, List, [], ◌∷◌, ◌++◌, Option, None, Some, is_some, Result, Ok, Err, Vec, Contains}
use Rattle.std.specs.declared.alloc.Global.{Global}
use Rattle.ss_base.specs.declared.ids.ManifestId.{ManifestId}
use Rattle.ss_base.specs.declared.object.Object.TheVariants.{Manifest as ManifestObject}
use Rattle.ss_base.specs.ObjectName.{object_text}
use Rattle.manifest_codec.specs.declared.manifest.Manifest.{Manifest}
use Rattle.manifest_codec.specs.Text.{manifest_text}
use Rattle.segment_plan.specs.Plan.{Located}
use Rattle.store_core.specs.View.{KeptView}
use Rattle.outside.specs.Shelf.{next_read}
use Rattle.outside.specs.Views.{ShelfView}
use Rattle.depot.specs.declared.fault.LoadFault.{LoadFault}
use Rattle.depot.specs.Calls.{after_read}
use Rattle.depot.specs.Loading.{IsLoaded, LoadAnswer}
use Rattle.manifest_cache.specs.Cached.{CachedView, IsOf, listed_by, cached, held}

-- the entries of a cache, the most recently used first
abbrev pub Entries : Type 0
Entries = List (ManifestId × CachedView)

-- what a cache holds: the manifest that it has of what was kept
abbrev pub Holding : Type 0
Holding = KeptView → Option Located

-- after a load: the one read gave the manifest's text
abbrev pub after_load : ShelfView → KeptView → Manifest → ShelfView
after_load shelf kept manifest =
    after_read shelf (object_text (ManifestObject kept.id)) 0 (48 * kept.chunks) (manifest_text manifest.pieces.items manifest.places.items)

-- once a manifest is there: nothing was read where the cache held it, and else it was loaded
abbrev pub after_turn : Holding → ShelfView → KeptView → Manifest → ShelfView
after_turn holds shelf kept manifest = if is_some (holds kept) then shelf else after_load shelf kept manifest

-- once manifests are there, one behind another
abbrev pub after_loads : Holding → ShelfView → List KeptView → List Manifest → ShelfView
after_loads holds shelf (kept ∷ kepts) (manifest ∷ manifests) = after_loads holds (after_turn holds shelf kept manifest) kepts manifests
after_loads holds shelf _ _ = shelf

-- A manifest is the one that the cache holds, or the cache holds none and one read loaded it.
pub data IsThere (holds : Holding) (shelf : ShelfView) (kept : KeptView) (manifest : Manifest) : Type 0 where
  was_held : holds kept ≡ Some (listed_by manifest) → IsOf kept (listed_by manifest) → IsThere holds shelf kept manifest
  was_loaded : holds kept ≡ None → IsLoaded shelf (after_load shelf kept manifest) kept manifest → IsThere holds shelf kept manifest

-- one manifest for each that was kept, in order; those that the cache does not hold are each loaded by one read
abbrev pub AreLoaded : Holding → ShelfView → List KeptView → List Manifest → Type 0
AreLoaded holds shelf [] [] = Unit {0}
AreLoaded holds shelf (kept ∷ kepts) (manifest ∷ manifests) =
    IsThere holds shelf kept manifest × AreLoaded holds (after_turn holds shelf kept manifest) kepts manifests
AreLoaded holds shelf _ _ = ⊥

-- an entry has the manifest of one of these loads: one that the cache did not hold
abbrev pub IsOfLoad : Holding → List KeptView → List Manifest → ManifestId × CachedView → Type 0
IsOfLoad holds (kept ∷ kepts) (manifest ∷ manifests) entry =
    ((holds kept ≡ None) × (entry ≡ (kept.id, cached kept (listed_by manifest)))) ⊎ IsOfLoad holds kepts manifests entry
IsOfLoad holds _ _ entry = ⊥

-- each entry of a cache is one that it had, or has the manifest of one of these loads
abbrev pub HasCached : Entries → Entries → List KeptView → List Manifest → Type 0
HasCached cache cache' kepts manifests = (entry : ManifestId × CachedView) → Contains cache' entry → Contains cache entry ⊎ IsOfLoad (held cache) kepts manifests entry

-- how many the cache does not hold
abbrev pub missing : Holding → List KeptView → ℕ
missing holds [] = 0
missing holds (kept ∷ kepts) = if is_some (holds kept) then missing holds kepts else suc (missing holds kepts)

-- the count of reads after so many more
abbrev pub reads_after : ℕ → ℕ → ℕ
reads_after zero reads = reads
reads_after (suc n) reads = reads_after n (next_read reads)

-- The manifests before this one are there; this one failed, and those behind it were not tried. It failed before a read,
-- or the cache did not hold it.
pub record IsStopped (cache cache' : Entries) (before after : ShelfView) (kepts : List KeptView) (fault : LoadFault) : Type 0 where
  pub done : List KeptView
  pub manifests : List Manifest
  pub kept : KeptView
  pub rest : List KeptView
  pub kepts_are : kepts ≡ done ++ kept ∷ rest
  pub loaded : AreLoaded (held cache) before done manifests
  pub failed : LoadAnswer (after_loads (held cache) before done manifests) after kept (Err fault)
  pub wanted : (after ≡ after_loads (held cache) before done manifests) ⊎ (held cache kept ≡ None)
  pub caches : HasCached cache cache' done manifests

-- Loads, in order.
pub record HasLoaded (cache cache' : Entries) (before after : ShelfView) (kepts : List KeptView) (manifests : List Manifest) : Type 0 where
  pub loaded : AreLoaded (held cache) before kepts manifests
  pub shelf : after ≡ after_loads (held cache) before kepts manifests
  pub caches : HasCached cache cache' kepts manifests

abbrev pub LoadsAnswer : Entries → Entries → ShelfView → ShelfView → List KeptView → Result (Vec Manifest Global) LoadFault → Type 0
LoadsAnswer cache cache' before after kepts (Ok manifests) = HasLoaded cache cache' before after kepts manifests.items
LoadsAnswer cache cache' before after kepts (Err fault) = IsStopped cache cache' before after kepts fault
