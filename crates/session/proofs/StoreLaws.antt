-- A segment that is stored for its choice.
use Rattle.std.proofs.Common.{◌≡◌, ℕ, ◌+◌, ◌⊎◌, List, [], ◌∷◌, length, refl, ap, subst, suc, inl, inr}
use Rattle.ss_base.specs.declared.ids.ManifestId.{ManifestId}
use Rattle.manifest_codec.specs.declared.manifest.Manifest.{Manifest}
use Rattle.segmenter.specs.declared.segment.Segment.{Segment}
use Rattle.segmenter.specs.Segment.{HasChunks}
use Rattle.segment_plan.specs.Plan.{Located}
use Rattle.segment_plan.specs.Planned.{segment_chunks, located}
use Rattle.segment_plan.proofs.ChunkLaws.{segment-again}
use Rattle.store_core.specs.View.{KeptView}
use Rattle.store_core.specs.declared.values.Choice.{Choice}
use Rattle.store_core.specs.declared.values.Stored.{Stored}
use Rattle.outside.specs.Views.{ShelfView}
use Rattle.outside.specs.declared.trouble.Trouble.{Trouble}
use Rattle.depot.specs.declared.fault.BackupFault.{BackupFault}
use Rattle.depot.specs.Tokens.{WrittenView}
use Rattle.segment_store.specs.Loads.{Holding, after_turn, AreLoaded, HasLoaded}
use Rattle.segment_store.specs.Storing.{Progress as StoreProgress, IsStored, NotStored}
use Rattle.segment_store.specs.Storing.NotStored.{not_planned, put_failed, write_failed}
use Rattle.session.specs.Causes.{of_depot}
use Rattle.session.specs.Stores.{Progress, stored_part, IsStoredFor}
use Rattle.session.specs.Stops.{NotStoredFor}
use Rattle.session.specs.Stops.NotStoredFor.{not_stored}

-- there is one manifest for each champion
pub loaded_len : (holds : Holding) (shelf : ShelfView) (kepts : List KeptView) (manifests : List Manifest) → AreLoaded holds shelf kepts manifests → length manifests ≡ length kepts
loaded_len holds shelf [] [] are = refl
loaded_len holds shelf [] (m ∷ ms) are = absurd are
loaded_len holds shelf (k ∷ ks) [] are = absurd are
loaded_len holds shelf (k ∷ ks) (m ∷ ms) are = ap suc (loaded_len holds (after_turn holds shelf k m) ks ms are.1)

-- what is stored, over another shelf
abbrev pub stored_over : ShelfView → Progress → StoreProgress
stored_over shelf progress = record { shelf = shelf; end = progress.end; texts = progress.texts }

module _ (segment : Segment) (chunks : List (List ℕ)) (has : HasChunks segment chunks) (choice : Choice) (room : ℕ) (before after : Progress) where
  -- the champions' manifests were loaded, and the segment stored against them
  pub stored_for : (shelf : ShelfView) (manifests : List Manifest) (stored : Stored) (written : WrittenView)
      → HasLoaded before.cache after.cache before.shelf shelf choice.champions.items manifests
      → IsStored choice.manifest (segment_chunks segment) (located manifests) room (stored_over shelf before) (stored_part after) stored written
      → IsStoredFor chunks choice room before after stored written
  stored_for shelf manifests stored written loads one = record {
    manifests = manifests;
    loaded = loads.loaded;
    caches = loads.caches;
    stored_is =
        subst (λ (s : ShelfView). IsStored choice.manifest chunks (located manifests) room (stored_over s before) (stored_part after) stored written) loads.shelf
        (subst (λ (cs : List (List ℕ)). IsStored choice.manifest cs (located manifests) room (stored_over shelf before) (stored_part after) stored written) (segment-again segment chunks has) one);
  }

  -- or not stored
  pub not_stored_for : (shelf : ShelfView) (manifests : List Manifest) (trouble : Trouble) (fault : BackupFault)
      → fault ≡ of_depot trouble → HasLoaded before.cache after.cache before.shelf shelf choice.champions.items manifests
      → NotStored choice.manifest (segment_chunks segment) (located manifests) room (stored_over shelf before) (stored_part after) trouble
      → NotStoredFor chunks choice room before after fault
  not_stored_for shelf manifests trouble fault cause loads failed =
      not_stored manifests trouble cause loads.loaded loads.caches
      (subst (λ (s : ShelfView). NotStored choice.manifest chunks (located manifests) room (stored_over s before) (stored_part after) trouble) loads.shelf
      (subst (λ (cs : List (List ℕ)). NotStored choice.manifest cs (located manifests) room (stored_over shelf before) (stored_part after) trouble) (segment-again segment chunks has) failed))

-- how many texts there are where a segment was not stored
pub texts_of : (id : ManifestId) (chunks : List (List ℕ)) (manifests : List Located) (room : ℕ) (before after : StoreProgress) (trouble : Trouble)
    → NotStored id chunks manifests room before after trouble → (after.texts ≡ before.texts) ⊎ (after.texts ≡ before.texts + 1)
texts_of id chunks manifests room before after trouble (not_planned memory same) = inl (ap (λ (p : StoreProgress). p.texts) same)
texts_of id chunks manifests room before after trouble (put_failed end texts stopped) = inl texts
texts_of id chunks manifests room before after trouble (write_failed end texts failed) = inr texts
