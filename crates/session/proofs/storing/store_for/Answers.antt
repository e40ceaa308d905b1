use Rattle.std.proofs.Common.{◌≡◌, ℕ, List, length, refl, sym, ap, ◌∙◌, subst, arith}
use Rattle.std.specs.Prelude.{Ok}
use Rattle.depot.specs.Seen.{seen}
use Rattle.depot.specs.declared.fault.BackupFault.{BackupFault}
use Rattle.store_core.specs.View.{KeptView}
use Rattle.segment_plan.specs.Planned.{segment_chunks, located}
use Rattle.manifest_cache.specs.Cached.{held}
use Rattle.segment_store.specs.Loads.{LoadsAnswer, IsStopped}
use Rattle.segment_store.specs.Storing.{IsStored, NotStored}
use Rattle.manifest_codec.specs.declared.manifest.Manifest.{Manifest}
use Rattle.outside.specs.Views.{ShelfView}
use Rattle.session.specs.Causes.{of_depot, DepotCount}
use Rattle.session.specs.Ready.{progress_of}
use Rattle.session.specs.Stops.NotStoredFor.{not_loaded}
use Rattle.session.proofs.CountLaws.{loads_count, loads_quiet, store_count, stored_quiet}
use Rattle.session.proofs.StoreLaws.{loaded_len, stored_for, not_stored_for}
use Rattle.session.proofs.storing.store_for.Goals as goal

pub returns-in-Err-clause-answer : goal.returns-in-Err-clause-answer
returns-in-Err-clause-answer g c =
    let shelf = seen g.K.Shelf c.args.depot.now in
    let shelf' = seen g.K.Shelf c.load_champions.new.depot in
    let stopped = subst (λ (ks : List KeptView). IsStopped c.args.cache.now.entries c.load_champions.new.cache.entries shelf shelf' ks c.in-Err.fault) c.deref.ensures.value c.in-Err.ensures.answer in
    λ chunks has. not_loaded c.in-Err.fault c.of_load.ensures refl stopped

pub returns-in-Err-clause-count : goal.returns-in-Err-clause-count
returns-in-Err-clause-count g c =
    let shelf = seen g.K.Shelf c.args.depot.now in
    let shelf' = seen g.K.Shelf c.load_champions.new.depot in
    subst (λ (f : BackupFault). DepotCount f shelf.faults shelf'.faults) (sym c.of_load.ensures)
    (loads_count c.args.cache.now.entries c.load_champions.new.cache.entries shelf shelf' c.deref.result.now c.in-Err.fault c.in-Err.ensures.answer)

pub store_segment-requires-clause-champions : goal.store_segment-requires-clause-champions
store_segment-requires-clause-champions g c =
    let loaded = c.in-Ok.ensures.answer.loaded in
    let len : length c.deref-2.result.now ≡ length c.deref.result.now = ap length c.deref-2.ensures.value ∙ loaded_len (held c.args.cache.now.entries) (seen g.K.Shelf c.args.depot.now) c.deref.result.now c.in-Ok.manifests.items loaded in
    omega (arith, len, c.deref.ensures.len, c.len-2.ensures, c.if-not-has_room.ensures.champions)

pub returns-in-Ok-store_segment-clause-answer : goal.returns-in-Ok-store_segment-clause-answer
returns-in-Ok-store_segment-clause-answer g c =
    let shelf = seen g.K.Shelf c.args.depot.now in
    let loads = subst (λ (ks : List KeptView). LoadsAnswer c.args.cache.now.entries c.load_champions.new.cache.entries shelf (seen g.K.Shelf c.load_champions.new.depot) ks (Ok c.in-Ok.manifests)) c.deref.ensures.value c.in-Ok.ensures.answer in
    let manifests = c.in-Ok.manifests.items in
    let both = c.in-Ok-store_segment.both in
    let one = subst (λ (ms : List Manifest). IsStored c.args.choice.now.manifest (segment_chunks c.args.segment.now) (located ms) c.args.room (record { shelf = seen g.K.Shelf c.load_champions.new.depot; end = c.args.extent.now.end; texts = c.args.extent.now.texts }) (record { shelf = seen g.K.Shelf c.store_segment.new.depot; end = c.store_segment.new.end; texts = c.store_segment.new.texts }) both.0 both.1) c.deref-2.ensures.value c.in-Ok-store_segment.ensures.answer in
    λ chunks has.
    stored_for c.args.segment.now chunks has c.args.choice.now c.args.room (progress_of shelf c.args.extent.now c.args.cache.now.entries)
    (record { shelf = seen g.K.Shelf c.store_segment.new.depot; end = c.store_segment.new.end; texts = c.store_segment.new.texts; cache = c.load_champions.new.cache.entries })
    (seen g.K.Shelf c.load_champions.new.depot) manifests both.0 both.1 loads one

pub returns-in-Ok-store_segment-clause-count : goal.returns-in-Ok-store_segment-clause-count
returns-in-Ok-store_segment-clause-count g c =
    let shelf = seen g.K.Shelf c.args.depot.now in
    stored_quiet _ _ _ _ _ _ _ _ c.in-Ok-store_segment.ensures.answer
    ∙ ap (λ (s : ShelfView). s.faults) c.in-Ok.ensures.answer.shelf
    ∙ loads_quiet (held c.args.cache.now.entries) shelf c.deref.result.now c.in-Ok.manifests.items

pub returns-clause-answer : goal.returns-clause-answer
returns-clause-answer g c =
    let shelf = seen g.K.Shelf c.args.depot.now in
    let loads = subst (λ (ks : List KeptView). LoadsAnswer c.args.cache.now.entries c.load_champions.new.cache.entries shelf (seen g.K.Shelf c.load_champions.new.depot) ks (Ok c.in-Ok.manifests)) c.deref.ensures.value c.in-Ok.ensures.answer in
    let manifests = c.in-Ok.manifests.items in
    let trouble = c.in-Err-store_segment.trouble in
    let failed = subst (λ (ms : List Manifest). NotStored c.args.choice.now.manifest (segment_chunks c.args.segment.now) (located ms) c.args.room (record { shelf = seen g.K.Shelf c.load_champions.new.depot; end = c.args.extent.now.end; texts = c.args.extent.now.texts }) (record { shelf = seen g.K.Shelf c.store_segment.new.depot; end = c.store_segment.new.end; texts = c.store_segment.new.texts }) trouble) c.deref-2.ensures.value c.in-Err-store_segment.ensures.answer in
    λ chunks has.
    not_stored_for c.args.segment.now chunks has c.args.choice.now c.args.room (progress_of shelf c.args.extent.now c.args.cache.now.entries)
    (record { shelf = seen g.K.Shelf c.store_segment.new.depot; end = c.store_segment.new.end; texts = c.store_segment.new.texts; cache = c.load_champions.new.cache.entries })
    (seen g.K.Shelf c.load_champions.new.depot) manifests trouble c.of_depot.result c.of_depot.ensures loads failed

pub returns-clause-count : goal.returns-clause-count
returns-clause-count g c =
    let shelf = seen g.K.Shelf c.args.depot.now in
    let shelf' = seen g.K.Shelf c.store_segment.new.depot in
    let quiet = ap (λ (s : ShelfView). s.faults) c.in-Ok.ensures.answer.shelf ∙ loads_quiet (held c.args.cache.now.entries) shelf c.deref.result.now c.in-Ok.manifests.items in
    subst (λ (f : BackupFault). DepotCount f shelf.faults shelf'.faults) (sym c.of_depot.ensures)
    (subst (λ (count : ℕ). DepotCount (of_depot c.in-Err-store_segment.trouble) count shelf'.faults) quiet
    (store_count _ _ _ _ _ _ _ c.in-Err-store_segment.ensures.answer))
