-- The depot's count of faults over loads, puts and a manifest.
use Rattle.std.proofs.Common.{◌≡◌, ℕ, Bool, true, false, List, [], ◌∷◌, refl, sym, ap, ◌∙◌, subst, inl, inr, if◌then◌else◌, Err, Option, None, Some, is_some}
use Rattle.manifest_codec.specs.declared.manifest.Manifest.{Manifest}
use Rattle.ss_base.specs.declared.ids.ManifestId.{ManifestId}
use Rattle.container_file.specs.Layout.{Written as PutBytes}
use Rattle.segment_plan.specs.Plan.{Located, puts_against}
use Rattle.store_core.specs.View.{KeptView}
use Rattle.store_core.specs.declared.values.Stored.{Stored}
use Rattle.outside.specs.Views.{ShelfView}
use Rattle.outside.specs.declared.trouble.Trouble.{Trouble}
use Rattle.outside.specs.declared.trouble.Trouble.TheVariants.{Fault, Memory}
use Rattle.depot.specs.declared.fault.LoadFault.{LoadFault}
use Rattle.depot.specs.declared.fault.LoadFault.TheVariants as load
use Rattle.depot.specs.Calls.{after_create, after_append, CountsTrouble}
use Rattle.depot.specs.Loading.{LoadAnswer}
use Rattle.depot.specs.Storing.{put_name, after_put, after_puts}
use Rattle.depot.specs.Tokens.{WrittenView}
use Rattle.manifest_cache.specs.Cached.{held}
use Rattle.segment_store.specs.Loads.{Entries, Holding, after_load, after_turn, after_loads, IsStopped}
use Rattle.segment_store.specs.Storing.{Progress, IsStored, NotStored}
use Rattle.segment_store.specs.Storing.NotStored.{not_planned, put_failed, write_failed}
use Rattle.session.specs.Causes.{of_load, of_depot, DepotCount}

turn_quiet : (o : Option Located) (shelf : ShelfView) (kept : KeptView) (manifest : Manifest) → (if is_some o then shelf else after_load shelf kept manifest).faults ≡ shelf.faults
turn_quiet None shelf kept manifest = refl
turn_quiet (Some one) shelf kept manifest = refl

pub loads_quiet : (holds : Holding) (shelf : ShelfView) (kepts : List KeptView) (manifests : List Manifest) → (after_loads holds shelf kepts manifests).faults ≡ shelf.faults
loads_quiet holds shelf [] [] = refl
loads_quiet holds shelf [] (m ∷ ms) = refl
loads_quiet holds shelf (k ∷ ks) [] = refl
loads_quiet holds shelf (k ∷ ks) (m ∷ ms) = loads_quiet holds (after_turn holds shelf k m) ks ms ∙ turn_quiet (holds k) shelf k m

put_quiet : (shelf : ShelfView) (put : PutBytes) (starts : Bool) → (if starts then after_create shelf (put_name put) put.bytes else after_append shelf (put_name put) put.bytes).faults ≡ shelf.faults
put_quiet shelf put true = refl
put_quiet shelf put false = refl

pub puts_quiet : (shelf : ShelfView) (puts : List PutBytes) → (after_puts shelf puts).faults ≡ shelf.faults
puts_quiet shelf [] = refl
puts_quiet shelf (put ∷ puts) = puts_quiet (after_put shelf put) puts ∙ put_quiet shelf put put.starts

trouble_count : (trouble : Trouble) (before after : ℕ) → CountsTrouble trouble before after → DepotCount (of_depot trouble) before after
trouble_count Fault before after counts = counts.1
trouble_count Memory before after counts = counts

load_count : (before after : ShelfView) (kept : KeptView) (fault : LoadFault) → LoadAnswer before after kept (Err fault) → DepotCount (of_load fault) before.faults after.faults
load_count before after kept load.Shelf answer = answer.count.1
load_count before after kept (load.Damaged want got) answer = ap (λ (s : ShelfView). s.faults) answer.given.call
load_count before after kept (load.Unlike text) answer = ap (λ (s : ShelfView). s.faults) answer.given.call
load_count before after kept load.Memory (inl (inl same)) = ap (λ (s : ShelfView). s.faults) same
load_count before after kept load.Memory (inl (inr called)) = ap (λ (s : ShelfView). s.faults) called
load_count before after kept load.Memory (inr gave) = ap (λ (s : ShelfView). s.faults) gave.1.call

-- loads of which one failed
pub loads_count : (cache cache' : Entries) (before after : ShelfView) (kepts : List KeptView) (fault : LoadFault) → IsStopped cache cache' before after kepts fault → DepotCount (of_load fault) before.faults after.faults
loads_count cache cache' before after kepts fault stopped =
    subst (λ (count : ℕ). DepotCount (of_load fault) count after.faults) (loads_quiet (held cache) before stopped.done stopped.manifests)
    (load_count (after_loads (held cache) before stopped.done stopped.manifests) after stopped.kept fault stopped.failed)

-- a segment that was not stored
pub store_count : (id : ManifestId) (chunks : List (List ℕ)) (manifests : List Located) (room : ℕ) (before after : Progress) (trouble : Trouble) → NotStored id chunks manifests room before after trouble → DepotCount (of_depot trouble) before.shelf.faults after.shelf.faults
store_count id chunks manifests room before after trouble (not_planned memory same) =
    subst (λ (t : Trouble). DepotCount (of_depot t) before.shelf.faults after.shelf.faults) (sym memory) (ap (λ (p : Progress). p.shelf.faults) same)
store_count id chunks manifests room before after trouble (put_failed end texts stopped) =
    subst (λ (count : ℕ). DepotCount (of_depot trouble) count after.shelf.faults) (puts_quiet before.shelf stopped.done)
    (trouble_count trouble (after_puts before.shelf stopped.done).faults after.shelf.faults stopped.failed.count)
store_count id chunks manifests room before after trouble (write_failed end texts failed) =
    let puts = puts_against chunks manifests before.end room in
    subst (λ (count : ℕ). DepotCount (of_depot trouble) count after.shelf.faults) (puts_quiet before.shelf puts)
    (trouble_count trouble (after_puts before.shelf puts).faults after.shelf.faults failed.count)

-- a segment that was stored
pub stored_quiet : (id : ManifestId) (chunks : List (List ℕ)) (manifests : List Located) (room : ℕ) (before after : Progress) (stored : Stored) (written : WrittenView) → IsStored id chunks manifests room before after stored written → after.shelf.faults ≡ before.shelf.faults
stored_quiet id chunks manifests room before after stored written is =
    ap (λ (s : ShelfView). s.faults) is.shelf ∙ puts_quiet before.shelf (puts_against chunks manifests before.end room)
