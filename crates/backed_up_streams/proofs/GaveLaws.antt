-- What a depot's shelf tells of its reads, over the calls of a session.
use Rattle.std.proofs.Common.{◌≡◌, ℕ, ◌*◌, List, [], ◌∷◌, if◌then◌else◌, is_some, Option, None, Some, Err, refl, ap, ◌∙◌, inl, inr}
use Rattle.std.proofs.lemmas.Bool.{cases_Bool}
use Rattle.ss_base.specs.declared.ids.ManifestId.{ManifestId}
use Rattle.ss_base.specs.declared.object.Object.TheVariants.{Manifest as ManifestObject}
use Rattle.ss_base.specs.ObjectName.{object_text}
use Rattle.manifest_codec.specs.declared.manifest.Manifest.{Manifest}
use Rattle.manifest_codec.specs.Text.{manifest_text}
use Rattle.container_file.specs.declared.container_end.ContainerEnd.{ContainerEnd}
use Rattle.container_file.specs.Layout.{Written as PutBytes}
use Rattle.segment_plan.specs.Plan.{Located, puts_against}
use Rattle.outside.specs.Shelf.{Objects, read_of}
use Rattle.outside.specs.Views.{ShelfView}
use Rattle.outside.specs.declared.trouble.Trouble.{Trouble}
use Rattle.store_core.specs.View.{KeptView}
use Rattle.depot.specs.declared.fault.LoadFault.{LoadFault}
use Rattle.depot.specs.declared.fault.LoadFault.TheVariants.{Shelf, Damaged, Unlike, Memory}
use Rattle.depot.specs.Calls.{HasRead, HasFailed}
use Rattle.depot.specs.Loading.{LoadAnswer}
use Rattle.depot.specs.Storing.{PutLeaves, after_put, after_puts}
use Rattle.depot.specs.Storing.{IsStopped as IsPutStopped}
use Rattle.stored_streams.proofs.ToldLaws.{GaveMore, gave_same, gave_one, gave_then}
use Rattle.manifest_cache.specs.Cached.{held}
use Rattle.segment_store.specs.Loads.{Entries, Holding, after_load, after_turn, after_loads, IsStopped}
use Rattle.segment_store.specs.Stored.{after_segment}

-- ---- loads

turn_gave : (o : Option Located) (shelf : ShelfView) (kept : KeptView) (manifest : Manifest) → GaveMore shelf (if is_some o then shelf else after_load shelf kept manifest)
turn_gave None shelf kept manifest = record { reads = read_of (object_text (ManifestObject kept.id)) 0 (48 * kept.chunks) (manifest_text manifest.pieces.items manifest.places.items) ∷ []; gave = refl }
turn_gave (Some one) shelf kept manifest = gave_same shelf shelf refl

pub loads_gave : (holds : Holding) (shelf : ShelfView) (kepts : List KeptView) (manifests : List Manifest) → GaveMore shelf (after_loads holds shelf kepts manifests)
loads_gave holds shelf [] manifests = gave_same shelf shelf refl
loads_gave holds shelf (kept ∷ kepts) [] = gave_same shelf shelf refl
loads_gave holds shelf (kept ∷ kepts) (manifest ∷ manifests) =
    let turn = after_turn holds shelf kept manifest in
    gave_then shelf turn (after_loads holds turn kepts manifests) (turn_gave (holds kept) shelf kept manifest) (loads_gave holds turn kepts manifests)

read_gave : (before after : ShelfView) (name : List ℕ) (at max : ℕ) (bytes : List ℕ) → HasRead before after name at max bytes → GaveMore before after
read_gave before after name at max bytes has = gave_one before after (read_of name at max bytes) (ap (λ (s : ShelfView). s.gave) has.call)

failed_load-gave : (before after : ShelfView) (kept : KeptView) (fault : LoadFault) → LoadAnswer before after kept (Err fault) → GaveMore before after
failed_load-gave before after kept Shelf has = gave_same before after (ap (λ (s : ShelfView). s.gave) has.call)
failed_load-gave before after kept (Damaged want got) has = read_gave before after (object_text (ManifestObject kept.id)) 0 (48 * kept.chunks) has.bytes has.given
failed_load-gave before after kept (Unlike text) has = read_gave before after (object_text (ManifestObject kept.id)) 0 (48 * kept.chunks) has.bytes has.given
failed_load-gave before after kept Memory (inl (inl same)) = gave_same before after (ap (λ (s : ShelfView). s.gave) same)
failed_load-gave before after kept Memory (inl (inr same)) = gave_same before after (ap (λ (s : ShelfView). s.gave) same)
failed_load-gave before after kept Memory (inr (given, has)) = read_gave before after (object_text (ManifestObject kept.id)) 0 (48 * kept.chunks) given has

pub stopped_loads-gave : (cache cache' : Entries) (before after : ShelfView) (kepts : List KeptView) (fault : LoadFault) → IsStopped cache cache' before after kepts fault → GaveMore before after
stopped_loads-gave cache cache' before after kepts fault is =
    let between = after_loads (held cache) before is.done is.manifests in
    gave_then before between after (loads_gave (held cache) before is.done is.manifests) (failed_load-gave between after is.kept fault is.failed)

-- ---- puts and creates, which read nothing

put_gave : (shelf : ShelfView) (put : PutBytes) → (after_put shelf put).gave ≡ shelf.gave
put_gave shelf put = elim (cases_Bool put.starts) [ inl starts ↦ rw starts refl | inr adds ↦ rw adds refl ]

pub puts_gave : (shelf : ShelfView) (puts : List PutBytes) → (after_puts shelf puts).gave ≡ shelf.gave
puts_gave shelf [] = refl
puts_gave shelf (put ∷ puts) = puts_gave (after_put shelf put) puts ∙ put_gave shelf put

pub segment_gave : (shelf : ShelfView) (id : ManifestId) (chunks : List (List ℕ)) (manifests : List Located) (end : ContainerEnd) (room : ℕ) → (after_segment shelf id chunks manifests end room).gave ≡ shelf.gave
segment_gave shelf id chunks manifests end room = puts_gave shelf (puts_against chunks manifests end room)

pub failed-gave : (leaves : Option Objects → Option Objects → Type 0) (before after : ShelfView) (trouble : Trouble) → HasFailed leaves before after trouble → after.gave ≡ before.gave
failed-gave leaves before after trouble has = ap (λ (s : ShelfView). s.gave) has.others

pub stopped_puts-gave : (before after : ShelfView) (puts : List PutBytes) (trouble : Trouble) → IsPutStopped before after puts trouble → after.gave ≡ before.gave
stopped_puts-gave before after puts trouble is = failed-gave (PutLeaves is.put) (after_puts before is.done) after trouble is.failed ∙ puts_gave before is.done
