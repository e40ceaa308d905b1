-- What the end of a session leaves of its depot.
use Rattle.std.proofs.Common.{◌≡◌, ℕ, ◌+◌, ◌*◌, ◌≤◌, List, [], ◌∷◌, Err, refl, ap, ◌∙◌, inl, inr, if◌then◌else◌, is_some, Option, None, Some}
use Rattle.ss_base.specs.declared.ids.ManifestId.{ManifestId}
use Rattle.ss_base.specs.declared.object.Object.TheVariants.{Manifest as ManifestObject}
use Rattle.ss_base.specs.declared.profile.Numbers.{Numbers}
use Rattle.ss_base.specs.ObjectName.{object_text}
use Rattle.manifest_codec.specs.declared.manifest.Manifest.{Manifest}
use Rattle.container_file.specs.declared.container_end.ContainerEnd.{ContainerEnd}
use Rattle.segment_plan.specs.Plan.{Located, end_against, puts_against}
use Rattle.outside.specs.Shelf.{CreateLeaves}
use Rattle.outside.specs.Views.{ShelfView}
use Rattle.outside.specs.declared.trouble.Trouble.{Trouble}
use Rattle.journal_entry.specs.declared.entry.Entry.{Entry}
use Rattle.journal_entry.specs.declared.entry.Point.TheVariants.{Finish, Abort}
use Rattle.store_core.specs.View.{KeptView, made}
use Rattle.depot.specs.declared.fault.LoadFault.{LoadFault}
use Rattle.depot.specs.declared.fault.LoadFault.TheVariants.{Shelf, Damaged, Unlike, Memory}
use Rattle.depot.specs.Calls.{HasRead, HasFailed}
use Rattle.depot.specs.Loading.{LoadAnswer}
use Rattle.depot.specs.Storing.{after_puts}
use Rattle.depot.specs.Storing.{IsStopped as IsPutStopped}
use Rattle.manifest_cache.specs.Cached.{held}
use Rattle.segment_store.specs.Loads.{Entries, Holding, after_load, after_turn, after_loads, IsStopped}
use Rattle.segment_store.specs.Stored.{text_against, after_segment}
use Rattle.stored_streams.specs.Plans.{Planned, end_of}

-- ---- loads change no object

-- nor do they write or erase
pub record IsUnwritten (before after : ShelfView) : Type 0 where
  pub wrote : after.wrote ≡ before.wrote
  pub erased : after.erased ≡ before.erased

-- one of them, which was made or not
record IsQuiet (before after : ShelfView) : Type 0 where
  same : after.held ≡ before.held
  unwritten : IsUnwritten before after

turn_quiet : (o : Option Located) (shelf : ShelfView) (kept : KeptView) (manifest : Manifest) → IsQuiet shelf (if is_some o then shelf else after_load shelf kept manifest)
turn_quiet None shelf kept manifest = record { same = refl; unwritten = record { wrote = refl; erased = refl } }
turn_quiet (Some one) shelf kept manifest = record { same = refl; unwritten = record { wrote = refl; erased = refl } }

pub loads_held : (holds : Holding) (shelf : ShelfView) (kepts : List KeptView) (manifests : List Manifest) → (after_loads holds shelf kepts manifests).held ≡ shelf.held
loads_held holds shelf [] manifests = refl
loads_held holds shelf (kept ∷ kepts) [] = refl
loads_held holds shelf (kept ∷ kepts) (manifest ∷ manifests) = loads_held holds (after_turn holds shelf kept manifest) kepts manifests ∙ (turn_quiet (holds kept) shelf kept manifest).same

failed_load-held : (before after : ShelfView) (kept : KeptView) (fault : LoadFault) → LoadAnswer before after kept (Err fault) → after.held ≡ before.held
failed_load-held before after kept Shelf has = ap (λ (s : ShelfView). s.held) has.call
failed_load-held before after kept (Damaged want got) has = ap (λ (s : ShelfView). s.held) has.given.call
failed_load-held before after kept (Unlike text) has = ap (λ (s : ShelfView). s.held) has.given.call
failed_load-held before after kept Memory (inl (inl same)) = ap (λ (s : ShelfView). s.held) same
failed_load-held before after kept Memory (inl (inr same)) = ap (λ (s : ShelfView). s.held) same
failed_load-held before after kept Memory (inr (given, has)) = ap (λ (s : ShelfView). s.held) has.call

pub stopped_loads-held : (cache cache' : Entries) (before after : ShelfView) (kepts : List KeptView) (fault : LoadFault) → IsStopped cache cache' before after kepts fault → after.held ≡ before.held
stopped_loads-held cache cache' before after kepts fault is =
    failed_load-held (after_loads (held cache) before is.done is.manifests) after is.kept fault is.failed ∙ loads_held (held cache) before is.done is.manifests

pub same_unwritten : (before after : ShelfView) → after ≡ before → IsUnwritten before after
same_unwritten before after same = record { wrote = ap (λ (s : ShelfView). s.wrote) same; erased = ap (λ (s : ShelfView). s.erased) same }

pub unwritten_then : (one two three : ShelfView) → IsUnwritten one two → IsUnwritten two three → IsUnwritten one three
unwritten_then one two three first second = record { wrote = second.wrote ∙ first.wrote; erased = second.erased ∙ first.erased }

pub loads_unwritten : (holds : Holding) (shelf : ShelfView) (kepts : List KeptView) (manifests : List Manifest) → IsUnwritten shelf (after_loads holds shelf kepts manifests)
loads_unwritten holds shelf [] manifests = record { wrote = refl; erased = refl }
loads_unwritten holds shelf (kept ∷ kepts) [] = record { wrote = refl; erased = refl }
loads_unwritten holds shelf (kept ∷ kepts) (manifest ∷ manifests) =
    let turn = after_turn holds shelf kept manifest in
    unwritten_then shelf turn (after_loads holds turn kepts manifests) (turn_quiet (holds kept) shelf kept manifest).unwritten (loads_unwritten holds turn kepts manifests)

read_unwritten : (before after : ShelfView) (name : List ℕ) (at max : ℕ) (bytes : List ℕ) → HasRead before after name at max bytes → IsUnwritten before after
read_unwritten before after name at max bytes has = record { wrote = ap (λ (s : ShelfView). s.wrote) has.call; erased = ap (λ (s : ShelfView). s.erased) has.call }

failed_load-unwritten : (before after : ShelfView) (kept : KeptView) (fault : LoadFault) → LoadAnswer before after kept (Err fault) → IsUnwritten before after
failed_load-unwritten before after kept Shelf has = record { wrote = ap (λ (s : ShelfView). s.wrote) has.call; erased = ap (λ (s : ShelfView). s.erased) has.call }
failed_load-unwritten before after kept (Damaged want got) has = read_unwritten before after (object_text (ManifestObject kept.id)) 0 (48 * kept.chunks) has.bytes has.given
failed_load-unwritten before after kept (Unlike text) has = read_unwritten before after (object_text (ManifestObject kept.id)) 0 (48 * kept.chunks) has.bytes has.given
failed_load-unwritten before after kept Memory (inl (inl same)) = same_unwritten before after same
failed_load-unwritten before after kept Memory (inl (inr same)) = record { wrote = ap (λ (s : ShelfView). s.wrote) same; erased = ap (λ (s : ShelfView). s.erased) same }
failed_load-unwritten before after kept Memory (inr (given, has)) = read_unwritten before after (object_text (ManifestObject kept.id)) 0 (48 * kept.chunks) given has

pub stopped_loads-unwritten : (cache cache' : Entries) (before after : ShelfView) (kepts : List KeptView) (fault : LoadFault) → IsStopped cache cache' before after kepts fault → IsUnwritten before after
stopped_loads-unwritten cache cache' before after kepts fault is =
    let between = after_loads (held cache) before is.done is.manifests in
    unwritten_then before between after (loads_unwritten (held cache) before is.done is.manifests) (failed_load-unwritten between after is.kept fault is.failed)

-- ---- a segment that was not committed

-- its puts and the write of its manifest, which is one of so many: one of them failed, or all are done
pub data HasPutSome (id : ManifestId) (chunks : List (List ℕ)) (against : List Located) (end : ContainerEnd) (room written : ℕ) (before after : ShelfView) : Type 0 where
  stopped : (trouble : Trouble) → id.seq ≤ written → IsPutStopped before after (puts_against chunks against end room) trouble → HasPutSome id chunks against end room written before after
  unwritten : (trouble : Trouble) → id.seq + 1 ≤ written → HasFailed (λ old new. CreateLeaves old new (object_text (ManifestObject id)) (text_against chunks against end room)) (after_puts before (puts_against chunks against end room)) after trouble → HasPutSome id chunks against end room written before after
  all_done : id.seq + 1 ≤ written → after ≡ after_segment before id chunks against end room → HasPutSome id chunks against end room written before after

-- the session ends with so many containers, and with so many manifests or more
pub data Closes (session containers count : ℕ) (last : Entry) : Type 0 where
  by_finish : last.point ≡ Finish session containers → Closes session containers count last
  by_abort : (written : ℕ) → count ≤ written → last.point ≡ Abort session containers written → Closes session containers count last

-- Behind the session's commits, of which there are so many, nothing was changed; or something of one more segment was
-- put, and the session was given up with that one laid out.
pub data IsLeft (n : Numbers) (author session count : ℕ) (last : Entry) (plans : List Planned) (before after : ShelfView) : Type 0 where
  untouched : after.held ≡ before.held → Closes session (end_of session plans).containers count last → IsLeft n author session count last plans before after
  put_some : (chunks : List (List ℕ)) (against : List Located) (written : ℕ)
      → last ≡ made author (Abort session (end_against chunks against (end_of session plans) n.room).containers written)
      → HasPutSome (record { session = session; seq = count }) chunks against (end_of session plans) n.room written before after → IsLeft n author session count last plans before after
