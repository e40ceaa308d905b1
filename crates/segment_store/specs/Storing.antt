-- What storing a segment answers (this project's own).
use Rattle.std.specs.Prelude.{ℕ, ◌≡◌, ◌+◌, List, map, Result, Ok, Err}
use Rattle.ss_base.specs.declared.ids.ManifestId.{ManifestId}
use Rattle.ss_base.specs.declared.object.Object.TheVariants.{Manifest}
use Rattle.ss_base.specs.ObjectName.{object_text}
use Rattle.chunk_name.specs.Pieces.{name_of_bytes}
use Rattle.container_file.specs.declared.container_end.ContainerEnd.{ContainerEnd}
use Rattle.container_file.specs.Layout.{written}
use Rattle.segment_plan.specs.declared.segment_plan.SegmentPlan.{SegmentPlan}
use Rattle.segment_plan.specs.Plan.{Located, puts_against, end_against}
use Rattle.store_core.specs.declared.values.Stored.{Stored}
use Rattle.outside.specs.Shelf.{CreateLeaves}
use Rattle.outside.specs.Views.{ShelfView}
use Rattle.outside.specs.declared.trouble.Trouble.{Trouble}
use Rattle.outside.specs.declared.trouble.Trouble.TheVariants.{Memory}
use Rattle.depot.specs.Calls.{after_create, HasFailed}
use Rattle.depot.specs.Storing.{after_puts, puts_len, IsStopped}
use Rattle.depot.specs.Tokens.{WrittenView}
use Rattle.segment_store.specs.Stored.{text_against, after_segment, IsStoredOf, IsWrittenFor}

-- How far a session has stored: what is observed of the depot's shelf, how far its containers go, and how many of its
-- manifests were written or tried.
pub record Progress : Type 0 where
  pub shelf : ShelfView
  pub end : ContainerEnd
  pub texts : ℕ

-- A segment was stored: its fresh chunks, then its manifest, and nothing else.
pub record IsStored (id : ManifestId) (chunks : List (List ℕ)) (manifests : List Located) (room : ℕ) (before after : Progress) (stored : Stored) (written : WrittenView) : Type 0 where
  pub shelf : after.shelf ≡ after_segment before.shelf id chunks manifests before.end room
  pub end : after.end ≡ end_against chunks manifests before.end room
  pub texts : after.texts ≡ before.texts + 1
  pub stored_is : IsStoredOf chunks manifests before.end room stored
  pub written_is : IsWrittenFor id (puts_against chunks manifests before.end room) stored written

-- A segment was not stored. Its plan wanted memory, and all is as before; or one of its puts failed; or all its puts
-- are done and its manifest's write failed.
pub data NotStored (id : ManifestId) (chunks : List (List ℕ)) (manifests : List Located) (room : ℕ) (before after : Progress) (trouble : Trouble) : Type 0 where
  not_planned : trouble ≡ Memory → after ≡ before → NotStored id chunks manifests room before after trouble
  put_failed : after.end ≡ end_against chunks manifests before.end room → after.texts ≡ before.texts
      → IsStopped before.shelf after.shelf (puts_against chunks manifests before.end room) trouble
      → NotStored id chunks manifests room before after trouble
  write_failed : after.end ≡ end_against chunks manifests before.end room → after.texts ≡ before.texts + 1
      → HasFailed (λ old new. CreateLeaves old new (object_text (Manifest id)) (text_against chunks manifests before.end room))
      (after_puts before.shelf (puts_against chunks manifests before.end room)) after.shelf trouble
      → NotStored id chunks manifests room before after trouble

-- a segment with these chunks, stored against these manifests
abbrev pub SegmentAnswer : ManifestId → List (List ℕ) → List Located → ℕ → Progress → Progress → Result (Stored × WrittenView) Trouble → Type 0
SegmentAnswer id chunks manifests room before after (Ok both) = IsStored id chunks manifests room before after both.0 both.1
SegmentAnswer id chunks manifests room before after (Err trouble) = NotStored id chunks manifests room before after trouble

-- What a plan's puts and its text did to the shelf and to the number of texts: both are done; or a put failed; or all
-- puts are done and the write failed.
pub data PlanFailed (id : ManifestId) (plan : SegmentPlan) (before after : ShelfView) (texts texts' : ℕ) (trouble : Trouble) : Type 0 where
  put_stopped : texts' ≡ texts → IsStopped before after (map written plan.puts.items) trouble → PlanFailed id plan before after texts texts' trouble
  write_stopped : texts' ≡ texts + 1
      → HasFailed (λ old new. CreateLeaves old new (object_text (Manifest id)) plan.text.items) (after_puts before (map written plan.puts.items)) after trouble
      → PlanFailed id plan before after texts texts' trouble

abbrev pub PlanAnswer : ManifestId → SegmentPlan → ShelfView → ShelfView → ℕ → ℕ → Result WrittenView Trouble → Type 0
PlanAnswer id plan before after texts texts' (Ok done) =
    (done ≡ record { id = id; sum = puts_len plan.puts.items; text = name_of_bytes plan.text.items })
    × (after ≡ after_create (after_puts before (map written plan.puts.items)) (object_text (Manifest id)) plan.text.items)
    × (texts' ≡ texts + 1)
PlanAnswer id plan before after texts texts' (Err trouble) = PlanFailed id plan before after texts texts' trouble
