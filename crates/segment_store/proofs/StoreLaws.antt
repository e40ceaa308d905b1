-- What a plan of a segment stores, and that a commit can record it.
use Rattle.std.proofs.Common.{◌≡◌, ℕ, ◌+◌, ◌^◌, ◌<◌, true, List, length, vec_len, ap, subst, arith}
use Rattle.std.proofs.lemmas.Bool.{and_from, le-leb}
use Rattle.ss_base.specs.declared.ids.ManifestId.{ManifestId}
use Rattle.ss_base.specs.declared.object.Object.TheVariants.{Manifest as ManifestObject}
use Rattle.ss_base.specs.ObjectName.{object_text}
use Rattle.segmenter.specs.declared.segment.Segment.{Segment}
use Rattle.journal_entry.specs.Bounds.{are_counts, most_chunks, most_bytes}
use Rattle.container_file.specs.declared.container_end.ContainerEnd.{ContainerEnd}
use Rattle.container_file.specs.Layout.{Written as PutBytes}
use Rattle.segment_plan.specs.declared.segment_plan.SegmentPlan.{SegmentPlan}
use Rattle.segment_plan.specs.Plan.{Located, puts_against}
use Rattle.segment_plan.specs.Planned.{segment_chunks, IsPlanOf, HasCounts, CanBeStored}
use Rattle.outside.specs.Shelf.{CreateLeaves}
use Rattle.outside.specs.Views.{ShelfView}
use Rattle.outside.specs.declared.trouble.Trouble.{Trouble}
use Rattle.depot.specs.Calls.{HasFailed}
use Rattle.depot.specs.Storing.{after_puts, IsStopped}
use Rattle.segment_store.specs.Stored.{GoesOn, CanBeCommitted, stored_by}
use Rattle.segment_store.specs.Storing.{NotStored, PlanFailed}
use Rattle.segment_store.specs.Storing.NotStored.{put_failed, write_failed}
use Rattle.segment_store.specs.Storing.PlanFailed.{put_stopped, write_stopped}
use Rattle.segment_store.proofs.UseLaws.{ascending_is}

-- a plan that was not stored
pub plan_failed : (id : ManifestId) (chunks : List (List ℕ)) (manifests : List Located) (end : ContainerEnd) (room : ℕ) (plan : SegmentPlan) (shelf shelf' : ShelfView) (texts texts' : ℕ) (trouble : Trouble)
    → IsPlanOf chunks manifests end room plan → PlanFailed id plan shelf shelf' texts texts' trouble
    → NotStored id chunks manifests room (record { shelf = shelf; end = end; texts = texts }) (record { shelf = shelf'; end = plan.end; texts = texts' }) trouble
plan_failed id chunks manifests end room plan shelf shelf' texts texts' trouble is (put_stopped same stopped) =
    put_failed is.end same (subst (λ (ps : List PutBytes). IsStopped shelf shelf' ps trouble) is.puts stopped)
plan_failed id chunks manifests end room plan shelf shelf' texts texts' trouble is (write_stopped same failed) =
    let name = object_text (ManifestObject id) in
    write_failed is.end same
    (subst (λ (text : List ℕ). HasFailed (λ old new. CreateLeaves old new name text) (after_puts shelf (puts_against chunks manifests end room)) shelf' trouble) is.text
    (subst (λ (ps : List PutBytes). HasFailed (λ old new. CreateLeaves old new name plan.text.items) (after_puts shelf ps) shelf' trouble) is.puts failed))

-- containers go on by at most one for each piece
pub plan_goes_on : (segment : Segment) (manifests : List Located) (end : ContainerEnd) (room : ℕ) (plan : SegmentPlan)
    → IsPlanOf (segment_chunks segment) manifests end room plan → CanBeStored manifests end plan → GoesOn end plan.end (vec_len segment.pieces)
plan_goes_on segment manifests end room plan is can =
    let pieces_are = ap length segment.parts.parts in
    let size : vec_len segment.pieces ≡ length segment.pieces.items = omega arith in
    let count = is.chunk_count in
    let fresh = can.counts.fresh in
    let most = can.goes_on.most in
    record { session = can.goes_on.session; least = can.goes_on.least; most = omega (arith, pieces_are, size, count, fresh, most) }

counts_are : (plan : SegmentPlan) → HasCounts plan → are_counts plan.chunks plan.bytes plan.fresh plan.fresh_bytes ≡ true
counts_are plan has =
    and_from _ _ (le-leb 1 plan.chunks has.some)
    (and_from _ _ (le-leb plan.chunks most_chunks has.chunks)
    (and_from _ _ (le-leb plan.chunks plan.bytes has.bytes)
    (and_from _ _ (le-leb plan.bytes most_bytes has.bounded)
    (and_from _ _ (le-leb plan.fresh plan.chunks has.fresh) (le-leb plan.fresh_bytes plan.bytes has.fresh_bytes)))))

-- a commit can record a stored plan
pub plan_committed : (segment : Segment) (manifests : List Located) (end : ContainerEnd) (room : ℕ) (plan : SegmentPlan)
    → IsPlanOf (segment_chunks segment) manifests end room plan → CanBeStored manifests end plan → end.containers + vec_len segment.pieces < 2 ^ 32
    → CanBeCommitted manifests plan.end (stored_by plan)
plan_committed segment manifests end room plan is can few =
    let on = plan_goes_on segment manifests end room plan is can in
    let most = on.most in
    record {
      counts = counts_are plan can.counts;
      ascending = ascending_is plan.uses.items is.uses.ascending;
      most = can.uses.count;
      each = can.uses.each;
      few = omega (arith, most, few);
    }
