use Rattle.std.proofs.Common.{◌<◌, ◌+◌, reverse, length, take, get_or, ap, arith}
use Rattle.ss_base.specs.declared.ids.ManifestId.{ManifestId}
use Rattle.history.specs.Need.{commits_manifest}
use Rattle.pins_counts.specs.Counts.{one_if, hold_number}
use Rattle.history_counts.specs.InStep.{times}
use Rattle.history_counts.proofs.StepLaws.{in_past, times_more, times_most, holds_same, holds_joined, manifest_ready, agrees_pinned}
use Rattle.history_counts.proofs.holds.pin_all.Goals as goal

pub loop-n-init : goal.loop-n-init
loop-n-init c = (c.requires.agrees, holds_same (reverse c.args.before.now) c.args.counts.now)

pub pin_one-requires-clause-ready : goal.pin_one-requires-clause-ready
pin_one-requires-clause-ready c =
    let n = get_or c.args.numbers.now c.loop-n.n-index 0 in
    let within : n < length c.args.before.now = c.requires.within c.loop-n.n-index 0 c.loop-n-test.true in
    manifest_ready c.loop-n.counts c.index-before-n.result (reverse c.args.before.now) c.loop-n.invariant.0 (in_past c.args.before.now n c.index-before-n.result within c.index-before-n.is)

pub pin_one-requires-clause-below : goal.pin_one-requires-clause-below
pin_one-requires-clause-below c = λ id does.
    let n = get_or c.args.numbers.now c.loop-n.n-index 0 in
    let within : n < length c.args.before.now = c.requires.within c.loop-n.n-index 0 c.loop-n-test.true in
    let most = times_most id c.args.before.now c.args.numbers.now c.loop-n.n-index c.index-before-n.result c.loop-n-test.true within c.index-before-n.is in
    let one = ap one_if does in
    let so_far = c.loop-n.invariant.1.holds id in
    let bound = c.requires.below id in
    omega (arith, most, one, so_far, bound)

pub loop-n-preserved : goal.loop-n-preserved
loop-n-preserved c =
    let past = reverse c.args.before.now in
    let e = c.index-before-n.result in
    let i = c.loop-n.n-index in
    let n = get_or c.args.numbers.now i 0 in
    let within : n < length c.args.before.now = c.requires.within i 0 c.loop-n-test.true in
    let more = λ (id : ManifestId). one_if (commits_manifest id e.point) in
    let held : (id : ManifestId) → 0 < more id → 0 < hold_number c.loop-n.counts id = λ id some.
    let most = times_most id c.args.before.now c.args.numbers.now i e c.loop-n-test.true within c.index-before-n.is in
    let first = c.requires.held id (omega (arith, most, some)) in
    let so_far = c.loop-n.invariant.1.holds id in
    omega (arith, first, so_far) in (
      agrees_pinned more c.loop-n.counts c.pin_one.new.counts past c.loop-n.invariant.0 c.pin_one.ensures.holds c.pin_one.ensures.uses held,
      holds_joined (times (take i c.args.numbers.now) past) more (times (take (i + 1) c.args.numbers.now) past) c.args.counts.now c.loop-n.counts c.pin_one.new.counts c.loop-n.invariant.1 c.pin_one.ensures.holds
          (λ id. times_more id c.args.before.now c.args.numbers.now i e c.loop-n-test.true within c.index-before-n.is),
    )
