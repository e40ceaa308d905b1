use Rattle.std.proofs.Common.{◌≡◌, ◌<◌, ◌+◌, true, reverse, length, take, get_or, ap, arith}
use Rattle.ss_base.specs.declared.ids.ManifestId.{ManifestId}
use Rattle.history.specs.Need.{commits_manifest}
use Rattle.pins_counts.specs.Counts.{one_if, hold_number}
use Rattle.history_counts.specs.InStep.{times}
use Rattle.history_counts.proofs.StepLaws.{in_past, times_more, times_most, holds_same, holds_joined, ready_at, use_above, history_ascending, agrees_released}
use Rattle.history_counts.proofs.holds.release_all.Goals as goal

pub loop-n-init : goal.loop-n-init
loop-n-init c = (c.requires.agrees, holds_same (reverse c.args.before.now) c.args.counts.now)

pub release_one-requires-clause-ready : goal.release_one-requires-clause-ready
release_one-requires-clause-ready c =
    let n = get_or c.args.numbers.now c.loop-n.n-index 0 in
    let within : n < length c.args.before.now = c.requires.within c.loop-n.n-index 0 c.loop-n-test.true in
    ready_at c.loop-n.counts c.index-before-n.result (reverse c.args.before.now) c.loop-n.invariant.0 (in_past c.args.before.now n c.index-before-n.result within c.index-before-n.is)

pub release_one-requires-clause-above : goal.release_one-requires-clause-above
release_one-requires-clause-above c = λ id does.
    let n = get_or c.args.numbers.now c.loop-n.n-index 0 in
    let within : n < length c.args.before.now = c.requires.within c.loop-n.n-index 0 c.loop-n-test.true in
    let most = times_most id c.args.before.now c.args.numbers.now c.loop-n.n-index c.index-before-n.result c.loop-n-test.true within c.index-before-n.is in
    let one = ap one_if does in
    let so_far = c.loop-n.invariant.1.holds id in
    let bound = c.requires.above id in
    omega (arith, most, one, so_far, bound)

pub release_one-requires-clause-used : goal.release_one-requires-clause-used
release_one-requires-clause-used c =
    let n = get_or c.args.numbers.now c.loop-n.n-index 0 in
    let within : n < length c.args.before.now = c.requires.within c.loop-n.n-index 0 c.loop-n-test.true in
    let above : (id : ManifestId) → commits_manifest id c.index-before-n.result.point ≡ true → 0 < hold_number c.loop-n.counts id = λ id does.
    let most = times_most id c.args.before.now c.args.numbers.now c.loop-n.n-index c.index-before-n.result c.loop-n-test.true within c.index-before-n.is in
    let one = ap one_if does in
    let so_far = c.loop-n.invariant.1.holds id in
    let bound = c.requires.above id in
    omega (arith, most, one, so_far, bound) in
    use_above c.loop-n.counts c.index-before-n.result (reverse c.args.before.now) c.loop-n.invariant.0 (in_past c.args.before.now n c.index-before-n.result within c.index-before-n.is) above

pub release_one-requires-clause-ascending : goal.release_one-requires-clause-ascending
release_one-requires-clause-ascending c =
    let n = get_or c.args.numbers.now c.loop-n.n-index 0 in
    let within : n < length c.args.before.now = c.requires.within c.loop-n.n-index 0 c.loop-n-test.true in
    history_ascending c.index-before-n.result (reverse c.args.before.now) c.requires.history (in_past c.args.before.now n c.index-before-n.result within c.index-before-n.is)

pub loop-n-preserved : goal.loop-n-preserved
loop-n-preserved c =
    let past = reverse c.args.before.now in
    let e = c.index-before-n.result in
    let i = c.loop-n.n-index in
    let n = get_or c.args.numbers.now i 0 in
    let within : n < length c.args.before.now = c.requires.within i 0 c.loop-n-test.true in
    let less = λ (id : ManifestId). one_if (commits_manifest id e.point) in (
      agrees_released c.loop-n.counts c.release_one.new.counts e past c.requires.history (in_past c.args.before.now n e within c.index-before-n.is) c.loop-n.invariant.0 c.release_one.ensures.holds c.release_one.ensures.uses,
      holds_joined less (times (take i c.args.numbers.now) past) (times (take (i + 1) c.args.numbers.now) past) c.release_one.new.counts c.loop-n.counts c.args.counts.now c.release_one.ensures.holds c.loop-n.invariant.1
          (λ id. (let sum = times_more id c.args.before.now c.args.numbers.now i e c.loop-n-test.true within c.index-before-n.is in omega (arith, sum))),
    )
