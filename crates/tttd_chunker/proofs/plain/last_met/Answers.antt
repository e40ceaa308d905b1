use Rattle.std.proofs.Common.{◌-◌, ◌∙◌, sym, true, false, arith}
use Rattle.ss_base.proofs.SearchLaws.{greatest-above}
use Rattle.tttd_chunker.specs.Cut.{meets}
use Rattle.tttd_chunker.proofs.SearchSteps.{greatest-next}
use Rattle.tttd_chunker.proofs.plain.last_met.Goals as goal
use Rattle.tttd_chunker.proofs.plain.last_met.Goals.{then-meets, else-meets}

pub loop-k-init : goal.loop-k-init
loop-k-init c = sym (greatest-above (meets c.args.divisor c.args.rest.now) c.args.low (c.args.low - 1) (omega arith))

pub loop-k-preserved : goal.loop-k-preserved
loop-k-preserved c =
    let passes = meets c.args.divisor c.args.rest.now in
    elim c.if-meets.branch [
      | then-meets w ↦ w.found-is ∙ sym (greatest-next passes c.args.low c.loop-k.k (omega arith) (omega arith) true (sym c.meets.ensures ∙ w.if-meets.true))
      | else-meets w ↦ w.found-is ∙ c.loop-k.invariant ∙ sym (greatest-next passes c.args.low c.loop-k.k (omega arith) (omega arith) false (sym c.meets.ensures ∙ w.if-meets.false))
    ]
