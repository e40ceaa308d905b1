use Rattle.std.proofs.Common.{◌∙◌, sym, arith}
use Rattle.ss_base.proofs.SearchLaws.{least-one, least-none}
use Rattle.tttd_chunker.specs.Cut.{meets}
use Rattle.tttd_chunker.proofs.plain.first_met.Goals as goal

pub returns-then-meets : goal.returns-then-meets
returns-then-meets c =
    sym (least-one (meets c.args.divisor c.args.rest.now) c.args.low c.args.high c.loop-k.k
    (record { from = omega arith; to = omega arith; passes = sym c.meets.ensures ∙ c.if-meets.true; before = c.loop-k.invariant }))

pub returns : goal.returns
returns c =
    sym (least-none (meets c.args.divisor c.args.rest.now) c.args.low c.args.high
    (record { none = λ j low high. c.loop-k.invariant j low (omega arith) }))
