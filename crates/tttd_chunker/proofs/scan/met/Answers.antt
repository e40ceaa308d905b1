use Rattle.tttd_chunker.specs.Cut.{window}
use Rattle.tttd_chunker.proofs.ScanLaws.{meets-sum}
use Rattle.tttd_chunker.proofs.scan.met.Goals as goal

pub returns : goal.returns
returns c bytes k is = meets-sum c.args.divisor bytes k c.high_half.result (c.high_half.ensures (window bytes k) is)
