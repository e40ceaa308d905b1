use Rattle.std.proofs.Common.{rules}
use Rattle.tttd_chunker.specs.Cut.{window, meets}
use Rattle.tttd_chunker.proofs.plain.meets.Goals as goal

pub returns : goal.returns
unfolding meets window
returns c = search rules
