use Rattle.std.proofs.Common.{ap, ◌∙◌}
use Rattle.ss_base.specs.Profile.{numbers_of}
use Rattle.tttd_chunker.specs.Cut.{has_cut}
use Rattle.ss_base.proofs.SoundLaws.{AreSound-numbers_of}
use Rattle.tttd_chunker.proofs.StreamLaws.{has_cut-nil}
use Rattle.tttd_chunker.proofs.chunker.Chunker.new.Goals as goal

pub returns-clause-open : goal.returns-clause-open
returns-clause-open c =
    ap (has_cut (numbers_of c.args.profile)) c.new.ensures.items ∙ has_cut-nil (numbers_of c.args.profile) (AreSound-numbers_of c.args.profile)
