use Rattle.tttd_chunker.proofs.CutLaws.{cut-is, cut-one, cut-whole, cut-sized}
use Rattle.ss_base.proofs.SoundLaws.{AreSound-numbers_of}
use Rattle.ss_base.specs.Profile.{numbers_of}
use Rattle.tttd_chunker.proofs.laws.cut_is_tttd.Goals as goal

pub returns : goal.returns
returns c = record {
  is_cut = λ p bytes. cut-is (numbers_of p) bytes (AreSound-numbers_of p);
  only = λ p bytes chunks is. cut-one (numbers_of p) (AreSound-numbers_of p) chunks bytes is;
  whole = λ p bytes. cut-whole (numbers_of p) bytes (AreSound-numbers_of p);
  sized = λ p bytes. cut-sized (numbers_of p) bytes (AreSound-numbers_of p);
}
