use Rattle.fx_hash.proofs.WordLaws.{after_8}
use Rattle.fx_hash.proofs.hasher.FxHasherHasher.write_usize.Goals as goal

pub returns : goal.returns
returns c = rw c.one_word_more-self.ensures (after_8 c.args.self.now c.args.i c.ranges.i.fits)
