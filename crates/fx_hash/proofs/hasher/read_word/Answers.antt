use Rattle.std.proofs.Common.{◌∙◌, length}
use Rattle.fx_hash.proofs.WordLaws.{word_of-zeros}
use Rattle.fx_hash.proofs.hasher.read_word.Goals as goal

pub returns : goal.returns
returns c = c.from_le_bytes.ensures ∙ rw c.copy_from_slice.ensures.after (word_of-zeros c.args.bytes.now (length c.args.bytes.now))
