use Rattle.std.proofs.Common.{◌≡◌, ◌∙◌, [], sym, rules}
use Rattle.std.proofs.lemmas.List.{nil_from_length}
use Rattle.std.specs.Slice.Iter.{chunks_rest}
use Rattle.fx_hash.proofs.WordLaws.{part_more}
use Rattle.fx_hash.proofs.hasher.FxHasherHasher.write.Goals as goal

pub loop-part-preserved : goal.loop-part-preserved
loop-part-preserved c =
    let size = c.loop-part.invariant.2 in
    let steps = c.in-Some.ensures.steps in
    let more = part_more c.loop-part.self.state _ c.in-Some.part.now _ steps.1.0 (rw size at steps.1.1) steps.1.2 in
    (search rules, tt, steps.0 ∙ size, c.loop-part.invariant.3 ∙ rw (c.one_word_more-self.ensures, c.read_word.ensures) more)

pub returns : goal.returns
returns c =
    let none : chunks_rest c.loop-part.part-iterator ≡ [] = nil_from_length _ c.in-None.ensures.steps.1.0 in
    λ j. record { state = sym (rw none at c.loop-part.invariant.3) j }
