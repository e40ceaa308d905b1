use Rattle.std.proofs.Common.{◌≡◌, length, ap, sym, ◌∙◌, arith, rules, vec_len}
use Rattle.std.specs.List.{concat}
use Rattle.chunk_name.specs.Pieces.{pieces, HasChunkLen}
use Rattle.segmenter.proofs.JoinedLaws.{concat-parts_of, length-parts_of, All-pieces}
use Rattle.segmenter.proofs.joined.Joined.take.Goals as goal

pub invariant_of-result : goal.invariant_of-result
invariant_of-result c =
    let kept = c.self.inside in
    let are = c.self.invariant in
    let count : vec_len kept.pieces ≡ length c.args.self.now = sym (length-parts_of kept.pieces.items kept.bytes.items ∙ search rules) ∙ ap length c.self.view_is in
    rw (c.replace.ensures.value, c.replace-2.ensures.value) (record {
      some = omega (arith, count);
      bounded = omega (arith, count);
      lengths = All-pieces HasChunkLen _ _ are.parts (rw c.self.view_is c.requires.lengths);
      parts = are;
    })

pub returns-clause-segment : goal.returns-clause-segment
returns-clause-segment c = record {
  pieces = ap (λ v. v.items) c.replace.ensures.value ∙ sym c.self.invariant.parts ∙ ap pieces c.self.view_is;
  bytes = ap (λ v. v.items) c.replace-2.ensures.value ∙ sym (concat-parts_of c.self.inside.pieces.items c.self.inside.bytes.items c.self.invariant.sum) ∙ ap concat c.self.view_is;
}
