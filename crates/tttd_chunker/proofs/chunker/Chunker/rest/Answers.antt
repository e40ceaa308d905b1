use Rattle.std.proofs.Common.{◌≡◌, ◌<◌, ◌∷◌, [], length, drop, length-drop, sym, ap, arith, ◌∙◌}
use Rattle.ss_base.specs.Profile.{numbers_of}
use Rattle.std.proofs.lemmas.List.{nil_from_length}
use Rattle.tttd_chunker.specs.Cut.{cut}
use Rattle.tttd_chunker.proofs.CutLaws.{cut-nil}
use Rattle.ss_base.proofs.SoundLaws.{AreSound-numbers_of}
use Rattle.tttd_chunker.proofs.StreamLaws.{cut-last, has_cut-few}
use Rattle.tttd_chunker.proofs.KeptLaws.{tail-is}
use Rattle.tttd_chunker.proofs.chunker.Chunker.rest.Goals as goal

pub returns-clause-cut : goal.returns-clause-cut
returns-clause-cut c =
    let now = c.args.self.now in
    let inside = c.self.inside in
    let bytes : drop inside.start inside.buffer.items ≡ now.bytes = ap (λ v. v.bytes) c.self.view_is in
    let chunk : c.in_ok-chunk.chunk.items ≡ now.bytes =
    c.in_ok-chunk.ensures.items_if_clones_equal (λ x y e. e) ∙ tail-is c.deref.result.now inside.start ∙ ap (drop inside.start) c.deref.ensures.value ∙ bytes in
    let start = c.self.invariant.start in
    let some : 0 < length now.bytes = omega (arith, ap length bytes, length-drop inside.start inside.buffer.items) in
    cut-last (numbers_of now.profile) now.bytes (AreSound-numbers_of now.profile) some c.requires ∙ ap (λ b. b ∷ []) (sym chunk)

pub returns-clause-sized : goal.returns-clause-sized
returns-clause-sized c =
    let now = c.args.self.now in
    let inside = c.self.inside in
    let bytes : drop inside.start inside.buffer.items ≡ now.bytes = ap (λ v. v.bytes) c.self.view_is in
    let chunk : c.in_ok-chunk.chunk.items ≡ now.bytes =
    c.in_ok-chunk.ensures.items_if_clones_equal (λ x y e. e) ∙ tail-is c.deref.result.now inside.start ∙ ap (drop inside.start) c.deref.ensures.value ∙ bytes in
    omega (arith, ap length chunk, has_cut-few (numbers_of now.profile) now.bytes c.requires)

pub returns-then-self-len-clause-cut : goal.returns-then-self-len-clause-cut
returns-then-self-len-clause-cut c =
    let now = c.args.self.now in
    let inside = c.self.inside in
    let bytes : drop inside.start inside.buffer.items ≡ now.bytes = ap (λ v. v.bytes) c.self.view_is in
    let none : length now.bytes ≡ 0 = omega (arith, ap length bytes, length-drop inside.start inside.buffer.items) in
    ap (cut (numbers_of now.profile)) (nil_from_length now.bytes none) ∙ cut-nil (numbers_of now.profile)
