use Rattle.std.proofs.Common.{◌≡◌, ◌++◌, drop, length, length-append, ◌∙◌, sym, ap, subst, arith}
use Rattle.std.proofs.lemmas.List.{drop-append-le}
use Rattle.ss_base.specs.Profile.{numbers_of}
use Rattle.tttd_chunker.specs.Scanned.{IsProgress}
use Rattle.tttd_chunker.proofs.ProgressLaws.{IsProgress-append}
use Rattle.tttd_chunker.proofs.chunker.Chunker.push.Goals as goal

pub invariant_of-self-2 : goal.invariant_of-self-2
invariant_of-self-2 c =
    let inside = c.self.inside in
    let start = c.compact-self-inside.result in
    let front = c.compact-self-inside.new.buffer.items in
    let more = c.args.bytes.now in
    let within = c.compact-self-inside.ensures.within in
    let all = c.in_ok-extend_from_slice.ensures.items in
    let pending : drop start c.extend_from_slice.new.self.items ≡ drop inside.start inside.buffer.items ++ more =
    ap (drop start) all ∙ drop-append-le start front more within ∙ ap (λ b. b ++ more) c.compact-self-inside.ensures.same in
    record {
      start = omega (arith, ap length all, length-append front more);
      progress = subst (λ b. IsProgress (numbers_of inside.profile) b inside.progress) (sym pending)
          (IsProgress-append (numbers_of inside.profile) (drop inside.start inside.buffer.items) more inside.progress c.self.invariant.progress);
    }
