use Rattle.std.proofs.Common.{◌≡◌, ◌+◌, ◌<◌, length, ◌∙◌, ap, sym, false, arith}
use Rattle.std.proofs.lemmas.Bool.{cases_eq}
use mathlib.Core.Logic.{⊎_elim}
use Rattle.roll_hash.specs.Fingerprint.{window_sum}
use Rattle.tttd_chunker.specs.Cut.{window, meets}
use Rattle.tttd_chunker.proofs.ScanLaws.{window-slides}
use Rattle.tttd_chunker.proofs.scan.next_met.Goals as goal

-- the sum after the window has gone on
pub returns-then-met : goal.returns-then-met
returns-then-met c =
    let bytes = c.args.bytes.now in
    let k = c.loop-k.k in
    let within : k < length bytes = omega arith in
    let slides = window-slides bytes k (omega arith) within in
    let sum : c.slide-sum.result ≡ window_sum (window bytes (k + 1)) =
    c.slide-sum.ensures slides.rest slides.long (c.loop-k.invariant.sum ∙ ap window_sum slides.before) ∙ ap window_sum (sym slides.after) in
    record {
      found = record { from = omega arith; to = omega arith; passes = sym (c.met.ensures bytes (k + 1) sum) ∙ c.if-met.true; before = c.loop-k.invariant.before };
      sum = sum;
    }

pub loop-k-preserved : goal.loop-k-preserved
loop-k-preserved c =
    let bytes = c.args.bytes.now in
    let k = c.loop-k.k in
    let within : k < length bytes = omega arith in
    let slides = window-slides bytes k (omega arith) within in
    let sum : c.slide-sum.result ≡ window_sum (window bytes (k + 1)) =
    c.slide-sum.ensures slides.rest slides.long (c.loop-k.invariant.sum ∙ ap window_sum slides.before) ∙ ap window_sum (sym slides.after) in
    let here : meets c.args.divisor bytes (k + 1) ≡ false = sym (c.met.ensures bytes (k + 1) sum) ∙ c.if-met.false in
    record {
      sum = sum;
      before = λ j a b.
          ⊎_elim (λ same. ap (meets c.args.divisor bytes) same ∙ here) (λ other. c.loop-k.invariant.before j a (omega arith)) (cases_eq j (k + 1));
    }
