use Rattle.std.proofs.Common.{ℕ, List, ◌++◌, length, drop, replicate, ap, sym, ◌∙◌, subst}
use Rattle.std.proofs.Math.Seq.{take-append_seam, drop-append_seam}
use Rattle.std.proofs.lemmas.List.{drop-replicate}
use Rattle.ss_base.specs.Padded.{IsPadded}
use Rattle.ss_base.proofs.short_text.ShortText.new.Goals as goal

-- a text written over the front of so many zeros is padded
IsPadded-written : (n : ℕ) (text : List ℕ) → IsPadded {N = n} (record { bytes = text ++ drop (length text) (replicate n 0); len = length text })
IsPadded-written n text =
    let zeros = drop (length text) (replicate n 0) in
    record {
      len = ap length (take-append_seam text zeros);
      padding = drop-append_seam text zeros ∙ drop-replicate (length text) n 0;
    }

pub invariant_of-result : goal.invariant_of-result
invariant_of-result g c =
    let text = c.args.text.now in
    subst (λ (front : List ℕ). IsPadded {N = g.row.N} (record { bytes = front ++ drop (length text) (replicate g.row.N 0); len = length text }))
    (sym c.copy_from_slice.ensures.after)
    (IsPadded-written g.row.N text)
