use Rattle.std.proofs.Common.{◌∷◌, ◌++◌, [], List, ℕ, refl, sym, ap, ◌∙◌, subst}
use Rattle.std.proofs.lemmas.List.{append-nil}
use Rattle.ss_base.specs.Profile.{numbers_of}
use Rattle.tttd_chunker.specs.Cut.{cut}
use Rattle.tttd_chunker.proofs.CutLaws.{cut-nil}
use Rattle.std.specs.Io.KnownBytes.{Appends}
use Rattle.outside.specs.Bytes.{AppendsFront}
use Rattle.std.proofs.lemmas.Result.{err_from_is_err_and}
use Rattle.tttd_chunker.specs.Pending.{Pending}
use Rattle.store_run.specs.Advances.{AdvancesByLines}
use Rattle.store_run.specs.LinePrinter.{still}
use Rattle.store_run.specs.SoFar.{at_end, so_far}
use Rattle.store_run.proofs.AdvancesLaws.{advances-cut, advances-end, by_lines-none}
use Rattle.store_run.proofs.ResultLaws.{nothing, on_unprinted}
use Rattle.store_run.proofs.line_printer.LinePrinter.finish.Goals as goal

pub returns-in_err-chunk-clause-early : goal.returns-in_err-chunk-clause-early
returns-in_err-chunk-clause-early g c =
    let maker = g.L.ChunkLines in
    let sink = g.O.Sink in
    let self = c.args.self.now in
    let p = err_from_is_err_and c.from_residual.result c.from_residual.ensures.1 in
    rw (p.1, p.2) (
      refl,
      (
        subst
            (λ (chunker : Pending). AdvancesByLines (sink.written c.args.out.now) (sink.written c.args.out.now) (still maker.text so_far self)
            (still maker.text so_far (record { chunker = chunker; lines = self.lines; waiting = self.waiting })))
            (sym c.in_err-chunk.ensures.err) (by_lines-none _ _ _ (λ more. refl)),
        c.requires.whole,
      ),
    )

pub returns-in_err-print_rest-clause-unprinted : goal.returns-in_err-print_rest-clause-unprinted
returns-in_err-print_rest-clause-unprinted g c =
    let maker = g.L.ChunkLines in
    let sink = g.O.Sink in
    let self = c.args.self.now in
    let n = numbers_of self.chunker.profile in
    let found = rw c.in_default.is at c.in_ok-chunk.ensures.found in
    let empty = nothing self.chunker.bytes (λ some. let is = found.1 some in cc) in
    let whole = ap (λ (chunks : List (List ℕ)). self.waiting.items ++ maker.text at_end self.lines chunks) (ap (cut n) (append-nil self.chunker.bytes ∙ empty) ∙ cut-nil n) in
    on_unprinted c.from_residual-in_err-print_rest.result
    (subst (AppendsFront (sink.written c.args.out.now) (sink.written c.print_rest.new.out)) (sym whole) c.in_err-print_rest.ensures.err)

pub returns-in_err-print_chunk-clause-unprinted : goal.returns-in_err-print_chunk-clause-unprinted
returns-in_err-print_chunk-clause-unprinted g c =
    let maker = g.L.ChunkLines in
    let sink = g.O.Sink in
    let self = c.args.self.now in
    let n = numbers_of self.chunker.profile in
    let one = rw c.in-Some.is at c.in_ok-chunk.ensures.cut in
    let whole =
    ap (λ (chunks : List (List ℕ)). self.waiting.items ++ maker.text at_end self.lines chunks)
    (ap (cut n) (append-nil self.chunker.bytes) ∙ one ∙ ap (λ (chunk : List ℕ). chunk ∷ []) (sym c.deref.ensures.value)) in
    on_unprinted c.from_residual-in_err-print_chunk.result
    (subst (AppendsFront (sink.written c.args.out.now) (sink.written c.print_chunk.new.out)) (sym whole) (c.in_err-print_chunk.ensures.err []))

pub returns-in_err-print_rest-2-clause-unprinted : goal.returns-in_err-print_rest-2-clause-unprinted
returns-in_err-print_rest-2-clause-unprinted g c =
    let maker = g.L.ChunkLines in
    let sink = g.O.Sink in
    let self = c.args.self.now in
    let n = numbers_of self.chunker.profile in
    let one = rw c.in-Some.is at c.in_ok-chunk.ensures.cut in
    let whole =
    ap (λ (chunks : List (List ℕ)). self.waiting.items ++ maker.text at_end self.lines chunks)
    (ap (cut n) (append-nil self.chunker.bytes) ∙ one ∙ ap (λ (chunk : List ℕ). chunk ∷ []) (sym c.deref.ensures.value)) in
    on_unprinted c.from_residual-in_err-print_rest-2.result
    (subst (AppendsFront (sink.written c.args.out.now) (sink.written c.print_rest-2.new.out)) (sym whole)
    (advances-cut _ _ _ _ _ [] (c.in_ok-print_chunk.ensures.ok at_end).way c.in_err-print_rest-2.ensures.err))

pub returns-clause-ok : goal.returns-clause-ok
returns-clause-ok g c =
    let maker = g.L.ChunkLines in
    let sink = g.O.Sink in
    let self = c.args.self.now in
    let n = numbers_of self.chunker.profile in
    let one = rw c.in-Some.is at c.in_ok-chunk.ensures.cut in
    let whole =
    ap (λ (chunks : List (List ℕ)). self.waiting.items ++ maker.text at_end self.lines chunks)
    (ap (cut n) (append-nil self.chunker.bytes) ∙ one ∙ ap (λ (chunk : List ℕ). chunk ∷ []) (sym c.deref.ensures.value)) in
    subst (Appends (sink.written c.args.out.now) (sink.written c.print_rest-2.new.out)) (sym whole)
    (advances-end _ _ _ _ _ [] (c.in_ok-print_chunk.ensures.ok at_end).way c.in_ok-print_rest-2.ensures.ok)
