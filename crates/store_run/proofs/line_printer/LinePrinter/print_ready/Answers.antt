use Rattle.std.proofs.Common.{◌∷◌, ◌++◌, ◌≤◌, [], List, ℕ, refl, sym, ap, ◌∙◌, subst}
use Rattle.ss_base.specs.declared.profile.Profile.{Profile}
use Rattle.ss_base.specs.Profile.{numbers_of}
use Rattle.outside.specs.Bytes.{AppendsFront}
use Rattle.store_run.specs.declared.line_printer.LinePrinter.{LinePrinter}
use Rattle.store_run.specs.LinePrinter.{still}
use Rattle.store_run.specs.SoFar.{Stage, at_end, so_far, chunks_of}
use Rattle.store_run.proofs.AdvancesLaws.{advances-cut, by_lines-none, by_lines-of, by_lines-then}
use Rattle.std.proofs.lemmas.Result.{err_from_is_err_and}
use Rattle.tttd_chunker.specs.Pending.{Pending}
use Rattle.store_run.specs.Advances.{AdvancesByLines}
use Rattle.store_run.proofs.ResultLaws.{on_unprinted}
use Rattle.store_run.proofs.SoFarLaws.{chunks-first}
use Rattle.store_run.proofs.line_printer.LinePrinter.print_ready.Goals as goal

pub returns-in_err-print_chunk-clause-unprinted : goal.returns-in_err-print_chunk-clause-unprinted
returns-in_err-print_chunk-clause-unprinted g c =
    let maker = g.L.ChunkLines in
    let sink = g.O.Sink in
    let self = c.loop-chunk.self in
    let n = numbers_of self.chunker.profile in
    let pending = c.next.new.self.bytes in
    let found = rw c.in-Some.is at c.in_ok-chunk.ensures in
    let first = chunks-first self.chunker.profile self.chunker.bytes pending c.in-Some.chunk.items (sym found.found) found.taken found.cut at_end in
    let before = λ (more : List ℕ).
    ap (λ (chunks : List (List ℕ)). self.waiting.items ++ maker.text at_end self.lines chunks)
    (first more ∙ ap (λ (chunk : List ℕ). chunk ∷ chunks_of at_end n (pending ++ more)) (sym c.deref.ensures.value)) in
    let front = subst (AppendsFront (sink.written c.loop-chunk.out) (sink.written c.print_chunk.new.out)) (sym (before [])) (c.in_err-print_chunk.ensures.err (chunks_of at_end n (pending ++ []))) in
    on_unprinted c.from_residual-in_err-print_chunk.result
    (advances-cut _ _ _ (still maker.text at_end c.args.self.now) (still maker.text at_end self) [] (c.loop-chunk.invariant.way at_end).way front)

pub loop-chunk-init : goal.loop-chunk-init
loop-chunk-init g c = record {
  fits = c.requires.fits;
  none_whole = c.requires.none_whole;
  whole = c.requires.whole;
  way = λ stage. by_lines-none _ _ _ (λ more. refl);
  count = refl;
}

pub loop-chunk-preserved : goal.loop-chunk-preserved
loop-chunk-preserved g c =
    let maker = g.L.ChunkLines in
    let sink = g.O.Sink in
    let self = c.loop-chunk.self in
    let n = numbers_of self.chunker.profile in
    let pending = c.next.new.self.bytes in
    let found = rw c.in-Some.is at c.in_ok-chunk.ensures in
    let now : LinePrinter g.row.L.Denot = record { chunker = c.next.new.self; lines = c.print_chunk.new.lines; waiting = c.print_chunk.new.waiting } in
    let before = λ (stage : Stage) (more : List ℕ).
    ap (λ (chunks : List (List ℕ)). self.waiting.items ++ maker.text stage self.lines chunks)
    (chunks-first self.chunker.profile self.chunker.bytes pending c.in-Some.chunk.items (sym found.found) found.taken found.cut stage more
    ∙ ap (λ (chunk : List ℕ). chunk ∷ chunks_of stage n (pending ++ more)) (sym c.deref.ensures.value)) in
    let after = λ (stage : Stage) (more : List ℕ).
    ap (λ (p : Profile). c.print_chunk.new.waiting.items ++ maker.text stage c.print_chunk.new.lines (chunks_of stage (numbers_of p) (pending ++ more))) c.in_ok-chunk.ensures.profile in
    record {
      fits = subst (λ (p : Profile). (numbers_of p).tmax ≤ maker.most c.print_chunk.new.lines) (sym c.in_ok-chunk.ensures.profile)
          (subst (λ (m : ℕ). n.tmax ≤ m) (sym c.in_ok-print_chunk.ensures.most) c.loop-chunk.invariant.fits);
      none_whole = c.in_ok-print_chunk.ensures.none_whole;
      whole = c.in_ok-print_chunk.ensures.whole;
      way = λ stage.
          by_lines-then _ _ _ (still maker.text stage c.args.self.now) (still maker.text stage self) (still maker.text stage now) (c.loop-chunk.invariant.way stage)
          (by_lines-of (sink.written c.loop-chunk.out) (sink.written c.print_chunk.new.out) _ _ (λ (more : List ℕ). chunks_of stage n (pending ++ more))
          (still maker.text stage self) (still maker.text stage now) (before stage) (after stage) (c.in_ok-print_chunk.ensures.ok stage));
      count = c.in_ok-print_chunk.ensures.cause.quiet ∙ c.loop-chunk.invariant.count;
    }

pub returns-in_err-chunk-clause-early : goal.returns-in_err-chunk-clause-early
returns-in_err-chunk-clause-early g c =
    let maker = g.L.ChunkLines in
    let sink = g.O.Sink in
    let self = c.loop-chunk.self in
    let p = err_from_is_err_and c.from_residual.result c.from_residual.ensures.1 in
    rw (p.1, p.2) (
      refl,
      (
        subst
            (λ (chunker : Pending). AdvancesByLines (sink.written c.args.out.now) (sink.written c.loop-chunk.out) (still maker.text so_far c.args.self.now)
            (still maker.text so_far (record { chunker = chunker; lines = self.lines; waiting = self.waiting })))
            (sym c.in_err-chunk.ensures.err) (c.loop-chunk.invariant.way so_far),
        c.loop-chunk.invariant.whole,
      ),
    )

pub returns-clause-ok : goal.returns-clause-ok
returns-clause-ok g c =
    let maker = g.L.ChunkLines in
    let sink = g.O.Sink in
    let self = c.loop-chunk.self in
    let found = rw c.in_default.is at c.in_ok-chunk.ensures in
    let now : LinePrinter g.row.L.Denot = record { chunker = c.next.new.self; lines = self.lines; waiting = self.waiting } in
    let same = λ (stage : Stage) (more : List ℕ).
    ap (λ (bytes : List ℕ). self.waiting.items ++ maker.text stage self.lines (chunks_of stage (numbers_of c.next.new.self.profile) (bytes ++ more))) found.none
    ∙ ap (λ (p : Profile). self.waiting.items ++ maker.text stage self.lines (chunks_of stage (numbers_of p) (self.chunker.bytes ++ more))) found.profile in
    λ stage.
    by_lines-of (sink.written c.args.out.now) (sink.written c.loop-chunk.out) (still maker.text stage c.args.self.now) (still maker.text stage self) (λ (more : List ℕ). more)
    (still maker.text stage c.args.self.now) (still maker.text stage now) (λ more. refl) (same stage) (c.loop-chunk.invariant.way stage)
