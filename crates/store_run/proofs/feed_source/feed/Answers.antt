use Rattle.std.proofs.Common.{◌≡◌, ◌++◌, ◌+◌, [], List, ℕ, length, refl, sym, ap, ◌∙◌, subst, arith, length-append, vec_len, Vec, Err}
use Rattle.std.specs.declared.alloc.Global.{Global}
use Rattle.std.proofs.lemmas.Bool.{eqb-true}
use Rattle.std.proofs.lemmas.Result.{err_from_is_err_and, on_ok_weaker}
use Rattle.std.proofs.KnownBytes.{Consumes-nil}
use Rattle.outside.specs.Views.{source_view, sink_view, Gives}
use Rattle.store_run.specs.LinePrinter.{still}
use Rattle.store_run.specs.Lines.{IsLines}
use Rattle.store_run.specs.SoFar.{Stage, at_end, so_far}
use Rattle.store_run.specs.declared.stop.Stop.{Stop}
use Rattle.store_run.specs.Feed.{IsHalted}
use Rattle.store_run.proofs.FeedLaws.{under_way-start, under_way-read, under_way-printed, under_way-cut, under_way-end, halted-memory, halted-limit, halted-fault, consumes-kept}
use Rattle.store_run.proofs.ResultLaws.{nothing, on_early_weaker, on_unprinted_weaker, counts_source-unread, counts_sink-after}
use Rattle.store_run.proofs.SoFarLaws.{still-up_to_date}
use Rattle.store_run.proofs.feed_source.feed.Goals as goal

pub loop-piece-init : goal.loop-piece-init
loop-piece-init g c =
    let start = λ (stage : Stage). under_way-start (source_view g.S.Source c.args.source.now) (sink_view g.O.Sink c.args.out.now) (still g.L.ChunkLines.text stage c.args.printer.now) in
    record {
      fits = c.requires.fits;
      up_to_date = c.requires.up_to_date;
      whole = c.requires.whole;
      fed = λ stage. ((start stage).0, ap length (start stage).1);
      within = omega arith;
      sources = refl;
      sinks = refl;
    }

pub returns-then-is_empty-clause-ok : goal.returns-then-is_empty-clause-ok
returns-then-is_empty-clause-ok g c =
    let maker = g.L.ChunkLines in
    let seen = source_view g.S.Source in
    let shown = sink_view g.O.Sink in
    let old = c.loop-piece.printer in
    let empty : c.in-Ok.piece.items ≡ [] = nothing c.in-Ok.piece.items (λ some. omega (arith, c.in-Ok.piece.ok.0, eqb-true (vec_len c.in-Ok.piece) 0 (sym c.if-is_empty.ensures))) in
    let taken = subst (Gives (seen c.loop-piece.source) (seen c.read.new.self)) empty c.in-Ok.ensures.bytes in
    let read = under_way-read _ _ (seen c.read.new.self) _ _ (still maker.text at_end c.args.printer.now) (still maker.text at_end old) [] (c.loop-piece.invariant.fed at_end).0 taken (still maker.text at_end old) (λ (more : List ℕ). refl) in
    let end = c.in-Ok.ensures.end empty in
    let len = length-append (c.loop-piece.invariant.fed at_end).0.bytes [] in
    on_ok_weaker c.finish.result
    (λ whole. record {
      bytes = read.0.bytes;
      gave = record {
        taken = read.0.taken;
        end = record { answered = end.0; none_left = end.1 };
        within = omega (arith, ap length read.1, len, (c.loop-piece.invariant.fed at_end).1, c.loop-piece.invariant.within);
      };
      whole = under_way-end _ _ _ _ (shown c.finish.new.out) _ (still maker.text at_end old) read.0 whole;
    })
    c.finish.ensures.ok

pub returns-then-is_empty-clause-early : goal.returns-then-is_empty-clause-early
returns-then-is_empty-clause-early g c =
    let maker = g.L.ChunkLines in
    let seen = source_view g.S.Source in
    let shown = sink_view g.O.Sink in
    let old = c.loop-piece.printer in
    let empty : c.in-Ok.piece.items ≡ [] = nothing c.in-Ok.piece.items (λ some. omega (arith, c.in-Ok.piece.ok.0, eqb-true (vec_len c.in-Ok.piece) 0 (sym c.if-is_empty.ensures))) in
    let taken = subst (Gives (seen c.loop-piece.source) (seen c.read.new.self)) empty c.in-Ok.ensures.bytes in
    let read = under_way-read _ _ (seen c.read.new.self) _ _ (still maker.text so_far c.args.printer.now) (still maker.text so_far old) [] (c.loop-piece.invariant.fed so_far).0 taken (still maker.text so_far old) (λ (more : List ℕ). refl) in
    on_early_weaker c.finish.result
    (λ why early.
    subst (λ (w : Stop). IsHalted w c.args.limit (seen c.args.source.now) (seen c.read.new.self) (shown c.args.out.now) (shown c.finish.new.out) (still maker.text so_far c.args.printer.now) c.finish.new.self.waiting.items) (sym early.0)
    (halted-memory _ _ (seen c.read.new.self) _ (shown c.finish.new.out) _ (still maker.text so_far c.finish.new.self) [] (under_way-printed _ _ _ _ (shown c.finish.new.out) _ _ (still maker.text so_far c.finish.new.self) read.0 early.1.0).0 (Consumes-nil _) c.args.limit c.finish.new.self.waiting.items _ refl early.1.1))
    c.finish.ensures.early

pub returns-then-is_empty-clause-unprinted : goal.returns-then-is_empty-clause-unprinted
returns-then-is_empty-clause-unprinted g c =
    let maker = g.L.ChunkLines in
    let seen = source_view g.S.Source in
    let shown = sink_view g.O.Sink in
    let old = c.loop-piece.printer in
    let empty : c.in-Ok.piece.items ≡ [] = nothing c.in-Ok.piece.items (λ some. omega (arith, c.in-Ok.piece.ok.0, eqb-true (vec_len c.in-Ok.piece) 0 (sym c.if-is_empty.ensures))) in
    let taken = subst (Gives (seen c.loop-piece.source) (seen c.read.new.self)) empty c.in-Ok.ensures.bytes in
    let read = under_way-read _ _ (seen c.read.new.self) _ _ (still maker.text at_end c.args.printer.now) (still maker.text at_end old) [] (c.loop-piece.invariant.fed at_end).0 taken (still maker.text at_end old) (λ (more : List ℕ). refl) in
    on_unprinted_weaker c.finish.result (λ front. under_way-cut _ _ _ _ (shown c.finish.new.out) _ (still maker.text at_end old) read.0 front) c.finish.ensures.unprinted

pub returns-then-is_empty-clause-source_count : goal.returns-then-is_empty-clause-source_count
returns-then-is_empty-clause-source_count g c =
    counts_source-unread _ c.finish.result _ _ c.finish.ensures.early (c.in-Ok.ensures.cause.quiet ∙ c.loop-piece.invariant.sources)

pub returns-then-is_empty-clause-sink_count : goal.returns-then-is_empty-clause-sink_count
returns-then-is_empty-clause-sink_count g c = counts_sink-after c.finish.result _ _ _ c.loop-piece.invariant.sinks c.finish.ensures.count

pub returns-then-len-limit-clause-early : goal.returns-then-len-limit-clause-early
returns-then-len-limit-clause-early g c =
    let maker = g.L.ChunkLines in
    let seen = source_view g.S.Source in
    let shown = sink_view g.O.Sink in
    let old = c.loop-piece.printer in
    let way = c.loop-piece.invariant.fed so_far in
    let len = length-append way.0.bytes c.in-Ok.piece.items in
    let over = c.if-len-limit.true in
    halted-limit _ _ (seen c.read.new.self) _ (shown c.loop-piece.out) _ (still maker.text so_far old) c.in-Ok.piece.items way.0 c.in-Ok.ensures.bytes c.args.limit old.waiting.items (still-up_to_date maker.text old c.loop-piece.invariant.up_to_date)
    (omega (arith, way.1, c.loop-piece.invariant.within)) (omega (arith, way.1, len, over, c.in-Ok.piece.ok.0, c.loop-piece.invariant.within))

pub returns-in-Err-Fault-clause-early : goal.returns-in-Err-Fault-clause-early
returns-in-Err-Fault-clause-early g c =
    let maker = g.L.ChunkLines in
    let seen = source_view g.S.Source in
    let shown = sink_view g.O.Sink in
    let old = c.loop-piece.printer in
    halted-fault _ _ (seen c.read.new.self) _ (shown c.loop-piece.out) _ (still maker.text so_far old) (c.loop-piece.invariant.fed so_far).0 c.in-Err-Fault.ensures.bytes c.args.limit old.waiting.items (still-up_to_date maker.text old c.loop-piece.invariant.up_to_date)

pub returns-in-Err-Memory-clause-early : goal.returns-in-Err-Memory-clause-early
returns-in-Err-Memory-clause-early g c =
    let maker = g.L.ChunkLines in
    let seen = source_view g.S.Source in
    let shown = sink_view g.O.Sink in
    let old = c.loop-piece.printer in
    let none = consumes-kept _ _ c.in-Err-Memory.ensures.bytes in
    halted-memory _ _ (seen c.read.new.self) _ (shown c.loop-piece.out) _ (still maker.text so_far old) [] (c.loop-piece.invariant.fed so_far).0 none c.args.limit old.waiting.items _ refl c.loop-piece.invariant.whole

pub returns-in_err-push-clause-early : goal.returns-in_err-push-clause-early
returns-in_err-push-clause-early g c =
    let maker = g.L.ChunkLines in
    let seen = source_view g.S.Source in
    let shown = sink_view g.O.Sink in
    let old = c.loop-piece.printer in
    let now = c.push.new.self in
    let kept = under_way-read _ _ (seen c.loop-piece.source) _ (shown c.loop-piece.out) (still maker.text so_far c.args.printer.now) (still maker.text so_far old) [] (c.loop-piece.invariant.fed so_far).0 (Consumes-nil _) (still maker.text so_far now) (c.in_err-push.ensures.err so_far) in
    let p = err_from_is_err_and c.from_residual.result c.from_residual.ensures.1 in
    rw (p.1, p.2) (halted-memory _ _ (seen c.read.new.self) _ (shown c.loop-piece.out) _ (still maker.text so_far now) c.in-Ok.piece.items kept.0 c.in-Ok.ensures.bytes c.args.limit now.waiting.items _ refl
    (subst (λ (waiting : Vec ℕ Global). IsLines waiting.items) (sym c.in_err-push.ensures.waiting) c.loop-piece.invariant.whole))

pub print_ready-requires-clause-whole : goal.print_ready-requires-clause-whole
print_ready-requires-clause-whole g c = subst (λ (waiting : Vec ℕ Global). IsLines waiting.items) (sym c.in_ok-push.ensures.waiting) c.loop-piece.invariant.whole

pub returns-in_err-print_ready-clause-early : goal.returns-in_err-print_ready-clause-early
returns-in_err-print_ready-clause-early g c =
    let maker = g.L.ChunkLines in
    let seen = source_view g.S.Source in
    let shown = sink_view g.O.Sink in
    let old = c.loop-piece.printer in
    let now = c.print_ready.new.self in
    let piece = c.in-Ok.piece.items in
    let same = λ (more : List ℕ). c.in_ok-push.ensures.ok so_far more ∙ ap (λ (bytes : List ℕ). still maker.text so_far old (bytes ++ more)) c.deref.ensures.value in
    let read = under_way-read _ _ (seen c.read.new.self) _ _ (still maker.text so_far c.args.printer.now) (still maker.text so_far old) piece (c.loop-piece.invariant.fed so_far).0 c.in-Ok.ensures.bytes (still maker.text so_far c.push.new.self) same in
    let p = err_from_is_err_and c.from_residual-in_err-print_ready.result c.from_residual-in_err-print_ready.ensures.1 in
    let halt = c.in_err-print_ready.field-0.0 in
    rw (p.1, p.2) (on_early_weaker {T = Unit {0}} (Err halt)
    (λ why early.
    subst (λ (w : Stop). IsHalted w c.args.limit (seen c.args.source.now) (seen c.read.new.self) (shown c.args.out.now) (shown c.print_ready.new.out) (still maker.text so_far c.args.printer.now) now.waiting.items) (sym early.0)
    (halted-memory _ _ (seen c.read.new.self) _ (shown c.print_ready.new.out) _ (still maker.text so_far now) [] (under_way-printed _ _ _ _ (shown c.print_ready.new.out) _ _ (still maker.text so_far now) read.0 early.1.0).0 (Consumes-nil _) c.args.limit now.waiting.items _ refl early.1.1))
    c.in_err-print_ready.ensures.early)

pub returns-in_err-print_ready-clause-unprinted : goal.returns-in_err-print_ready-clause-unprinted
returns-in_err-print_ready-clause-unprinted g c =
    let maker = g.L.ChunkLines in
    let seen = source_view g.S.Source in
    let shown = sink_view g.O.Sink in
    let old = c.loop-piece.printer in
    let piece = c.in-Ok.piece.items in
    let same = λ (more : List ℕ). c.in_ok-push.ensures.ok at_end more ∙ ap (λ (bytes : List ℕ). still maker.text at_end old (bytes ++ more)) c.deref.ensures.value in
    let read = under_way-read _ _ (seen c.read.new.self) _ _ (still maker.text at_end c.args.printer.now) (still maker.text at_end old) piece (c.loop-piece.invariant.fed at_end).0 c.in-Ok.ensures.bytes (still maker.text at_end c.push.new.self) same in
    let p = err_from_is_err_and c.from_residual-in_err-print_ready.result c.from_residual-in_err-print_ready.ensures.1 in
    let halt = c.in_err-print_ready.field-0.0 in
    rw (p.1, p.2) (on_unprinted_weaker {T = Unit {0}} (Err halt)
    (λ front. under_way-cut _ _ _ _ (shown c.print_ready.new.out) _ (still maker.text at_end c.push.new.self) read.0 front)
    c.in_err-print_ready.ensures.unprinted)

pub returns-in_err-print_ready-clause-source_count : goal.returns-in_err-print_ready-clause-source_count
returns-in_err-print_ready-clause-source_count g c =
    let p = err_from_is_err_and c.from_residual-in_err-print_ready.result c.from_residual-in_err-print_ready.ensures.1 in
    rw (p.1, p.2) (counts_source-unread {T = Unit {0}} _ (Err c.in_err-print_ready.field-0.0) _ _ c.in_err-print_ready.ensures.early (c.in-Ok.ensures.cause.quiet ∙ c.loop-piece.invariant.sources))

pub returns-in_err-print_ready-clause-sink_count : goal.returns-in_err-print_ready-clause-sink_count
returns-in_err-print_ready-clause-sink_count g c =
    let p = err_from_is_err_and c.from_residual-in_err-print_ready.result c.from_residual-in_err-print_ready.ensures.1 in
    rw (p.1, p.2) (counts_sink-after {T = Unit {0}} (Err c.in_err-print_ready.field-0.0) _ _ _ c.loop-piece.invariant.sinks c.in_err-print_ready.ensures.count)

pub loop-piece-preserved : goal.loop-piece-preserved
loop-piece-preserved g c =
    let maker = g.L.ChunkLines in
    let seen = source_view g.S.Source in
    let shown = sink_view g.O.Sink in
    let old = c.loop-piece.printer in
    let piece = c.in-Ok.piece.items in
    let way = λ (stage : Stage). (c.loop-piece.invariant.fed stage).0 in
    let same = λ (stage : Stage) (more : List ℕ). c.in_ok-push.ensures.ok stage more ∙ ap (λ (bytes : List ℕ). still maker.text stage old (bytes ++ more)) c.deref.ensures.value in
    let read = λ (stage : Stage). under_way-read _ _ (seen c.read.new.self) _ _ (still maker.text stage c.args.printer.now) (still maker.text stage old) piece (way stage) c.in-Ok.ensures.bytes (still maker.text stage c.push.new.self) (same stage) in
    let printed = λ (stage : Stage). under_way-printed _ _ _ _ (shown c.print_ready.new.out) _ _ (still maker.text stage c.print_ready.new.self) (read stage).0 (c.in_ok-print_ready.ensures.ok stage) in
    let count = λ (stage : Stage). count_of (way stage).bytes piece c.loop-piece.taken c.len-taken.result (c.loop-piece.invariant.fed stage).1 (omega (arith, c.in-Ok.piece.ok.0, c.len-taken.ensures)) in
    record {
      fits = c.in_ok-print_ready.ensures.fits;
      up_to_date = c.in_ok-print_ready.ensures.up_to_date;
      whole = c.in_ok-print_ready.ensures.whole;
      fed = λ stage. ((printed stage).0, ap length ((printed stage).1 ∙ (read stage).1) ∙ count stage);
      within = omega arith;
      sources = c.in-Ok.ensures.cause.quiet ∙ c.loop-piece.invariant.sources;
      sinks = c.in_ok-print_ready.ensures.count ∙ c.loop-piece.invariant.sinks;
    }
  where
    count_of : (bytes piece : List ℕ) (taken len : ℕ) → length bytes ≡ taken → length piece ≡ len → length (bytes ++ piece) ≡ taken + len
    count_of bytes piece taken len fed is = omega (arith, length-append bytes piece, fed, is)
