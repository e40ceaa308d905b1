use Rattle.std.proofs.Common.{◌++◌, [], List, ℕ, inl, refl, subst, sym}
use Rattle.std.proofs.KnownBytes.{Consumes-nil}
use Rattle.outside.specs.Views.{source_view, sink_view}
use Rattle.ss_base.specs.Profile.{numbers_of}
use Rattle.store_run.specs.declared.stop.Stop.TheVariants.{Memory}
use Rattle.store_run.specs.Feed.{IsHalted, max_stream}
use Rattle.store_run.specs.LinePrinter.{still}
use Rattle.store_run.specs.SoFar.{Stage, so_far, chunks_of}
use Rattle.store_run.specs.Run.{StreamAnswer, printed, ended_early, line_failed, line_wanted_memory}
use Rattle.store_run.proofs.AnswerLaws.{refuses-behind}
use Rattle.store_run.proofs.run.print_stream.Goals as goal

pub returns-in_default : goal.returns-in_default
returns-in_default g c =
    let text = λ (stage : Stage) (bytes : List ℕ). g.L.ChunkLines.text stage c.args.lines (chunks_of stage (numbers_of c.args.profile) bytes) in
    record { answer = ended_early Memory [] (record { bytes = []; rest = text so_far []; taken = Consumes-nil _; front = refl; whole = inl refl }) refl c.refuse.ensures }

pub returns-in-Ok-feed : goal.returns-in-Ok-feed
returns-in-Ok-feed g c =
    let text = still g.L.ChunkLines.text in
    let seen = source_view g.S.Source in
    let shown = sink_view g.O.Sink in
    record {
      answer = subst (λ (t : Stage → List ℕ → List ℕ). StreamAnswer t (seen c.args.script.now) (seen c.feed.new.source) (shown c.args.out.now) (shown c.feed.new.out) 0)
          (λ i stage bytes. c.in-Ok.ensures.text stage bytes i)
          (printed refl c.in-Ok-feed.ensures.ok c.in-Ok-feed.ensures.source_count c.in-Ok-feed.ensures.sink_count);
    }

pub returns-in-Err-Early : goal.returns-in-Err-Early
returns-in-Err-Early g c =
    let seen = source_view g.S.Source in
    let shown = sink_view g.O.Sink in
    let feed = rw c.in-Err-Early.field-0-is at c.in-Err-Early.ensures in
    let halted =
    subst (IsHalted c.in-Err-Early.why max_stream (seen c.args.script.now) (seen c.feed.new.source) (shown c.args.out.now) (shown c.feed.new.out) (still g.L.ChunkLines.text so_far c.in-Ok.printer))
    (sym c.waiting.ensures) feed.early in
    record {
      answer = subst (λ (t : Stage → List ℕ → List ℕ). StreamAnswer t (seen c.args.script.now) (seen c.feed.new.source) (shown c.args.out.now) (shown c.refuse-in-Err-Early.new.out) c.refuse-in-Err-Early.result)
          (λ i stage bytes. c.in-Ok.ensures.text stage bytes i)
          (ended_early c.in-Err-Early.why (halted.done ++ c.waiting.result.now) halted.ends feed.source_count
          (refuses-behind c.in-Err-Early.why halted.done c.waiting.result.now (shown c.args.out.now) (shown c.feed.new.out) (shown c.refuse-in-Err-Early.new.out) c.refuse-in-Err-Early.result halted.written_so_far feed.sink_count c.refuse-in-Err-Early.ensures));
    }

pub returns-in-Err-Unprinted-Memory : goal.returns-in-Err-Unprinted-Memory
returns-in-Err-Unprinted-Memory g c =
    let seen = source_view g.S.Source in
    let shown = sink_view g.O.Sink in
    let feed = rw c.in-Err-Unprinted-Memory.field-0-is at c.in-Err-Unprinted-Memory.ensures in
    record {
      answer = subst (λ (t : Stage → List ℕ → List ℕ). StreamAnswer t (seen c.args.script.now) (seen c.feed.new.source) (shown c.args.out.now) (shown c.feed.new.out) 8)
          (λ i stage bytes. c.in-Ok.ensures.text stage bytes i)
          (line_wanted_memory refl feed.unprinted feed.source_count (rw c.in-Err-Unprinted-Memory.field-0-0-is at feed.sink_count));
    }

pub returns : goal.returns
returns g c =
    let seen = source_view g.S.Source in
    let shown = sink_view g.O.Sink in
    let feed = rw c.in-Err-Unprinted-Fault.field-0-is at c.in-Err-Unprinted-Fault.ensures in
    record {
      answer = subst (λ (t : Stage → List ℕ → List ℕ). StreamAnswer t (seen c.args.script.now) (seen c.feed.new.source) (shown c.args.out.now) (shown c.feed.new.out) 9)
          (λ i stage bytes. c.in-Ok.ensures.text stage bytes i)
          (line_failed refl feed.unprinted feed.source_count (rw c.in-Err-Unprinted-Fault.field-0-0-is at feed.sink_count));
    }
