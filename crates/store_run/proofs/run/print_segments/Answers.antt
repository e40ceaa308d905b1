use Rattle.std.proofs.Common.{List, ℕ, ◌++◌, ap, ◌∙◌, subst}
use Rattle.outside.specs.Views.{source_view, sink_view}
use Rattle.ss_base.specs.declared.profile.Numbers.{Numbers}
use Rattle.ss_base.specs.Profile.{numbers_of}
use Rattle.store_run.specs.Lines.{segment_lines}
use Rattle.store_run.specs.SoFar.{Stage, chunks_of}
use Rattle.store_run.specs.Run.{StreamAnswer}
use Rattle.store_run.proofs.SoFarLaws.{segment_lines-none}
use Rattle.store_run.proofs.run.print_segments.Goals as goal

pub returns : goal.returns
returns g c =
    let seen = source_view g.S.Source in
    let shown = sink_view g.O.Sink in
    let n = numbers_of c.args.profile in
    let segmenter = c.new.result.segmenter in
    let same = λ (stage : Stage) (bytes : List ℕ).
    ap (λ (m : Numbers). segment_lines stage m (segmenter.chunks ++ chunks_of stage n bytes)) c.new.ensures.numbers
    ∙ ap (λ (chunks : List (List ℕ)). segment_lines stage n (chunks ++ chunks_of stage n bytes)) c.new.ensures.chunks in
    record {
      answer = subst (λ (t : Stage → List ℕ → List ℕ). StreamAnswer t (seen c.args.script.now) (seen c.print_stream.new.script) (shown c.args.out.now) (shown c.print_stream.new.out) c.print_stream.result)
          (λ i stage bytes. same stage bytes i)
          c.print_stream.ensures.answer;
    }

pub print_stream-requires-clause-none_whole : goal.print_stream-requires-clause-none_whole
print_stream-requires-clause-none_whole g c = segment_lines-none c.new.result.segmenter.numbers c.new.result.segmenter.chunks c.new.result.pending
