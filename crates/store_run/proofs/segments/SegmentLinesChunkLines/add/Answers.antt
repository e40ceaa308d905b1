use Rattle.std.proofs.Common.{◌∷◌, ◌++◌, [], sym, subst}
use Rattle.std.proofs.lemmas.Result.{IfOk-weaker}
use Rattle.store_run.specs.Lines.{IsLines}
use Rattle.store_run.proofs.LineLaws.{IsLines-segment}
use Rattle.store_run.proofs.ResultLaws.{on_ok}
use Rattle.store_run.proofs.SoFarLaws.{segment_lines-pends, segment_lines-start}
use Rattle.store_run.proofs.segments.SegmentLinesChunkLines.add.Goals as goal

pub returns-in-Some-clause-none_whole : goal.returns-in-Some-clause-none_whole
returns-in-Some-clause-none_whole c =
    let found = rw c.in-Some.is at c.in_ok-segment.ensures in
    on_ok c.segment_line.result (segment_lines-start c.add.new.self.numbers c.add.new.self.chunks found.pending)

pub returns-in-None-clause-none_whole : goal.returns-in-None-clause-none_whole
returns-in-None-clause-none_whole c =
    let found = rw c.in-None.is at c.in_ok-segment.ensures in
    let old = c.args.self.now.segmenter in
    segment_lines-pends old.numbers c.add.new.self.numbers old.chunks c.add.new.self.chunks c.args.chunk.now c.args.self.now.pending (λ ends. let some = found.ends.1 ends in cc) found.numbers found.pending

pub returns-in-Some-clause-whole : goal.returns-in-Some-clause-whole
returns-in-Some-clause-whole c =
    let found = rw c.in-Some.is at c.in_ok-segment.ensures in
    let chunks = c.args.self.now.segmenter.chunks ++ c.args.chunk.now ∷ [] in
    IfOk-weaker c.segment_line.result _ _ (λ line is. subst IsLines (sym is) (IsLines-segment c.args.self.now.bits chunks)) (c.segment_line.ensures chunks found.segment)
