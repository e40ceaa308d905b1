use Rattle.restore.specs.Copies.{shelves}
use Rattle.restore.proofs.AnswerLaws.{OwnCalls, solo_answer}
use Rattle.restore.proofs.ShowLaws.{shows}
use Rattle.restore.proofs.solo.restore_solo.Goals as goal

pub returns-clause-answer : goal.returns-clause-answer
returns-clause-answer g c =
    let both = shelves g.F.Shelf g.K.Shelf in
    let call = c.restore_by-result in
    solo_answer g.row.L g.row.M c.args.author call.result.0.author c.args.name c.args.state.now call.new.calls
    c.args.output.now (both c.args.files.now c.args.depot.now) (both call.new.files call.new.depot) call.result.1 call.ensures.answer

pub returns-clause-cause : goal.returns-clause-cause
returns-clause-cause g c =
    let both = shelves g.F.Shelf g.K.Shelf in
    let call = c.restore_by-result in
    let calls = OwnCalls g.row.L g.row.M c.args.author call.result.0.author c.args.name c.args.state.now call.new.calls in
    (shows calls c.args.output.now (both c.args.files.now c.args.depot.now) (both call.new.files call.new.depot) call.result.1 call.ensures.answer).cause

pub returns-clause-counts : goal.returns-clause-counts
returns-clause-counts g c =
    let both = shelves g.F.Shelf g.K.Shelf in
    let call = c.restore_by-result in
    let calls = OwnCalls g.row.L g.row.M c.args.author call.result.0.author c.args.name c.args.state.now call.new.calls in
    (shows calls c.args.output.now (both c.args.files.now c.args.depot.now) (both call.new.files call.new.depot) call.result.1 call.ensures.answer).counts

pub returns-clause-files : goal.returns-clause-files
returns-clause-files g c =
    let both = shelves g.F.Shelf g.K.Shelf in
    let call = c.restore_by-result in
    let calls = OwnCalls g.row.L g.row.M c.args.author call.result.0.author c.args.name c.args.state.now call.new.calls in
    (shows calls c.args.output.now (both c.args.files.now c.args.depot.now) (both call.new.files call.new.depot) call.result.1 call.ensures.answer).files_left

pub returns-clause-depot : goal.returns-clause-depot
returns-clause-depot g c =
    let both = shelves g.F.Shelf g.K.Shelf in
    let call = c.restore_by-result in
    let calls = OwnCalls g.row.L g.row.M c.args.author call.result.0.author c.args.name c.args.state.now call.new.calls in
    (shows calls c.args.output.now (both c.args.files.now c.args.depot.now) (both call.new.files call.new.depot) call.result.1 call.ensures.answer).depot_read
