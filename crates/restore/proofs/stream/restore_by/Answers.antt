use Rattle.std.proofs.Common.{refl, ap}
use Rattle.std.specs.Prelude.{Err}
use Rattle.outside.specs.Views.{shelf_view}
use Rattle.restore.specs.Copies.{shelves}
use Rattle.restore.specs.Restores.RestoreAnswer.{not_asked, not_looked, copied}
use Rattle.history_calls.proofs.ReadLaws.{can_end}
use Rattle.restore.proofs.AnswerLaws.{is_absent, same_files, copied_from}
use Rattle.restore.proofs.stream.restore_by.Goals as goal

pub returns-in-Err-clause-answer : goal.returns-in-Err-clause-answer
returns-in-Err-clause-answer g c = not_asked c.in-Err.trouble (ap Err c.of_output.ensures) refl c.in-Err.ensures refl

pub returns-in-Err-look-clause-answer : goal.returns-in-Err-look-clause-answer
returns-in-Err-look-clause-answer g c =
    let files = shelf_view g.F.Shelf in
    let there = c.in-Ok-false.ensures in
    not_looked c.in-Err-look.fault (ap Err c.of_look.ensures) c.in-Err-look.ensures
    (is_absent (files c.args.files.now) c.args.output.now c.in-Ok-false.field-0 c.in-Ok-false.field-0-test there.0)
    (same_files (shelves g.F.Shelf g.K.Shelf c.args.files.now c.args.depot.now) (files c.is_there.new.files) there.1)

pub done-requires : goal.done-requires
done-requires g c =
    let calls = g.C.ReadingCalls in
    can_end calls.others calls.standings calls.champions (calls.of_idle c.args.calls.now c.args.idle) c.args.name (calls.of_reading c.look.new.self c.in-Ok.reading) c.in-Ok.ensures

pub returns-clause-answer : goal.returns-clause-answer
returns-clause-answer g c =
    let calls = g.C.ReadingCalls in
    let both = shelves g.F.Shelf g.K.Shelf in
    let files = shelf_view g.F.Shelf in
    let there = c.in-Ok-false.ensures in
    let reading = calls.of_reading c.look.new.self c.in-Ok.reading in
    copied reading.looked
    (record { reading = reading; found_is = refl; looked = c.in-Ok.ensures; ended = c.done.ensures })
    (is_absent (files c.args.files.now) c.args.output.now c.in-Ok-false.field-0 c.in-Ok-false.field-0-test there.0)
    (copied_from c.args.output.now (both c.args.files.now c.args.depot.now) (files c.is_there.new.files) (both c.copy_stream-result.new.files c.copy_stream-result.new.depot)
    c.looked-looked.result.now c.deref.result.now reading.looked c.copy_stream-result.result there.1 c.deref.ensures.value c.looked-looked.ensures c.copy_stream-result.ensures.answer)
