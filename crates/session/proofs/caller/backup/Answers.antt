use Rattle.std.proofs.Common.{true, refl, subst}
use Rattle.outside.specs.Views.{SourceView, shelf_view}
use Rattle.depot.specs.Seen.{seen}
use Rattle.session.specs.Runs.{HasStreamed, HasNotStreamed}
use Rattle.session.specs.Backup.HasNotStarted.{unasked, unbegun}
use Rattle.session.specs.Backup.HasNotBackedUp.{not_started, given_up}
use Rattle.session.proofs.BackupLaws.{input_same, there_is}
use Rattle.history_calls.proofs.AskLaws.{begun_idle}
use Rattle.session.proofs.caller.backup.Goals as goal

pub returns-in-Err-clause-answer : goal.returns-in-Err-clause-answer
returns-in-Err-clause-answer g c = not_started (refl, refl) (unasked c.in-Err.trouble c.of_input.ensures refl)

pub returns-in-Err-begin-clause-answer : goal.returns-in-Err-begin-clause-answer
returns-in-Err-begin-clause-answer g c =
    not_started (refl, refl)
    (unbegun c.in-Err-begin.fault c.of_begin.ensures
    (there_is (shelf_view g.F.Shelf c.args.files.now) c.args.input.now c.in-Ok-true.field-0 true c.in-Ok-true.field-0-test c.in-Ok-true.ensures.answer) c.in-Err-begin.ensures)

pub store_input-requires : goal.store_input-requires
store_input-requires g c =
    let calls = g.C.SessionCalls in
    record {
      begun = begun_idle calls.others calls.standings calls.champions (calls.of_idle c.args.calls.now c.args.idle) c.args.name (calls.of_open c.begin.new.self c.in-Ok.caller) c.in-Ok.ensures;
    }

pub returns-in-Ok-store_input-clause-answer : goal.returns-in-Ok-store_input-clause-answer
returns-in-Ok-store_input-clause-answer g c =
    let calls = g.C.SessionCalls in
    let files = shelf_view g.F.Shelf c.args.files.now in
    let caller = calls.of_open c.begin.new.self c.in-Ok.caller in
    let asked = c.in-Ok-true.ensures in
    record {
      started = record { there = there_is files c.args.input.now c.in-Ok-true.field-0 true c.in-Ok-true.field-0-test asked.answer; caller = caller; begun = c.in-Ok.ensures };
      streamed =
          subst (λ (input : SourceView). HasStreamed calls.others calls.standings calls.champions caller input (seen g.K.Shelf c.args.depot.now) c.args.cache.now.entries (calls.of_idle c.store_input.new.calls c.in-Ok-store_input.idle) (seen g.K.Shelf c.store_input.new.depot) c.store_input.new.cache.entries)
          (input_same files (shelf_view g.F.Shelf c.has.new.self) c.args.input.now asked.held asked.cause.quiet) c.in-Ok-store_input.ensures.answer;
      session_is = c.session-session.ensures;
    }

pub returns-in-Err-store_input-clause-answer : goal.returns-in-Err-store_input-clause-answer
returns-in-Err-store_input-clause-answer g c =
    let calls = g.C.SessionCalls in
    let files = shelf_view g.F.Shelf c.args.files.now in
    let caller = calls.of_open c.begin.new.self c.in-Ok.caller in
    let asked = c.in-Ok-true.ensures in
    given_up (record { there = there_is files c.args.input.now c.in-Ok-true.field-0 true c.in-Ok-true.field-0-test asked.answer; caller = caller; begun = c.in-Ok.ensures })
    (subst (λ (input : SourceView). HasNotStreamed calls.others calls.standings calls.champions caller input (seen g.K.Shelf c.args.depot.now) c.args.cache.now.entries (calls.of_idle c.store_input.new.calls c.in-Err-store_input.idle) (seen g.K.Shelf c.store_input.new.depot) c.store_input.new.cache.entries c.in-Err-store_input.fault)
    (input_same files (shelf_view g.F.Shelf c.has.new.self) c.args.input.now asked.held asked.cause.quiet) c.in-Err-store_input.ensures.answer)
