use Rattle.std.proofs.Common.{refl, sym, ◌∙◌, subst}
use Rattle.ss_base.specs.declared.profile.Profile.{Profile}
use Rattle.outside.specs.Views.{source_view, sink_view, shelf_view}
use Rattle.store_run.specs.Output.{names_text, segments_text}
use Rattle.store_run.specs.Run.{StreamAnswer, InitAnswer}
use Rattle.store_run.proofs.CommandLaws.{same_words, same_job, plain_names, plain_segments, plain_init, plain_journal, plain_of, not_usage, not_none}
use Rattle.store_run.specs.declared.command.Command.TheVariants.{Names, Segments, Init, Journal, Job}
use Rattle.job_script.specs.declared.job.JobKind.{JobKind}
use Rattle.store_run.specs.JobRun.{JobRun}
use Rattle.store_run.proofs.run.run_solo.Goals as goal

pub returns-in-None-clause-names : goal.returns-in-None-clause-names
returns-in-None-clause-names g c = λ profile asked.
    absurd (not_usage c.args.words.now (Names profile) c.in-None.ensures.none tt asked (plain_of c.args.words.now (Names profile) asked (plain_names profile)))

pub returns-in-None-clause-segments : goal.returns-in-None-clause-segments
returns-in-None-clause-segments g c = λ profile asked.
    absurd (not_usage c.args.words.now (Segments profile) c.in-None.ensures.none tt asked (plain_of c.args.words.now (Segments profile) asked (plain_segments profile)))

pub returns-in-None-clause-init : goal.returns-in-None-clause-init
returns-in-None-clause-init g c = λ profile asked.
    absurd (not_usage c.args.words.now (Init profile) c.in-None.ensures.none tt asked (plain_of c.args.words.now (Init profile) asked (plain_init profile)))

pub returns-in-None-clause-journal : goal.returns-in-None-clause-journal
returns-in-None-clause-journal g c = λ asked.
    absurd (not_usage c.args.words.now Journal c.in-None.ensures.none tt asked (plain_of c.args.words.now Journal asked plain_journal))

pub returns-in-Some-Names-clause-names : goal.returns-in-Some-Names-clause-names
returns-in-Some-Names-clause-names g c profile asked =
    let found = rw c.in-Some-Names.field-0-is at c.in-Some-Names.ensures.found in
    subst
    (λ (p : Profile). StreamAnswer (names_text p) (source_view g.S.Source c.args.script.now) (source_view g.S.Source c.print_names.new.script) (sink_view g.O.Sink c.args.out.now) (sink_view g.O.Sink c.print_names.new.out) c.print_names.result)
    (same_words _ c.in-Some-Names.profile profile (sym found ∙ asked)) c.print_names.ensures.answer

pub returns-in-Some-Segments-clause-segments : goal.returns-in-Some-Segments-clause-segments
returns-in-Some-Segments-clause-segments g c profile asked =
    let found = rw c.in-Some-Segments.field-0-is at c.in-Some-Segments.ensures.found in
    subst
    (λ (p : Profile). StreamAnswer (segments_text p) (source_view g.S.Source c.args.script.now) (source_view g.S.Source c.print_segments.new.script) (sink_view g.O.Sink c.args.out.now) (sink_view g.O.Sink c.print_segments.new.out) c.print_segments.result)
    (same_words _ c.in-Some-Segments.profile profile (sym found ∙ asked)) c.print_segments.ensures.answer

pub returns-in-Some-Init-clause-init : goal.returns-in-Some-Init-clause-init
returns-in-Some-Init-clause-init g c profile asked =
    let found = rw c.in-Some-Init.field-0-is at c.in-Some-Init.ensures.found in
    subst
    (λ (p : Profile). InitAnswer p (shelf_view g.K.Shelf c.args.lane.now.depot) (shelf_view g.K.Shelf c.make_store.new.depot) (sink_view g.O.Sink c.args.out.now) (sink_view g.O.Sink c.make_store.new.out) c.make_store.result)
    (same_words _ c.in-Some-Init.profile profile (sym found ∙ asked)) c.make_store.ensures.answer

pub returns-in-None-clause-jobs : goal.returns-in-None-clause-jobs
returns-in-None-clause-jobs g c = λ kind is asked plain. absurd (not_usage c.args.words.now (Job kind) c.in-None.ensures.none is asked plain)

pub returns-in-Some-Job-clause-jobs : goal.returns-in-Some-Job-clause-jobs
returns-in-Some-Job-clause-jobs g c = λ kind is asked plain.
    let found = rw c.in-Some-Job.field-0-is at c.in-Some-Job.ensures.found in
    subst
    (λ (k : JobKind). JobRun k (record { files = shelf_view g.F.Shelf c.args.lane.now.files; depot = shelf_view g.K.Shelf c.args.lane.now.depot }) (record { files = shelf_view g.F.Shelf c.run_on_store.new.files; depot = shelf_view g.K.Shelf c.run_on_store.new.depot }) (sink_view g.O.Sink c.args.out.now) (sink_view g.O.Sink c.run_on_store.new.out) c.run_on_store.result)
    (same_job c.in-Some-Job.kind kind (sym found ∙ asked)) c.run_on_store.ensures

pub returns-in-Some-Job-clause-usage : goal.returns-in-Some-Job-clause-usage
returns-in-Some-Job-clause-usage g c = λ usage.
    let found = rw c.in-Some-Job.field-0-is at c.in-Some-Job.ensures.found in
    let within = rw c.in-Some-Job.field-0-is at c.in-Some-Job.ensures.within in
    absurd (not_usage c.args.words.now (Job c.in-Some-Job.kind) usage within found (c.in-Some-Job.ensures.plain refl))

pub returns-in-Some-Job-clause-files : goal.returns-in-Some-Job-clause-files
returns-in-Some-Job-clause-files g c = λ none.
    let found = rw c.in-Some-Job.field-0-is at c.in-Some-Job.ensures.found in
    let within = rw c.in-Some-Job.field-0-is at c.in-Some-Job.ensures.within in
    absurd (not_none c.args.words.now c.in-Some-Job.kind none within found (c.in-Some-Job.ensures.plain refl))

pub returns-in-Some-Job-clause-depot : goal.returns-in-Some-Job-clause-depot
returns-in-Some-Job-clause-depot g c = λ none no_init no_journal.
    let found = rw c.in-Some-Job.field-0-is at c.in-Some-Job.ensures.found in
    let within = rw c.in-Some-Job.field-0-is at c.in-Some-Job.ensures.within in
    absurd (not_none c.args.words.now c.in-Some-Job.kind none within found (c.in-Some-Job.ensures.plain refl))
