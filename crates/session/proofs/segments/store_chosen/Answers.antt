use Rattle.std.proofs.Common.{refl, subst}
use Rattle.store_core.specs.declared.values.Choice.{Choice}
use Rattle.depot.specs.Seen.{seen}
use Rattle.session.specs.Ready.{progress_of, CanCommitFor}
use Rattle.session.specs.Stores.{IsStoredFor}
use Rattle.session.specs.Stops.{NotStoredFor}
use Rattle.session.specs.Stops.HasGivenUpChosen.{unstored, uncommitted}
use Rattle.session.proofs.CallLaws.{can_commit, can_abort_chosen, can_abort_uncommitted, ready_again}
use Rattle.session.proofs.segments.store_chosen.Goals as goal

pub commit-requires : goal.commit-requires
commit-requires g c =
    let chosen = g.C.SessionCalls.of_chosen c.args.calls.now c.args.chosen in
    let shelf = seen g.K.Shelf c.args.depot.now in
    can_commit chosen c.args.extent.now c.store_for.new.extent c.requires.waiting _ c.in-Ok.ensures.goes_on shelf c.in-Ok.stored c.in-Ok.written
    (subst (λ (choice : Choice). CanCommitFor choice shelf c.store_for.new.extent.end c.in-Ok.stored c.in-Ok.written) c.choice-choice.ensures c.in-Ok.ensures.committed)

pub abort_chosen-idle-requires : goal.abort_chosen-idle-requires
abort_chosen-idle-requires g c =
    let chosen = g.C.SessionCalls.of_chosen c.args.calls.now c.args.chosen in
    let shelf = seen g.K.Shelf c.args.depot.now in
    let for = subst (λ (choice : Choice). CanCommitFor choice shelf c.store_for.new.extent.end c.in-Ok.stored c.in-Ok.written) c.choice-choice.ensures c.in-Ok.ensures.committed in
    can_abort_uncommitted chosen c.args.extent.now c.store_for.new.extent c.requires.waiting _ c.in-Ok.ensures.goes_on shelf c.in-Ok.stored c.in-Ok.written for
    g.C.SessionCalls.others g.C.SessionCalls.standings g.C.SessionCalls.champions (g.C.SessionCalls.of_chosen c.commit.new.self c.in-Err-commit.chosen) c.in-Err-commit.fault c.in-Err-commit.ensures c.in-Ok.ensures.texts

pub abort_chosen-idle-requires-in-Err : goal.abort_chosen-idle-requires-in-Err
abort_chosen-idle-requires-in-Err g c =
    can_abort_chosen (g.C.SessionCalls.of_chosen c.args.calls.now c.args.chosen) c.args.extent.now c.store_for.new.extent c.requires.waiting _ c.in-Err.ensures.goes_on
    c.in-Err.ensures.texts

pub returns-in-Ok-commit-clause-answer : goal.returns-in-Ok-commit-clause-answer
returns-in-Ok-commit-clause-answer g c = λ chunks has.
    let before = progress_of (seen g.K.Shelf c.args.depot.now) c.args.extent.now c.args.cache.now.entries in
    let after = progress_of (seen g.K.Shelf c.store_for.new.depot) c.store_for.new.extent c.store_for.new.cache.entries in
    record {
      stored = c.in-Ok.stored;
      written = c.in-Ok.written;
      stores = subst (λ (choice : Choice). IsStoredFor chunks choice c.args.room before after c.in-Ok.stored c.in-Ok.written) c.choice-choice.ensures (c.in-Ok.ensures.answer chunks has);
      commits = c.in-Ok-commit.ensures;
    }

pub returns-in-Ok-commit-clause-ready : goal.returns-in-Ok-commit-clause-ready
returns-in-Ok-commit-clause-ready g c =
    let chosen = g.C.SessionCalls.of_chosen c.args.calls.now c.args.chosen in
    let shelf = seen g.K.Shelf c.args.depot.now in
    let for = subst (λ (choice : Choice). CanCommitFor choice shelf c.store_for.new.extent.end c.in-Ok.stored c.in-Ok.written) c.choice-choice.ensures c.in-Ok.ensures.committed in
    ready_again chosen c.args.extent.now c.store_for.new.extent c.requires.waiting _ c.in-Ok.ensures.goes_on shelf c.in-Ok.stored c.in-Ok.written for
    g.C.SessionCalls.others g.C.SessionCalls.standings g.C.SessionCalls.champions (g.C.SessionCalls.of_open c.commit.new.self c.in-Ok-commit.caller) c.in-Ok-commit.ensures c.in-Ok.ensures.texts

pub returns-in-Err-commit-clause-answer : goal.returns-in-Err-commit-clause-answer
returns-in-Err-commit-clause-answer g c = λ chunks has.
    let before = progress_of (seen g.K.Shelf c.args.depot.now) c.args.extent.now c.args.cache.now.entries in
    let after = progress_of (seen g.K.Shelf c.store_for.new.depot) c.store_for.new.extent c.store_for.new.cache.entries in
    uncommitted after c.in-Ok.stored c.in-Ok.written (g.C.SessionCalls.of_chosen c.commit.new.self c.in-Err-commit.chosen) c.in-Err-commit.fault (refl, refl) c.of_point.ensures
    (subst (λ (choice : Choice). IsStoredFor chunks choice c.args.room before after c.in-Ok.stored c.in-Ok.written) c.choice-choice.ensures (c.in-Ok.ensures.answer chunks has))
    c.in-Err-commit.ensures c.abort_chosen-idle.ensures

pub returns-in-Err-clause-answer : goal.returns-in-Err-clause-answer
returns-in-Err-clause-answer g c = λ chunks has.
    let before = progress_of (seen g.K.Shelf c.args.depot.now) c.args.extent.now c.args.cache.now.entries in
    let after = progress_of (seen g.K.Shelf c.store_for.new.depot) c.store_for.new.extent c.store_for.new.cache.entries in
    unstored after (refl, refl)
    (subst (λ (choice : Choice). NotStoredFor chunks choice c.args.room before after c.in-Err.fault) c.choice-choice.ensures (c.in-Err.ensures.answer chunks has))
    c.abort_chosen-idle-in-Err.ensures
