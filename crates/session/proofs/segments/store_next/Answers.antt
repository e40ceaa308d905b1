use Rattle.std.proofs.Common.{◌≡◌, ◌≤◌, true, List, length, refl, ap, ◌∙◌, subst, arith}
use Rattle.ss_base.specs.declared.name.Name.{Name}
use Rattle.ss_base.specs.declared.name.Piece.{Piece}
use Rattle.ss_base.specs.declared.profile.Numbers.{Numbers}
use Rattle.ss_base.specs.Profile.{numbers_of}
use Rattle.hook_sampler.specs.Hooks.{hooks}
use Rattle.history.specs.Legal.{are_hooks}
use Rattle.journal_entry.specs.Bounds.{most_hooks}
use Rattle.depot.specs.Seen.{seen}
use Rattle.history_calls.specs.SessionSteps.{HasChosen, HasNotChosen}
use Rattle.session.specs.Ready.{reached}
use Rattle.session.specs.Stores.{hooks_for}
use Rattle.session.specs.Stops.HasGivenUp.{unchosen}
use Rattle.session.proofs.StepLaws.{next_answer}
use Rattle.session.proofs.HookLaws.{hooks_valid}
use Rattle.session.proofs.CallLaws.{can_choose, can_abort, now_waiting, still_ready}
use Rattle.session.proofs.segments.store_next.Goals as goal

pub abort-idle-requires : goal.abort-idle-requires
abort-idle-requires g c = can_abort (g.C.SessionCalls.of_open c.args.calls.now c.args.caller) c.args.extent.now c.requires.ready

pub choose-requires : goal.choose-requires
choose-requires g c =
    let caller = g.C.SessionCalls.of_open c.args.calls.now c.args.caller in
    let numbers : c.numbers-numbers.result ≡ numbers_of caller.seen.profile = c.numbers-numbers.ensures.table ∙ ap numbers_of c.profile.ensures in
    let names = c.in-Ok.hooks.items in
    let few : length names ≤ most_hooks = omega (arith, c.in-Ok.ensures.few, c.deref.ensures.len, c.args.segment.now.bounded, c.in-Ok.hooks.ok.0) in
    can_choose caller c.args.extent.now c.requires.ready names
    (subst (λ (n : Numbers). are_hooks n.bits names ≡ true) numbers (hooks_valid c.numbers-numbers.result.bits names c.in-Ok.ensures.sampled c.in-Ok.ensures.distinct few))

pub store_chosen-requires : goal.store_chosen-requires
store_chosen-requires g c = record {
  waiting =
      now_waiting g.C.SessionCalls.others g.C.SessionCalls.standings g.C.SessionCalls.champions (g.C.SessionCalls.of_open c.args.calls.now c.args.caller) c.args.extent.now c.requires.ready
      c.in-Ok.hooks.items (g.C.SessionCalls.of_chosen c.choose.new.self c.in-Ok-choose.chosen) c.in-Ok-choose.ensures;
}

pub abort-idle-requires-in-Err : goal.abort-idle-requires-in-Err
abort-idle-requires-in-Err g c =
    let back = g.C.SessionCalls.of_open c.choose.new.self c.in-Err.caller in
    can_abort back c.args.extent.now
    (still_ready g.C.SessionCalls.others g.C.SessionCalls.standings g.C.SessionCalls.champions (g.C.SessionCalls.of_open c.args.calls.now c.args.caller) c.args.extent.now c.requires.ready
    c.in-Ok.hooks.items back c.in-Err.fault c.in-Err.ensures)

pub returns-in-Ok-choose-clause-answer : goal.returns-in-Ok-choose-clause-answer
returns-in-Ok-choose-clause-answer g c = λ chunks has.
    let before = reached (g.C.SessionCalls.of_open c.args.calls.now c.args.caller) (seen g.K.Shelf c.args.depot.now) c.args.extent.now c.args.cache.now.entries in
    let after = reached (g.C.SessionCalls.of_open c.store_chosen.new.calls c.args.caller) (seen g.K.Shelf c.store_chosen.new.depot) c.store_chosen.new.extent c.store_chosen.new.cache.entries in
    let numbers : c.numbers-numbers.result ≡ numbers_of before.caller.seen.profile = c.numbers-numbers.ensures.table ∙ ap numbers_of c.profile.ensures in
    let names : c.in-Ok.hooks.items ≡ hooks_for before.caller chunks =
    c.in-Ok.ensures.hooks ∙ ap (λ (n : Numbers). hooks n.bits c.deref.result.now) numbers ∙ ap (λ (ps : List Piece). hooks (numbers_of before.caller.seen.profile).bits ps) (c.deref.ensures.value ∙ has.pieces) in
    let chosen = g.C.SessionCalls.of_chosen c.choose.new.self c.in-Ok-choose.chosen in
    let chooses = subst (λ (ns : List Name). HasChosen g.C.SessionCalls.others g.C.SessionCalls.standings g.C.SessionCalls.champions before.caller ns chosen) names c.in-Ok-choose.ensures in
    next_answer g.C.SessionCalls.others g.C.SessionCalls.standings g.C.SessionCalls.champions chunks before chosen c.numbers-numbers.result.room (ap (λ (n : Numbers). n.room) numbers) chooses
    c.store_chosen.result
    (λ token. reached (g.C.SessionCalls.of_open c.store_chosen.new.calls token) (seen g.K.Shelf c.store_chosen.new.depot) c.store_chosen.new.extent c.store_chosen.new.cache.entries)
    (λ back. g.C.SessionCalls.of_idle c.store_chosen.new.calls back) (seen g.K.Shelf c.store_chosen.new.depot) c.store_chosen.new.cache.entries
    (c.store_chosen.ensures.answer chunks has)

pub returns-in-Err-clause-answer : goal.returns-in-Err-clause-answer
returns-in-Err-clause-answer g c = λ chunks has.
    let before = reached (g.C.SessionCalls.of_open c.args.calls.now c.args.caller) (seen g.K.Shelf c.args.depot.now) c.args.extent.now c.args.cache.now.entries in
    let back = g.C.SessionCalls.of_open c.choose.new.self c.in-Err.caller in
    let numbers : c.numbers-numbers.result ≡ numbers_of before.caller.seen.profile = c.numbers-numbers.ensures.table ∙ ap numbers_of c.profile.ensures in
    let names : c.in-Ok.hooks.items ≡ hooks_for before.caller chunks =
    c.in-Ok.ensures.hooks ∙ ap (λ (n : Numbers). hooks n.bits c.deref.result.now) numbers ∙ ap (λ (ps : List Piece). hooks (numbers_of before.caller.seen.profile).bits ps) (c.deref.ensures.value ∙ has.pieces) in
    let refused = subst (λ (ns : List Name). HasNotChosen g.C.SessionCalls.others g.C.SessionCalls.standings g.C.SessionCalls.champions before.caller ns back c.in-Err.fault) names c.in-Err.ensures in
    unchosen back c.in-Err.fault c.of_point.ensures (refl, refl) refused c.abort-idle-in-Err.ensures
