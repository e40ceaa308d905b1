use Rattle.std.proofs.Common.{◌≡◌, true, length, sym, ap, ◌∙◌, subst, arith}
use Rattle.std.proofs.lemmas.Iterator.Adapters.{YieldsList-from_vec}
use Rattle.std.proofs.lemmas.Iterator.Consumers.{YieldsList-turn, YieldsList-end}
use Rattle.history.specs.Sessions.{is_unfinished, is_reading}
use Rattle.history.specs.Legal.{is_legal}
use Rattle.legal_history.specs.Recorded.{Recorded, past_of as past_recorded}
use Rattle.store_core.specs.View.{StateView, past_of, rules_of}
use Rattle.store_core.specs.Replay.{IsFirstIllegal, NoneIs, IsLeast, has_session, has_reading}
use Rattle.store_core.proofs.ReplayLaws.{all_first, first_length, first_refused, few_taken, is_refused}
use Rattle.store_core.proofs.state.State.replay.Goals as goal

pub overflow_cast-number : goal.overflow_cast-number
overflow_cast-number g c =
    let few = few_taken _ _ c.loop-entry.state c.entries.ensures.legal in
    let limit = ap (λ (view : StateView). view.limits.entries) c.loop-entry.invariant.2 in
    let same = ap length c.entries.ensures.entries in
    let most = c.requires.entries in
    omega (arith, few, limit, same, most)

pub returns-in-Ok-false : goal.returns-in-Ok-false
returns-in-Ok-false g c =
    let asked : StateView = record { profile = c.args.profile; limits = c.args.limits; entries = c.args.entries.items } in
    let given = c.into_iter-entry-iterator.ensures.into_iter_gives in
    let turn = YieldsList-turn (YieldsList-from_vec c.args.entries.items given.0 (given.1 ∙ c.args.entries.ok.0)) c.loop-entry.yielded _ c.loop-entry.yielded_by _ c.next.new.self c.in-Some.entry c.in-Some.is c.next.ensures.steps in
    let is = c.loop-entry.invariant.2 in
    let refused = is_refused g.row.L g.row.M c.loop-entry.state c.take.new.self c.in-Some.entry c.in-Ok-false.field-0 c.in-Ok-false.ensures c.in-Ok-false.field-0-test in
    subst (λ n. IsFirstIllegal g.row.L g.row.M asked n)
    (sym (ap length c.entries.ensures.entries ∙ first_length asked c.loop-entry.state _ is turn.0))
    (first_refused g.row.L g.row.M asked c.loop-entry.state _ c.in-Some.entry is turn.0 turn.1 c.entries.ensures.legal refused)

pub returns-in-Some-least_unfinished : goal.returns-in-Some-least_unfinished
returns-in-Some-least_unfinished g c =
    let asked : StateView = record { profile = c.args.profile; limits = c.args.limits; entries = c.args.entries.items } in
    let given = c.into_iter-entry-iterator.ensures.into_iter_gives in
    let end = YieldsList-end (YieldsList-from_vec c.args.entries.items given.0 (given.1 ∙ c.args.entries.ok.0)) c.loop-entry.yielded _ c.loop-entry.yielded_by _ c.next.new.self c.in-None.is c.next.ensures.steps in
    let is = all_first asked c.loop-entry.state _ c.loop-entry.invariant.2 end.1 in
    let history = c.history.ensures ∙ c.journal.ensures.journal in
    let session = c.in-Some-least_unfinished.session in
    let least = subst (λ (r : Recorded). IsLeast (λ s. is_unfinished s (past_recorded r)) session) history c.in-Some-least_unfinished.ensures.some in (
      subst (λ (view : StateView). is_legal (rules_of g.row.L g.row.M view) (past_of view) ≡ true) is c.journal.ensures.legal,
      subst (λ (view : StateView). IsLeast (has_session view) session) is least,
    )

pub returns-in-Some-least_reading : goal.returns-in-Some-least_reading
returns-in-Some-least_reading g c =
    let asked : StateView = record { profile = c.args.profile; limits = c.args.limits; entries = c.args.entries.items } in
    let given = c.into_iter-entry-iterator.ensures.into_iter_gives in
    let end = YieldsList-end (YieldsList-from_vec c.args.entries.items given.0 (given.1 ∙ c.args.entries.ok.0)) c.loop-entry.yielded _ c.loop-entry.yielded_by _ c.next.new.self c.in-None.is c.next.ensures.steps in
    let is = all_first asked c.loop-entry.state _ c.loop-entry.invariant.2 end.1 in
    let history = c.history.ensures ∙ c.journal.ensures.journal in
    let later = c.history-2.ensures ∙ c.journal-2.ensures.journal in
    let reader = c.in-Some-least_reading.reader in
    let none = subst (λ (r : Recorded). NoneIs (λ s. is_unfinished s (past_recorded r))) history c.in_default.ensures.none in
    let least = subst (λ (r : Recorded). IsLeast (λ n. is_reading n (past_recorded r)) reader) later c.in-Some-least_reading.ensures.some in (
      subst (λ (view : StateView). is_legal (rules_of g.row.L g.row.M view) (past_of view) ≡ true) is c.journal.ensures.legal,
      subst (λ (view : StateView). NoneIs (has_session view)) is none,
      subst (λ (view : StateView). IsLeast (has_reading view) reader) is least,
    )

pub returns : goal.returns
returns g c =
    let asked : StateView = record { profile = c.args.profile; limits = c.args.limits; entries = c.args.entries.items } in
    let given = c.into_iter-entry-iterator.ensures.into_iter_gives in
    let end = YieldsList-end (YieldsList-from_vec c.args.entries.items given.0 (given.1 ∙ c.args.entries.ok.0)) c.loop-entry.yielded _ c.loop-entry.yielded_by _ c.next.new.self c.in-None.is c.next.ensures.steps in
    let is = all_first asked c.loop-entry.state _ c.loop-entry.invariant.2 end.1 in
    let history = c.history.ensures ∙ c.journal.ensures.journal in
    let later = c.history-2.ensures ∙ c.journal-2.ensures.journal in
    let none = subst (λ (r : Recorded). NoneIs (λ s. is_unfinished s (past_recorded r))) history c.in_default.ensures.none in
    let unread = subst (λ (r : Recorded). NoneIs (λ n. is_reading n (past_recorded r))) later c.in_default-least_reading.ensures.none in (
      is,
      subst (λ (view : StateView). is_legal (rules_of g.row.L g.row.M view) (past_of view) ≡ true) is c.journal.ensures.legal,
      subst (λ (view : StateView). NoneIs (has_session view)) is none,
      subst (λ (view : StateView). NoneIs (has_reading view)) is unread,
    )
