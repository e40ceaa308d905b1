use Rattle.std.proofs.Common.{List, sym, ap, ◌∙◌, subst}
use Rattle.std.specs.List.{All}
use Rattle.ss_base.specs.declared.ids.Standing.{Standing}
use Rattle.ss_base.specs.declared.name.Name.{Name}
use Rattle.ss_base.specs.Champions.{champions}
use Rattle.history.specs.StandingList.{standing}
use Rattle.legal_history.specs.Recorded.{Recorded, past_of}
use Rattle.champion_choice.specs.Lists.{shown, StampsTell}
use Rattle.champion_choice.specs.Scores.{StandsOnce}
use Rattle.store_core.specs.View.{rules_of}
use Rattle.store_core.proofs.ChoiceLaws.{lists_are, each_once, stamps_tell, choice_is}
use Rattle.store_core.proofs.state.State.champions.Goals as goal

pub greedy-requires : goal.greedy-requires
greedy-requires g c =
    let each = λ (hook : Name). c.index.ensures hook ∙ ap (λ (r : Recorded). standing _ hook (past_of r)) c.journal-journal.ensures.journal in
    let same = ap shown c.as_slice.ensures.value ∙ c.in_ok-lists.ensures ∙ lists_are _ _ _ _ each in
    let legal = c.journal-journal.ensures.legal in
    record {
      rounds = c.journal-journal.ensures.champions;
      once = subst (λ (lists : List (List Standing)). All StandsOnce lists) (sym same) (each_once _ _ _ _ legal);
      stamps = subst (λ (lists : List (List Standing)). StampsTell lists) (sym same) (stamps_tell _ _ _ _ legal);
    }

pub returns : goal.returns
returns g c =
    let each = λ (hook : Name). c.index.ensures hook ∙ ap (λ (r : Recorded). standing _ hook (past_of r)) c.journal-journal.ensures.journal in
    let same = ap shown c.as_slice.ensures.value ∙ c.in_ok-lists.ensures ∙ lists_are _ _ _ _ each in
    c.in_ok-chosen.ensures ∙ ap (champions _) same ∙ choice_is (rules_of g.row.L g.row.M c.args.self.now) _ _
