use Rattle.std.proofs.Common.{◌≡◌, ◌≤◌, true, List, [], ◌∷◌}
use Rattle.std.specs.List.{All}
use Rattle.std.proofs.lemmas.List.Elements.{All-nil, All-cons}
use Rattle.journal_entry.specs.declared.entry.Entry.{Entry}
use Rattle.history.specs.declared.rules.Rules.{Rules}
use Rattle.history.specs.Bounds.{IsWithinBounds}
use Rattle.history.specs.Legal.{is_legal}
use Rattle.history_laws.proofs.Allowed.{step}
use Rattle.history_laws.proofs.BoundLaws.{allowed_bounds}
use Rattle.history_laws.proofs.entries.entries_within_bounds.Goals as goal

pub returns-clause-newest : goal.returns-clause-newest
returns-clause-newest c = λ rules entry past few legal.
    allowed_bounds rules past entry.author entry.point few (step rules entry past legal).allowed

each_bounded : (rules : Rules) (past : List Entry) → rules.champions ≤ 255 → is_legal rules past ≡ true → All IsWithinBounds past
each_bounded rules [] few legal = All-nil IsWithinBounds
each_bounded rules (entry ∷ past) few legal =
    let now = step rules entry past legal in
    All-cons IsWithinBounds entry past (allowed_bounds rules past entry.author entry.point few now.allowed) (each_bounded rules past few now.legal)

pub returns-clause-each : goal.returns-clause-each
returns-clause-each c = each_bounded
