use Rattle.std.proofs.Common.{List, reverse, ap, ◌∙◌}
use Rattle.journal_entry.specs.declared.entry.Entry.{Entry}
use Rattle.legal_history.specs.Recorded.{past_of}
use Rattle.store_core.specs.Uses.{are_listed}
use Rattle.store_core.proofs.UsesLaws.{uses_are}
use Rattle.store_core.proofs.uses.are_uses.Goals as goal

pub returns : goal.returns
returns c =
    c.are_listed.ensures
    ∙ ap (λ (entries : List Entry). are_listed c.args.session c.champion_numbers.result.now (reverse entries) c.args.uses.now) c.entries-entries.ensures.entries
    ∙ uses_are c.args.history.now.rules c.args.session (past_of c.args.history.now) _ _ c.entries-entries.ensures.legal c.requires c.champion_numbers.ensures
