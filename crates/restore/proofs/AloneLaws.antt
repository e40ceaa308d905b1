-- A caller that has the history to itself.
use Rattle.std.proofs.Common.{◌≡◌, ℕ, List, [], ◌++◌, ap, ◌∙◌}
use Rattle.std.proofs.lemmas.List.{append-nil}
use Rattle.journal_entry.specs.declared.entry.Entry.{Entry}
use Rattle.store_core.specs.View.{StateView}
use Rattle.history_calls.specs.Turn.{IsTurn}

-- its turn is as it had seen it
pub own_turn : (standings champions author : ℕ) (seen turn : StateView) → IsTurn (λ came. came ≡ []) standings champions author seen turn → turn ≡ seen
own_turn standings champions author seen turn is =
    is.turn_is ∙ ap (λ (es : List Entry). record seen { entries = seen.entries ++ es }) is.by_others ∙ ap (λ (es : List Entry). record seen { entries = es }) (append-nil seen.entries)
