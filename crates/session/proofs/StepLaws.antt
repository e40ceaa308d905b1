-- One segment of a session.
use Rattle.std.proofs.Common.{◌≡◌, ℕ, List, [], ◌∷◌, ◌++◌, Result, Ok, Err, refl, subst}
use Rattle.std.specs.Prelude.{MatchResult}
use Rattle.journal_entry.specs.declared.entry.Entry.{Entry}
use Rattle.outside.specs.Views.{ShelfView}
use Rattle.depot.specs.declared.fault.BackupFault.{BackupFault}
use Rattle.history_calls.specs.Tokens.{IdleView, ChosenView}
use Rattle.history_calls.specs.SessionSteps.{HasChosen}
use Rattle.segment_store.specs.Loads.{Entries}
use Rattle.session.specs.Stores.{Reached, hooks_for, room_for, HasStoredChosen, HasStored, HasStoredAll}
use Rattle.session.specs.Stops.{HasGivenUpChosen, HasGivenUp}
use Rattle.session.specs.Stops.HasGivenUp.{behind}

module _ (others : List Entry → Type 0) (standings champions : ℕ) where
  -- what was done behind the choice, with the choice
  pub next_answer : {O I : Type 0} (chunks : List (List ℕ)) (before : Reached) (chosen : ChosenView) (room : ℕ) → room ≡ room_for before.caller
      → HasChosen others standings champions before.caller (hooks_for before.caller chunks) chosen
      → (result : Result O (I × BackupFault)) (after : O → Reached) (idle : I → IdleView) (shelf : ShelfView) (cache : Entries)
      → MatchResult result
      (λ token. HasStoredChosen others standings champions chunks room chosen before.progress (after token))
      (λ back. HasGivenUpChosen others standings champions chunks room chosen before.progress (idle back.0) shelf cache back.1)
      → MatchResult result
      (λ token. HasStored others standings champions chunks before (after token))
      (λ back. HasGivenUp others standings champions chunks before (idle back.0) shelf cache back.1)
  next_answer chunks before chosen room is chooses (Ok token) after idle shelf cache did = record {
    chosen = chosen;
    chooses = chooses;
    behind = subst (λ (r : ℕ). HasStoredChosen others standings champions chunks r chosen before.progress (after token)) is did;
  }
  next_answer chunks before chosen room is chooses (Err back) after idle shelf cache did =
      behind chosen chooses (subst (λ (r : ℕ). HasGivenUpChosen others standings champions chunks r chosen before.progress (idle back.0) shelf cache back.1) is did)

  -- one segment more
  pub stored_more : (segments : List (List (List ℕ))) (chunks : List (List ℕ)) (start now after : Reached)
      → HasStoredAll others standings champions segments start now → HasStored others standings champions chunks now after
      → HasStoredAll others standings champions (segments ++ chunks ∷ []) start after
  stored_more [] chunks start now after same one =
      (after, subst (λ (r : Reached). HasStored others standings champions chunks r after) same one, refl)
  stored_more (first ∷ segments) chunks start now after all one = (all.0, all.1, stored_more segments chunks all.0 now after all.2 one)
