-- What each call of a state asks holds at the turn of a pass that may ask for it.
use Rattle.std.proofs.Common.{◌≡◌, ℕ, ◌≤◌, true, false, List, sym, subst}
use Rattle.ss_base.specs.declared.ids.ContainerId.{ContainerId}
use Rattle.ss_base.specs.declared.name.Name.{Name}
use Rattle.ss_base.specs.Profile.{numbers_of}
use Rattle.history.specs.OwnEnd.{own_end}
use Rattle.history.specs.Sessions.{is_pending, is_reading, is_looked_by}
use Rattle.history.specs.Legal.{is_open_to, are_hooks, are_uses, are_texts}
use Rattle.store_core.specs.View.{StateView, past_of}
use Rattle.turn_lock.specs.Passes.{PassView}
use Rattle.history_calls.specs.Turn.{IsTurn}
use Rattle.store_shared.specs.Sight.{seen_by, AreByOthers}
use Rattle.store_shared.proofs.StayLaws.{open_stays, pending_stays, end_stays, texts_stay, uses_stay, hooks_stay, reading_stays}

module _ (standings champions : ℕ) (p : PassView) (old : StateView) (author s : ℕ) (own : author ≡ p.number) (is : IsTurn (AreByOthers p) standings champions p.number (seen_by p) old) where
  opened : is_open_to p.number s (past_of (seen_by p)) ≡ true → is_open_to author s (past_of old) ≡ true
  opened open_to = subst (λ a. is_open_to a s (past_of old) ≡ true) (sym own) (open_stays (AreByOthers p) standings champions p.number s (seen_by p) old is open_to)

  pub may_choose : (hooks : List Name) → is_open_to p.number s (past_of (seen_by p)) ≡ true → is_pending s (past_of (seen_by p)) ≡ false → are_hooks (numbers_of (seen_by p).profile).bits hooks ≡ true
      → (is_open_to author s (past_of old) ≡ true) × ((is_pending s (past_of old) ≡ false) × (are_hooks (numbers_of old.profile).bits hooks ≡ true))
  may_choose hooks open_to idle valid = (
    opened open_to,
    (
      pending_stays (AreByOthers p) standings champions p.number s (seen_by p) old is open_to false idle,
      hooks_stay (AreByOthers p) standings champions p.number s (seen_by p) old is hooks valid,
    ),
  )

  pub may_commit : (counts : Type 0) (uses : List ContainerId) → is_open_to p.number s (past_of (seen_by p)) ≡ true → is_pending s (past_of (seen_by p)) ≡ true → counts → are_uses s (past_of (seen_by p)) uses ≡ true
      → (is_open_to author s (past_of old) ≡ true) × ((is_pending s (past_of old) ≡ true) × (counts × (are_uses s (past_of old) uses ≡ true)))
  may_commit counts uses open_to waiting counted valid = (
    opened open_to,
    (
      pending_stays (AreByOthers p) standings champions p.number s (seen_by p) old is open_to true waiting,
      (counted, uses_stay (AreByOthers p) standings champions p.number s (seen_by p) old is open_to uses valid),
    ),
  )

  pub may_finish : (containers : ℕ) → is_open_to p.number s (past_of (seen_by p)) ≡ true → is_pending s (past_of (seen_by p)) ≡ false → own_end s (past_of (seen_by p)) ≤ containers
      → (is_open_to author s (past_of old) ≡ true) × ((is_pending s (past_of old) ≡ false) × (own_end s (past_of old) ≤ containers))
  may_finish containers open_to idle above = (
    opened open_to,
    (
      pending_stays (AreByOthers p) standings champions p.number s (seen_by p) old is open_to false idle,
      end_stays (AreByOthers p) standings champions p.number s (seen_by p) old is open_to containers above,
    ),
  )

  pub may_abort : (containers texts : ℕ) → is_open_to p.number s (past_of (seen_by p)) ≡ true → own_end s (past_of (seen_by p)) ≤ containers → are_texts s texts (past_of (seen_by p)) ≡ true
      → (is_open_to author s (past_of old) ≡ true) × ((own_end s (past_of old) ≤ containers) × (are_texts s texts (past_of old) ≡ true))
  may_abort containers texts open_to above written = (
    opened open_to,
    (
      end_stays (AreByOthers p) standings champions p.number s (seen_by p) old is open_to containers above,
      texts_stay (AreByOthers p) standings champions p.number s (seen_by p) old is open_to texts written,
    ),
  )

  -- `s` is the reading
  pub may_end : is_reading s (past_of (seen_by p)) ≡ true → is_looked_by p.number s (past_of (seen_by p)) ≡ true
      → (is_reading s (past_of old) ≡ true) × (is_looked_by author s (past_of old) ≡ true)
  may_end unfinished looked =
      let both = reading_stays (AreByOthers p) standings champions p.number s (seen_by p) old is unfinished looked in
      (both.0, subst (λ a. is_looked_by a s (past_of old) ≡ true) (sym own) both.1)
