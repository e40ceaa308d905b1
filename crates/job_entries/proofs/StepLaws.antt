-- What each call of a session adds.
use Rattle.std.proofs.Common.{◌≡◌, ℕ, List, [], ◌∷◌, Some, subst}
use Rattle.ss_base.specs.declared.ids.ManifestId.{ManifestId}
use Rattle.ss_base.specs.declared.name.Name.{Name}
use Rattle.journal_entry.specs.declared.entry.Entry.{Entry}
use Rattle.journal_entry.specs.declared.entry.Point.TheVariants.{Begin, Choose, Finish, Abort}
use Rattle.history.specs.StandingList.{champions_for}
use Rattle.store_core.specs.declared.fault.PointFault.{PointFault}
use Rattle.store_core.specs.declared.fault.PointFault.TheVariants.{Full, Memory}
use Rattle.store_core.specs.declared.values.Stored.{Stored}
use Rattle.store_core.specs.View.{StateView, past_of, rules_of}
use Rattle.history_calls.specs.Tokens.{IdleView, OpenView, ChosenView}
use Rattle.history_calls.specs.SessionSteps.{HasBegun, HasChosen, HasNotChosen, HasNotCommitted, HasFinished, HasAborted, HasAbortedChosen}
use Rattle.job_entries.specs.Interleaved.{AddsPoints}
use Rattle.job_entries.proofs.AddsLaws.{adds-at_turn, adds-no_more}

-- ---- tokens of a session by its author and its number

abbrev pub open_at : ℕ → ℕ → StateView → OpenView
open_at author session seen = record { author = author; seen = seen; session = session }

pub is_open_at : (author session : ℕ) (token : OpenView) → token.author ≡ author → token.session ≡ session → token ≡ open_at author session token.seen
is_open_at author session token same_author same_session = λ i. record { author = same_author i; seen = token.seen; session = same_session i }

module _ (others : List Entry → Type 0) (standings champions : ℕ) where
  pub begin-adds : (before : IdleView) (name : List ℕ) (after : OpenView) → HasBegun others standings champions before name after
      → AddsPoints others before.author before.seen after.seen (Begin name (Some after.session) ∷ [])
  begin-adds before name after has =
      adds-at_turn others before.author standings champions before.seen has.at_turn.turn after.seen (Begin name (Some after.session)) has.at_turn.is_turn has.at_turn.done.1

  pub choose-adds : (before : OpenView) (hooks : List Name) (after : ChosenView) → HasChosen others standings champions before hooks after
      → (ids : List ManifestId) × AddsPoints others before.author before.seen after.seen (Choose before.session hooks ids ∷ [])
  choose-adds before hooks after has =
      let turn = has.at_turn.turn in
      let ids = champions_for (rules_of standings champions turn) hooks (past_of turn) in
      (ids, adds-at_turn others before.author standings champions before.seen turn after.seen (Choose before.session hooks ids) has.at_turn.is_turn has.at_turn.done.2)

  pub unchosen-adds : (before : OpenView) (hooks : List Name) (after : OpenView) (cause : PointFault) → HasNotChosen others standings champions before hooks after cause
      → AddsPoints others before.author before.seen after.seen []
  unchosen-adds before hooks after Full has =
      adds-no_more others before.author standings champions before.seen has.at_turn.turn after.seen has.at_turn.is_turn has.at_turn.done.same
  unchosen-adds before hooks after Memory has =
      adds-no_more others before.author standings champions before.seen has.at_turn.turn after.seen has.at_turn.is_turn has.at_turn.done

  pub uncommitted-adds : (before : ChosenView) (stored : Stored) (after : ChosenView) (cause : PointFault) → HasNotCommitted others standings champions before stored after cause
      → AddsPoints others before.author before.seen after.seen []
  uncommitted-adds before stored after Full has =
      adds-no_more others before.author standings champions before.seen has.at_turn.turn after.seen has.at_turn.is_turn has.at_turn.done.same
  uncommitted-adds before stored after Memory has =
      adds-no_more others before.author standings champions before.seen has.at_turn.turn after.seen has.at_turn.is_turn has.at_turn.done

  module _ (author session : ℕ) where
    -- how a session ends
    pub finish-adds : (token : OpenView) (containers : ℕ) (after : IdleView) → token.author ≡ author → token.session ≡ session → HasFinished others standings champions token containers after
        → (after.author ≡ author) × AddsPoints others author token.seen after.seen (Finish session containers ∷ [])
    finish-adds token containers after same_author same_session has =
        let ends = subst (λ (t : OpenView). HasFinished others standings champions t containers after) (is_open_at author session token same_author same_session) has in
        (ends.author, adds-at_turn others author standings champions token.seen ends.at_turn.turn after.seen (Finish session containers) ends.at_turn.is_turn ends.at_turn.done)

    pub abort-adds : (token : OpenView) (containers texts : ℕ) (after : IdleView) → token.author ≡ author → token.session ≡ session → HasAborted others standings champions token containers texts after
        → (after.author ≡ author) × AddsPoints others author token.seen after.seen (Abort session containers texts ∷ [])
    abort-adds token containers texts after same_author same_session has =
        let ends = subst (λ (t : OpenView). HasAborted others standings champions t containers texts after) (is_open_at author session token same_author same_session) has in
        (ends.author, adds-at_turn others author standings champions token.seen ends.at_turn.turn after.seen (Abort session containers texts) ends.at_turn.is_turn ends.at_turn.done)

    pub abort_chosen-adds : (token : ChosenView) (containers texts : ℕ) (after : IdleView) → token.author ≡ author → token.session ≡ session → HasAbortedChosen others standings champions token containers texts after
        → (after.author ≡ author) × AddsPoints others author token.seen after.seen (Abort session containers texts ∷ [])
    abort_chosen-adds token containers texts after same_author same_session has =
        let is : token ≡ record { author = author; seen = token.seen; session = session; choice = token.choice } =
        λ i. record { author = same_author i; seen = token.seen; session = same_session i; choice = token.choice } in
        let ends = subst (λ (t : ChosenView). HasAbortedChosen others standings champions t containers texts after) is has in
        (ends.author, adds-at_turn others author standings champions token.seen ends.at_turn.turn after.seen (Abort session containers texts) ends.at_turn.is_turn ends.at_turn.done)
