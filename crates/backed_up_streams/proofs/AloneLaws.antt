-- What each call of a session adds for a caller that has the history to itself.
use Rattle.std.proofs.Common.{◌≡◌, ℕ, true, List, [], ◌∷◌, ◌++◌, Ok, Err, ap, ◌∙◌, subst}
use Rattle.std.proofs.lemmas.List.{append-nil}
use Rattle.ss_base.specs.declared.ids.ManifestId.{ManifestId}
use Rattle.ss_base.specs.declared.name.Name.{Name}
use Rattle.journal_entry.specs.declared.entry.Entry.{Entry}
use Rattle.journal_entry.specs.declared.entry.Point.TheVariants.{Choose, Finish, Abort}
use Rattle.history.specs.Legal.{is_legal}
use Rattle.history.specs.Sessions.{commits_of}
use Rattle.history.specs.StandingList.{champions_for}
use Rattle.store_core.specs.declared.fault.PointFault.{PointFault}
use Rattle.store_core.specs.declared.fault.PointFault.TheVariants.{Full, Memory}
use Rattle.store_core.specs.declared.values.Choice.{Choice}
use Rattle.store_core.specs.declared.values.Stored.{Stored}
use Rattle.store_core.specs.View.{StateView, past_of, rules_of, made, Adds, all_kept}
use Rattle.store_core.specs.Answers.{ChooseAnswer, CommitAnswer, commit_entry}
use Rattle.history_calls.specs.Tokens.{IdleView, OpenView, ChosenView}
use Rattle.history_calls.specs.SessionSteps.{HasChosen, HasNotChosen, HasCommitted, HasNotCommitted, HasFinished, HasAborted, HasAbortedChosen}
use Rattle.history_calls.specs.Turn.{IsTurn, AtTurn}
use Rattle.history_calls.proofs.TurnLaws.{past_added}

-- others add nothing
abbrev pub alone : List Entry → Type 0
alone came = came ≡ []

-- ---- tokens of a session by its author and its number

abbrev pub open_at : ℕ → ℕ → StateView → OpenView
open_at author session seen = record { author = author; seen = seen; session = session }

abbrev pub chosen_at : ℕ → ℕ → StateView → Choice → ChosenView
chosen_at author session seen choice = record { author = author; seen = seen; session = session; choice = choice }

pub is_open_at : (author session : ℕ) (token : OpenView) → token.author ≡ author → token.session ≡ session → token ≡ open_at author session token.seen
is_open_at author session token same_author same_session = λ i. record { author = same_author i; seen = token.seen; session = same_session i }

pub is_chosen_at : (author session : ℕ) (token : ChosenView) → token.author ≡ author → token.session ≡ session → token ≡ chosen_at author session token.seen token.choice
is_chosen_at author session token same_author same_session =
    λ i. record { author = same_author i; seen = token.seen; session = same_session i; choice = token.choice }

with_entries : (view : StateView) (one other : List Entry) → one ≡ other → let f : List Entry → StateView = λ entries. record view { entries = entries } in f one ≡ f other
with_entries view one other same = ap (λ (entries : List Entry). record view { entries = entries }) same

module _ (standings champions author : ℕ) (seen : StateView) where
  -- at its turn it meets what it had seen
  turn_is : (turn : StateView) → IsTurn alone standings champions author seen turn → turn ≡ seen
  turn_is turn is =
      is.turn_is
      ∙ with_entries seen (seen.entries ++ is.came) (seen.entries ++ []) (ap (λ (came : List Entry). seen.entries ++ came) is.by_others)
      ∙ with_entries seen (seen.entries ++ []) seen.entries (append-nil seen.entries)

  pub at_seen : (does : StateView → Type 0) → AtTurn alone standings champions author seen does → does seen
  at_seen does at = subst does (turn_is at.turn at.is_turn) at.done

  pub legal_at : (does : StateView → Type 0) → AtTurn alone standings champions author seen does → is_legal (rules_of standings champions seen) (past_of seen) ≡ true
  legal_at does at = subst (λ (view : StateView). is_legal (rules_of standings champions view) (past_of view) ≡ true) (turn_is at.turn at.is_turn) at.is_turn.legal

  -- one entry was added
  pub record Steps (after : StateView) (entry : Entry) : Type 0 where
    pub past : past_of after ≡ entry ∷ past_of seen
    pub profile : after.profile ≡ seen.profile

  pub steps : (after : StateView) (entry : Entry) → Adds seen after entry → Steps after entry
  steps after entry adds = record { past = past_added seen after entry adds; profile = ap (λ (view : StateView). view.profile) adds.added }

  module _ (session : ℕ) where
    pub record Chose (hooks : List Name) (after : ChosenView) : Type 0 where
      pub same_author : after.author ≡ author
      pub same_session : after.session ≡ session
      pub ids : List ManifestId
      pub steps_are : Steps after.seen (made author (Choose session hooks ids))
      pub kept : after.choice.champions.items ≡ all_kept ids (past_of seen)
      pub manifest : after.choice.manifest ≡ record { session = session; seq = commits_of session (past_of seen) }

    pub chose : (hooks : List Name) (after : ChosenView) → HasChosen alone standings champions (open_at author session seen) hooks after → Chose hooks after
    chose hooks after has =
        let ids = champions_for (rules_of standings champions seen) hooks (past_of seen) in
        let done = at_seen (λ turn. ChooseAnswer standings champions turn after.seen author session hooks (Ok after.choice)) has.at_turn in
        record {
          same_author = has.author;
          same_session = has.session;
          ids = ids;
          steps_are = steps after.seen (made author (Choose session hooks ids)) done.2;
          kept = done.1;
          manifest = done.0;
        }

    pub not_chosen : (hooks : List Name) (back : OpenView) (cause : PointFault) → HasNotChosen alone standings champions (open_at author session seen) hooks back cause → back ≡ open_at author session seen
    not_chosen hooks back Full has =
        let done = at_seen (λ turn. ChooseAnswer standings champions turn back.seen author session hooks (Err Full)) has.at_turn in
        λ i. record { author = has.author i; seen = done.same i; session = has.session i }
    not_chosen hooks back Memory has =
        let done = at_seen (λ turn. ChooseAnswer standings champions turn back.seen author session hooks (Err Memory)) has.at_turn in
        λ i. record { author = has.author i; seen = done i; session = has.session i }

    module _ (choice : Choice) where
      pub record Committed (stored : Stored) (after : OpenView) : Type 0 where
        pub same_author : after.author ≡ author
        pub same_session : after.session ≡ session
        pub steps_are : Steps after.seen (commit_entry seen author session stored)
        pub legal : is_legal (rules_of standings champions seen) (past_of seen) ≡ true

      pub committed : (stored : Stored) (after : OpenView) → HasCommitted alone standings champions (chosen_at author session seen choice) stored after → Committed stored after
      committed stored after has =
          let does : StateView → Type 0 = λ turn. Adds turn after.seen (commit_entry turn author session stored) in
          record {
            same_author = has.author;
            same_session = has.session;
            steps_are = steps after.seen (commit_entry seen author session stored) (at_seen does has.at_turn);
            legal = legal_at does has.at_turn;
          }

      pub not_committed : (stored : Stored) (back : ChosenView) (cause : PointFault) → HasNotCommitted alone standings champions (chosen_at author session seen choice) stored back cause → back ≡ chosen_at author session seen choice
      not_committed stored back Full has =
          let done = at_seen (λ turn. CommitAnswer turn back.seen author session stored (Err Full)) has.at_turn in
          λ i. record { author = has.author i; seen = done.same i; session = has.session i; choice = has.choice i }
      not_committed stored back Memory has =
          let done = at_seen (λ turn. CommitAnswer turn back.seen author session stored (Err Memory)) has.at_turn in
          λ i. record { author = has.author i; seen = done i; session = has.session i; choice = has.choice i }

      -- how a session ends behind a choice
      pub aborted_chosen : (containers texts : ℕ) (after : IdleView) → HasAbortedChosen alone standings champions (chosen_at author session seen choice) containers texts after → Steps after.seen (made author (Abort session containers texts))
      aborted_chosen containers texts after has =
          steps after.seen (made author (Abort session containers texts)) (at_seen (λ turn. Adds turn after.seen (made author (Abort session containers texts))) has.at_turn)

      pub legal_chosen : (containers texts : ℕ) (after : IdleView) → HasAbortedChosen alone standings champions (chosen_at author session seen choice) containers texts after → is_legal (rules_of standings champions seen) (past_of seen) ≡ true
      legal_chosen containers texts after has = legal_at (λ turn. Adds turn after.seen (made author (Abort session containers texts))) has.at_turn

    -- and without one
    pub finished : (containers : ℕ) (after : IdleView) → HasFinished alone standings champions (open_at author session seen) containers after → Steps after.seen (made author (Finish session containers))
    finished containers after has =
        steps after.seen (made author (Finish session containers)) (at_seen (λ turn. Adds turn after.seen (made author (Finish session containers))) has.at_turn)

    pub aborted : (containers texts : ℕ) (after : IdleView) → HasAborted alone standings champions (open_at author session seen) containers texts after → Steps after.seen (made author (Abort session containers texts))
    aborted containers texts after has =
        steps after.seen (made author (Abort session containers texts)) (at_seen (λ turn. Adds turn after.seen (made author (Abort session containers texts))) has.at_turn)
