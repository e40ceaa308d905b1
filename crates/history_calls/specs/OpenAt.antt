-- What a caller knows of its session (this project's own).
use Rattle.std.specs.Prelude.{ℕ, ◌≡◌, ◌≤◌, true, List, Option, Some}
use Rattle.ss_base.specs.declared.ids.ManifestId.{ManifestId}
use Rattle.journal_entry.specs.declared.entry.Entry.{Entry}
use Rattle.history.specs.OwnEnd.{own_end}
use Rattle.history.specs.Sessions.{pending, pending_champions, commits_of}
use Rattle.history.specs.Legal.{is_open_to}
use Rattle.store_core.specs.declared.values.Choice.{Choice}
use Rattle.store_core.specs.View.{StateView, past_of, all_kept}

-- it is unfinished and the caller's, has this pending choice and so many commits, and its own containers that it used
-- have ordinals below this number
pub record IsOpenAt (author session : ℕ) (choice : Option (List ManifestId)) (commits containers : ℕ) (past : List Entry) : Type 0 where
  pub open_to : is_open_to author session past ≡ true
  pub choice_is : pending session past ≡ choice
  pub commit_count : commits_of session past ≡ commits
  pub used : own_end session past ≤ containers

-- with a choice pending, as it was given: its manifest is the session's next, and its champions are kept so
pub record IsPendingSo (author session commits containers : ℕ) (choice : Choice) (after : StateView) : Type 0 where
  pub at : IsOpenAt author session (Some (pending_champions session (past_of after))) commits containers (past_of after)
  pub manifest : choice.manifest ≡ record { session = session; seq = commits }
  pub kept : choice.champions.items ≡ all_kept (pending_champions session (past_of after)) (past_of after)
