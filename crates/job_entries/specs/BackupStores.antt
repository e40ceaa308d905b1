-- The calls of a backup, with the segments of its input (this project's own).
use Rattle.std.specs.Prelude.{ℕ, ◌≡◌, ◌⊎◌, List, [], ◌∷◌, ◌++◌, None, Result, Ok, Err}
use Rattle.ss_base.specs.declared.ids.ManifestId.{ManifestId}
use Rattle.ss_base.specs.declared.profile.Numbers.{Numbers}
use Rattle.journal_entry.specs.declared.entry.Entry.{Entry}
use Rattle.journal_entry.specs.declared.entry.Point.{Point}
use Rattle.journal_entry.specs.declared.entry.Point.TheVariants.{Begin, Choose}
use Rattle.store_core.specs.View.{StateView}
use Rattle.outside.specs.Views.{SourceView}
use Rattle.segment_reader.specs.WorkState.{WorkState}
use Rattle.depot.specs.declared.fault.BackupFault.{BackupFault}
use Rattle.depot.specs.declared.fault.BackupFault.TheVariants.{Taken, NoInput, InputFault, Full, Memory}
use Rattle.session.specs.Split.{HasSplit, HasGivenAll}
use Rattle.job_entries.specs.Interleaved.{AddsPoints}
use Rattle.job_entries.specs.Pairs.{segment_hooks, HasPairsOf}
use Rattle.job_entries.specs.BackupPoints.{finished_points, given_up_points}

-- The source gave its whole stream, and a session that finished has a pair for each of the stream's segments.
pub record StoresStream (others : List Entry → Type 0) (author : ℕ) (n : Numbers) (source : SourceView) (name : List ℕ) (before after : StateView) (session : ℕ) : Type 0 where
  pub segments : List (List (List ℕ))
  pub last : SourceView
  pub given : HasGivenAll n source last segments
  pub pairs : List Point
  pub pairs_of : HasPairsOf n session 0 segments pairs
  pub containers : ℕ
  pub adds : AddsPoints others author before after (finished_points name session pairs containers)

-- What was read and is not stored: no segment; or one, for which there is no Choose, or one with its hooks.
pub data IsChoiceOf (n : Numbers) (session : ℕ) (next : List (List (List ℕ))) (points : List Point) : Type 0 where
  unread : next ≡ [] → points ≡ [] → IsChoiceOf n session next points
  unchosen : (chunks : List (List ℕ)) → next ≡ chunks ∷ [] → points ≡ [] → IsChoiceOf n session next points
  chosen : (chunks : List (List ℕ)) (champions : List ManifestId) → next ≡ chunks ∷ [] → points ≡ Choose session (segment_hooks n chunks) champions ∷ []
      → IsChoiceOf n session next points

-- The source gave some segments, and a session that was given up has a pair for each, or for each but the last, for
-- which it may have a Choose more.
pub record StoresFront (others : List Entry → Type 0) (author : ℕ) (n : Numbers) (source : SourceView) (name : List ℕ) (before after : StateView) : Type 0 where
  pub session : ℕ
  pub segments : List (List (List ℕ))
  pub next : List (List (List ℕ))
  pub last : SourceView
  pub work : WorkState
  pub split : HasSplit n source last work (segments ++ next)
  pub pairs : List Point
  pub pairs_of : HasPairsOf n session 0 segments pairs
  pub choice : List Point
  pub choice_of : IsChoiceOf n session next choice
  pub containers : ℕ
  pub texts : ℕ
  pub adds : AddsPoints others author before after (given_up_points name session pairs choice containers texts)

-- By a backup's answer: a session that finished, or one that was given up. Where no session began there is no entry but
-- the Begin that says that the name is taken.
abbrev pub BackupStores : (List Entry → Type 0) → ℕ → Numbers → SourceView → List ℕ → StateView → StateView → Result ℕ BackupFault → Type 0
BackupStores others author n source name before after (Ok session) = StoresStream others author n source name before after session
BackupStores others author n source name before after (Err Taken) = AddsPoints others author before after (Begin name None ∷ [])
BackupStores others author n source name before after (Err NoInput) = AddsPoints others author before after []
BackupStores others author n source name before after (Err InputFault) = AddsPoints others author before after [] ⊎ StoresFront others author n source name before after
BackupStores others author n source name before after (Err Full) = AddsPoints others author before after [] ⊎ StoresFront others author n source name before after
BackupStores others author n source name before after (Err Memory) = AddsPoints others author before after [] ⊎ StoresFront others author n source name before after
BackupStores others author n source name before after (Err fault) = StoresFront others author n source name before after
