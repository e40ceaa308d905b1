-- The points of a backup, without the segments that they are of.
use Rattle.std.proofs.Common.{◌≡◌, ℕ, ◌+◌, ◌⊎◌, List, [], Result, Ok, Err, refl, inl, inr}
use Rattle.ss_base.specs.declared.profile.Numbers.{Numbers}
use Rattle.journal_entry.specs.declared.entry.Entry.{Entry}
use Rattle.journal_entry.specs.declared.entry.Point.{Point}
use Rattle.store_core.specs.View.{StateView}
use Rattle.outside.specs.Views.{SourceView}
use Rattle.depot.specs.declared.fault.BackupFault.{BackupFault}
use Rattle.depot.specs.declared.fault.BackupFault.TheVariants.{Taken, NoInput, InputFault, TooLong, DepotFault, Damaged, Unlike, Full, Memory}
use Rattle.job_entries.specs.Interleaved.{AddsPoints}
use Rattle.job_entries.specs.Pairs.{segment_hooks, HasPairs, HasPairsOf}
use Rattle.job_entries.specs.Pairs.HasPairs.{none as no_pair, pair as one_pair}
use Rattle.job_entries.specs.Pairs.HasPairsOf.{none as none_of, pair as pair_of}
use Rattle.job_entries.specs.BackupPoints.{finished_points, given_up_points, IsChoice, IsGivenUp, BackupPoints}
use Rattle.job_entries.specs.BackupPoints.IsChoice.{none as no_choice, one as one_choice}
use Rattle.job_entries.specs.BackupStores.{StoresStream, IsChoiceOf, StoresFront, BackupStores}
use Rattle.job_entries.specs.BackupStores.IsChoiceOf.{unread, unchosen, chosen}

has_pairs : (n : Numbers) (session first : ℕ) (segments : List (List (List ℕ))) (points : List Point) → HasPairsOf n session first segments points → HasPairs session first points
has_pairs n session _ _ _ (none_of first) = no_pair first
has_pairs n session _ _ _ (pair_of first chunks segments champions stored points is rest) =
    one_pair first (segment_hooks n chunks) champions stored points (has_pairs n session (first + 1) segments points rest)

is_choice : (n : Numbers) (session : ℕ) (next : List (List (List ℕ))) (points : List Point) → IsChoiceOf n session next points → IsChoice session points
is_choice n session next points (unread is_next is) = no_choice is
is_choice n session next points (unchosen chunks is_next is) = no_choice is
is_choice n session next points (chosen chunks champions is_next is) = one_choice (segment_hooks n chunks) champions is

module _ (others : List Entry → Type 0) (author : ℕ) (n : Numbers) (source : SourceView) (name : List ℕ) (before after : StateView) where
  -- the points that were added
  abbrev pub Added : (List Point → Type 0) → Type 0
  Added are = (points : List Point) × AddsPoints others author before after points × are points

  added_stream : (session : ℕ) → StoresStream others author n source name before after session → Added (BackupPoints name (Ok session))
  added_stream session has = (
    finished_points name session has.pairs has.containers,
    has.adds,
    record { pairs = has.pairs; containers = has.containers; has_pairs = has_pairs n session 0 has.segments has.pairs has.pairs_of; points_are = refl },
  )

  added_front : StoresFront others author n source name before after → Added (IsGivenUp name)
  added_front has = (
    given_up_points name has.session has.pairs has.choice has.containers has.texts,
    has.adds,
    record {
      session = has.session;
      pairs = has.pairs;
      choice = has.choice;
      containers = has.containers;
      texts = has.texts;
      has_pairs = has_pairs n has.session 0 has.segments has.pairs has.pairs_of;
      is_choice = is_choice n has.session has.next has.choice has.choice_of;
      points_are = refl;
    },
  )

  none_or_front : AddsPoints others author before after [] ⊎ StoresFront others author n source name before after → Added (λ points. (points ≡ []) ⊎ IsGivenUp name points)
  none_or_front (inl adds) = ([], adds, inl refl)
  none_or_front (inr has) = let added = added_front has in (added.0, added.1, inr added.2)

  pub points-of : (result : Result ℕ BackupFault) → BackupStores others author n source name before after result → Added (BackupPoints name result)
  points-of (Ok session) stores = added_stream session stores
  points-of (Err Taken) stores = (_, stores, refl)
  points-of (Err NoInput) stores = (_, stores, refl)
  points-of (Err InputFault) stores = none_or_front stores
  points-of (Err Full) stores = none_or_front stores
  points-of (Err Memory) stores = none_or_front stores
  points-of (Err TooLong) stores = added_front stores
  points-of (Err DepotFault) stores = added_front stores
  points-of (Err (Damaged want got)) stores = added_front stores
  points-of (Err (Unlike text)) stores = added_front stores
