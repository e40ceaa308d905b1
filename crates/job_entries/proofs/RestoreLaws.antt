-- What a restore adds.
use Rattle.std.proofs.Common.{◌≡◌, ℕ, List, [], ◌∷◌, ◌++◌, map, Some, None, Result, Ok, Err, refl, sym, ap, ◌∙◌, subst, inl, inr}
use Rattle.std.proofs.lemmas.List.{append_assoc, append-nil}
use Rattle.journal_entry.specs.declared.entry.Entry.{Entry}
use Rattle.journal_entry.specs.declared.entry.Point.{Point}
use Rattle.journal_entry.specs.declared.entry.Point.TheVariants.{Look, Done}
use Rattle.journal_entry.specs.declared.entry.Seen.{Seen}
use Rattle.store_core.specs.declared.fault.NameFault.{NameFault}
use Rattle.store_core.specs.declared.fault.NameFault.TheVariants as look
use Rattle.store_core.specs.declared.values.Looked.{Looked}
use Rattle.store_core.specs.View.{StateView, made, KeptView}
use Rattle.outside.specs.declared.trouble.Trouble.{Trouble}
use Rattle.outside.specs.declared.trouble.Trouble.TheVariants as shelf
use Rattle.depot.specs.declared.fault.LoadFault.{LoadFault}
use Rattle.depot.specs.declared.fault.LoadFault.TheVariants as load
use Rattle.depot.specs.declared.fault.ReadFault.{ReadFault}
use Rattle.depot.specs.declared.fault.ReadFault.TheVariants as chunk
use Rattle.depot.specs.declared.fault.RestoreFault.{RestoreFault}
use Rattle.depot.specs.declared.fault.RestoreFault.TheVariants.{Exists, NoStream, OutputFault, DepotFault, Damaged, Unlike, Full, Memory}
use Rattle.history_calls.specs.Tokens.{IdleView, ReadingView}
use Rattle.history_calls.specs.ReadingSteps.{HasEnded}
use Rattle.restore.specs.Faults.{output_fault, look_fault, load_fault, chunk_fault}
use Rattle.restore.specs.Reads.{Listed}
use Rattle.restore.specs.Copies.{Shelves, StopsAtChunk, StopsInChunks, StopsAtManifest, StopsInManifests, StreamCopy}
use Rattle.restore.specs.Copies.StopsAtChunk.{not_read, not_added}
use Rattle.restore.specs.Copies.StopsAtManifest.{not_loaded, in_chunks}
use Rattle.restore.specs.Copies.StreamCopy.{not_made, made as made_then}
use Rattle.restore.specs.Restores.{Calls, CallsOf, StateCalls, RestoreAnswer}
use Rattle.restore.specs.Restores.Calls.{no_call, refused, looked_and_done}
use Rattle.restore.specs.Restores.RestoreAnswer.{not_asked, exists, not_looked, copied}
use Rattle.job_entries.specs.Interleaved.{AddsPoints}
use Rattle.job_entries.specs.RestorePoints.{IsRead, RestorePoints}
use Rattle.job_entries.proofs.AddsLaws.{adds-none, adds-then, adds-at_turn, adds-no_more}

-- ---- what stops a restore once its reading has begun

abbrev pub IsLater : Result ℕ RestoreFault → Type 0
IsLater (Ok count) = Unit {0}
IsLater (Err Exists) = ⊥
IsLater (Err NoStream) = ⊥
IsLater (Err Full) = ⊥
IsLater (Err fault) = Unit {0}

later_output : (cause : Trouble) → IsLater (Err (output_fault cause))
later_output shelf.Fault = tt
later_output shelf.Memory = tt

later_load : (cause : LoadFault) → IsLater (Err (load_fault cause))
later_load load.Shelf = tt
later_load (load.Damaged want got) = tt
later_load (load.Unlike text) = tt
later_load load.Memory = tt

later_chunk : (cause : ReadFault) → IsLater (Err (chunk_fault cause))
later_chunk chunk.Shelf = tt
later_chunk (chunk.Damaged want got) = tt
later_chunk chunk.Memory = tt

later_is : (fault cause : RestoreFault) → fault ≡ cause → IsLater (Err cause) → IsLater (Err fault)
later_is fault cause is later = subst (λ (f : RestoreFault). IsLater (Err f)) (sym is) later

module _ (output : List ℕ) (fault : RestoreFault) where
  later_at_chunk : (before after : Shelves) (listed : Listed) → StopsAtChunk output before after listed fault → IsLater (Err fault)
  later_at_chunk before after listed (not_read why is answer same) = later_is fault (chunk_fault why) is (later_chunk why)
  later_at_chunk before after listed (not_added bytes why is read failed) = later_is fault (output_fault why) is (later_output why)

  later_in_chunks : (before after : Shelves) (all : List Listed) → StopsInChunks output before after all fault → IsLater (Err fault)
  later_in_chunks before after all stops = later_at_chunk _ after stops.listed stops.stops

  later_at_manifest : (before after : Shelves) (kept : KeptView) → StopsAtManifest output before after kept fault → IsLater (Err fault)
  later_at_manifest before after kept (not_loaded why is answer same) = later_is fault (load_fault why) is (later_load why)
  later_at_manifest before after kept (in_chunks manifest loaded stops) = later_in_chunks _ after _ stops

  later_in_manifests : (before after : Shelves) (kepts : List KeptView) → StopsInManifests output before after kepts fault → IsLater (Err fault)
  later_in_manifests before after kepts stops = later_at_manifest _ after stops.kept stops.stops

later_copy : (output : List ℕ) (before after : Shelves) (kepts : List KeptView) (result : Result ℕ RestoreFault) → StreamCopy output before after kepts result → IsLater result
later_copy output before after kepts result (not_made why is failed same) = subst IsLater (sym is) (later_output why)
later_copy output before after kepts (Ok count) (made_then copies) = tt
later_copy output before after kepts (Err fault) (made_then stops) = later_in_manifests output fault _ after kepts stops

-- ---- the points, by the answer

read_points : (name : List ℕ) (result : Result ℕ RestoreFault) (points : List Point) → IsLater result → IsRead name points → RestorePoints name result points
read_points name (Ok count) points later read = read
read_points name (Err Exists) points later read = absurd later
read_points name (Err NoStream) points later read = absurd later
read_points name (Err Full) points later read = absurd later
read_points name (Err OutputFault) points later read = inr read
read_points name (Err Memory) points later read = inr read
read_points name (Err DepotFault) points later read = read
read_points name (Err (Damaged want got)) points later read = read
read_points name (Err (Unlike text)) points later read = read

unasked_points : (name : List ℕ) (cause : Trouble) → RestorePoints name (Err (output_fault cause)) []
unasked_points name shelf.Fault = inl refl
unasked_points name shelf.Memory = inl refl

-- of a look that was refused
abbrev pub refused_points : List ℕ → NameFault → List Point
refused_points name look.NoStream = Look name None ∷ []
refused_points name look.Full = []
refused_points name look.Memory = []

refused_are : (name : List ℕ) (cause : NameFault) → RestorePoints name (Err (look_fault cause)) (refused_points name cause)
refused_are name look.NoStream = refl
refused_are name look.Full = refl
refused_are name look.Memory = inl refl

abbrev pub seen_of : Looked → Seen
seen_of looked = record { reader = looked.reader; session = looked.session }

-- of the calls
abbrev pub points_of : List ℕ → Calls → List Point
points_of name no_call = []
points_of name (refused cause) = refused_points name cause
points_of name (looked_and_done found) = Look name (Some (seen_of found)) ∷ Done found.reader ∷ []

-- the calls that were made, by the answer
record Made (calls : Calls → Type 0) (name : List ℕ) (result : Result ℕ RestoreFault) : Type 0 where
  which : Calls
  were : calls which
  points : RestorePoints name result (points_of name which)

calls_made : (calls : Calls → Type 0) (name output : List ℕ) (before after : Shelves) (result : Result ℕ RestoreFault) → RestoreAnswer calls output before after result → Made calls name result
calls_made calls name output before after result (not_asked why is were failed same) =
    record { which = no_call; were = were; points = subst (λ (r : Result ℕ RestoreFault). RestorePoints name r []) (sym is) (unasked_points name why) }
calls_made calls name output before after result (exists is were there same) =
    record { which = no_call; were = were; points = subst (λ (r : Result ℕ RestoreFault). RestorePoints name r []) (sym is) refl }
calls_made calls name output before after result (not_looked why is were not_there same) =
    record { which = refused why; were = were; points = subst (λ (r : Result ℕ RestoreFault). RestorePoints name r (refused_points name why)) (sym is) (refused_are name why) }
calls_made calls name output before after result (copied found were not_there copy) =
    record {
      which = looked_and_done found;
      were = were;
      points = read_points name result (points_of name (looked_and_done found)) (later_copy output before after found.manifests.items result copy) (record { found = seen_of found; points_are = refl });
    }

-- ---- beside others

module _ (others : List Entry → Type 0) (standings champions : ℕ) (before : IdleView) (name : List ℕ) (after : IdleView) where
  abbrev pub Adds : List Point → Type 0
  Adds points = (after.author ≡ before.author) × AddsPoints others before.author before.seen after.seen points

  end-adds : (reading : ReadingView) (found : Looked) → reading.author ≡ before.author → reading.looked ≡ found → HasEnded others standings champions reading after
      → (after.author ≡ before.author) × AddsPoints others before.author reading.seen after.seen (Done found.reader ∷ [])
  end-adds reading found same_author same_looked ended =
      let is : reading ≡ record { author = before.author; seen = reading.seen; looked = found } =
      λ i. record { author = same_author i; seen = reading.seen; looked = same_looked i } in
      let ends = subst (λ (r : ReadingView). HasEnded others standings champions r after) is ended in
      (ends.author, adds-at_turn others before.author standings champions reading.seen ends.at_turn.turn after.seen (Done found.reader) ends.at_turn.is_turn ends.at_turn.done)

  pub calls-add : (calls : Calls) → CallsOf others standings champions before name after calls → Adds (points_of name calls)
  calls-add no_call same = (
    ap (λ (i : IdleView). i.author) same,
    subst (λ (i : IdleView). AddsPoints others before.author before.seen i.seen []) (sym same) (adds-none others before.author before.seen),
  )
  calls-add (refused look.NoStream) has =
      (has.author, adds-at_turn others before.author standings champions before.seen has.at_turn.turn after.seen (Look name None) has.at_turn.is_turn has.at_turn.done.1)
  calls-add (refused look.Full) has =
      (has.author, adds-no_more others before.author standings champions before.seen has.at_turn.turn after.seen has.at_turn.is_turn has.at_turn.done.same)
  calls-add (refused look.Memory) has =
      (has.author, adds-no_more others before.author standings champions before.seen has.at_turn.turn after.seen has.at_turn.is_turn has.at_turn.done)
  calls-add (looked_and_done found) has =
      let reading = has.reading in
      let at = has.looked.at_turn in
      let looks = adds-at_turn others before.author standings champions before.seen at.turn reading.seen (Look name (Some (seen_of reading.looked))) at.is_turn at.done.2 in
      let ends = end-adds reading found has.looked.author has.found_is has.ended in (
        ends.0,
        adds-then others before.author before.seen reading.seen after.seen (Look name (Some (seen_of found)) ∷ []) (Done found.reader ∷ [])
            (subst (λ (l : Looked). AddsPoints others before.author before.seen reading.seen (Look name (Some (seen_of l)) ∷ [])) has.found_is looks)
            ends.1,
      )

  pub restore-adds : (output : List ℕ) (shelves shelves' : Shelves) (result : Result ℕ RestoreFault)
      → RestoreAnswer (CallsOf others standings champions before name after) output shelves shelves' result
      → (points : List Point) × (after.author ≡ before.author) × AddsPoints others before.author before.seen after.seen points × RestorePoints name result points
  restore-adds output shelves shelves' result answer =
      let calls = calls_made (CallsOf others standings champions before name after) name output shelves shelves' result answer in
      let adds = calls-add calls.which calls.were in
      (points_of name calls.which, adds.0, adds.1, calls.points)

-- ---- alone

module _ (before : StateView) (author : ℕ) (name : List ℕ) (after : StateView) where
  abbrev pub Behind : List Point → Type 0
  Behind points = after ≡ record before { entries = before.entries ++ map (made author) points }

  nothing_behind : after ≡ before → Behind []
  nothing_behind same = same ∙ ap (λ (entries : List Entry). record before { entries = entries }) (sym (append-nil before.entries))

  pub state_calls-add : (calls : Calls) → StateCalls before author name after calls → Behind (points_of name calls)
  state_calls-add no_call same = nothing_behind same
  state_calls-add (refused look.NoStream) answer = answer.1.added
  state_calls-add (refused look.Full) answer = nothing_behind answer.same
  state_calls-add (refused look.Memory) same = nothing_behind same
  state_calls-add (looked_and_done found) has =
      has.ended.added
      ∙ ap (λ (view : StateView). record view { entries = view.entries ++ made author (Done found.reader) ∷ [] }) has.looked.2.added
      ∙ ap (λ (entries : List Entry). record before { entries = entries }) (append_assoc before.entries (made author (Look name (Some (seen_of found))) ∷ []) (made author (Done found.reader) ∷ []))

  pub restore_alone-adds : (output : List ℕ) (shelves shelves' : Shelves) (result : Result ℕ RestoreFault)
      → RestoreAnswer (StateCalls before author name after) output shelves shelves' result
      → (points : List Point) × Behind points × RestorePoints name result points
  restore_alone-adds output shelves shelves' result answer =
      let calls = calls_made (StateCalls before author name after) name output shelves shelves' result answer in
      (points_of name calls.which, state_calls-add calls.which calls.were, calls.points)
