-- A restore that nothing keeps off is answered.
use Rattle.std.proofs.Common.{◌≡◌, ℕ, true, false, List, Option, Some, None, refl, sym, ap, ◌∙◌, subst}
use Rattle.std.specs.Prelude.{IfSome, Result, Ok, Err}
use Rattle.std.specs.FinMap.{contains_key}
use Rattle.std.specs.Option.{option_map}
use Rattle.std.proofs.lemmas.Bool.{false≢true}
use Rattle.journal_entry.specs.declared.entry.Entry.{Entry}
use Rattle.journal_entry.specs.declared.entry.Seen.{Seen}
use Rattle.journal_entry.specs.declared.entry.Point.TheVariants.{Look}
use Rattle.history.specs.Sessions.{retained, reading_count}
use Rattle.history.specs.Legal.{reply_to_look}
use Rattle.outside.specs.Shelf.{Objects}
use Rattle.outside.specs.declared.trouble.Trouble.{Trouble}
use Rattle.outside.specs.declared.trouble.Trouble.TheVariants as shelf
use Rattle.depot.specs.declared.fault.LoadFault.{LoadFault}
use Rattle.depot.specs.declared.fault.LoadFault.TheVariants as load
use Rattle.depot.specs.declared.fault.ReadFault.{ReadFault}
use Rattle.depot.specs.declared.fault.ReadFault.TheVariants as chunk
use Rattle.depot.specs.declared.fault.RestoreFault.{RestoreFault}
use Rattle.depot.specs.declared.fault.RestoreFault.TheVariants.{Exists, NoStream, OutputFault, DepotFault, Damaged, Unlike, Full, Memory}
use Rattle.store_core.specs.declared.fault.NameFault.{NameFault}
use Rattle.store_core.specs.declared.fault.NameFault.TheVariants as name
use Rattle.store_core.specs.View.{StateView, KeptView, past_of, made as entry_made, IsFull}
use Rattle.store_core.specs.Answers.{LookAnswer}
use Rattle.restore.specs.Faults.{output_fault, look_fault, load_fault, chunk_fault}
use Rattle.restore.specs.Reads.{Listed}
use Rattle.restore.specs.Copies.{Shelves, StopsAtChunk, StopsAtManifest, StreamCopy}
use Rattle.restore.specs.Copies.StopsAtChunk.{not_read, not_added}
use Rattle.restore.specs.Copies.StopsAtManifest.{not_loaded, in_chunks}
use Rattle.restore.specs.Copies.StreamCopy.{not_made, made}
use Rattle.restore.specs.Restores.{StateCalls, RestoreAnswer, RestoreCause}
use Rattle.restore.specs.Restores.RestoreAnswer.{not_asked, exists, not_looked, copied}
use Rattle.restored_streams.specs.Restored.{TellsNoDamage}
use Rattle.restored_streams.specs.Complete.{NoneFailed, IsAnswered}

-- ---- copying stops at no refusal

abbrev IsCopyFault : RestoreFault → Type 0
IsCopyFault Exists = ⊥
IsCopyFault NoStream = ⊥
IsCopyFault Full = ⊥
IsCopyFault OutputFault = Unit {0}
IsCopyFault DepotFault = Unit {0}
IsCopyFault (Damaged want got) = Unit {0}
IsCopyFault (Unlike text) = Unit {0}
IsCopyFault Memory = Unit {0}

of_output : (why : Trouble) → IsCopyFault (output_fault why)
of_output shelf.Fault = tt
of_output shelf.Memory = tt

of_load : (why : LoadFault) → IsCopyFault (load_fault why)
of_load load.Shelf = tt
of_load (load.Damaged want got) = tt
of_load (load.Unlike text) = tt
of_load load.Memory = tt

of_chunk : (why : ReadFault) → IsCopyFault (chunk_fault why)
of_chunk chunk.Shelf = tt
of_chunk (chunk.Damaged want got) = tt
of_chunk chunk.Memory = tt

same_fault : (one other : RestoreFault) (result : Result ℕ RestoreFault) → result ≡ Err one → result ≡ Err other → one ≡ other
same_fault one other result is too = cc

at_chunk : (output : List ℕ) (before after : Shelves) (listed : Listed) (fault : RestoreFault) → StopsAtChunk output before after listed fault → IsCopyFault fault
at_chunk output before after listed fault (not_read why is answer same) = subst IsCopyFault (sym is) (of_chunk why)
at_chunk output before after listed fault (not_added bytes why is read failed) = subst IsCopyFault (sym is) (of_output why)

at_manifest : (output : List ℕ) (before after : Shelves) (kept : KeptView) (fault : RestoreFault) → StopsAtManifest output before after kept fault → IsCopyFault fault
at_manifest output before after kept fault (not_loaded why is answer same) = subst IsCopyFault (sym is) (of_load why)
at_manifest output before after kept fault (in_chunks manifest loaded stops) = at_chunk _ _ _ _ fault stops.stops

copy_fault : (output : List ℕ) (before after : Shelves) (kepts : List KeptView) (fault : RestoreFault) → StreamCopy output before after kepts (Err fault) → IsCopyFault fault
copy_fault output before after kepts fault (not_made why is failed same) = subst IsCopyFault (sym (same_fault fault (output_fault why) (Err fault) refl is)) (of_output why)
copy_fault output before after kepts fault (made stops) = at_manifest _ _ _ _ fault stops.stops

-- ---- a refusal comes from the look

abbrev RefusedBy : StateView → StateView → List ℕ → RestoreFault → Type 0
RefusedBy before after name NoStream = reply_to_look name (past_of before) ≡ None
RefusedBy before after name Full = (entry : Entry) × IsFull before after entry
RefusedBy before after name Exists = Unit {0}
RefusedBy before after name OutputFault = Unit {0}
RefusedBy before after name DepotFault = Unit {0}
RefusedBy before after name (Damaged want got) = Unit {0}
RefusedBy before after name (Unlike text) = Unit {0}
RefusedBy before after name Memory = Unit {0}

module _ (before after : StateView) (author : ℕ) (asked : List ℕ) where
  by_look : (why : NameFault) → LookAnswer before after author asked (Err why) → RefusedBy before after asked (look_fault why)
  by_look name.NoStream answer = answer.0
  by_look name.Full answer = (entry_made author (Look asked (reply_to_look asked (past_of before))), answer)
  by_look name.Memory answer = tt

  by_output : (why : Trouble) → RefusedBy before after asked (output_fault why)
  by_output shelf.Fault = tt
  by_output shelf.Memory = tt

  by_copy : (fault : RestoreFault) → IsCopyFault fault → RefusedBy before after asked fault
  by_copy Exists is = tt
  by_copy NoStream is = absurd is
  by_copy Full is = absurd is
  by_copy OutputFault is = tt
  by_copy DepotFault is = tt
  by_copy (Damaged want got) is = tt
  by_copy (Unlike text) is = tt
  by_copy Memory is = tt

  refused_by : (output : List ℕ) (old new : Shelves) (fault : RestoreFault) → RestoreAnswer (StateCalls before author asked after) output old new (Err fault) → RefusedBy before after asked fault
  refused_by output old new fault (not_asked why is calls failed same) = subst (RefusedBy before after asked) (sym (same_fault fault (output_fault why) (Err fault) refl is)) (by_output why)
  refused_by output old new fault (exists is calls there same) = subst (RefusedBy before after asked) (sym (same_fault fault Exists (Err fault) refl is)) tt
  refused_by output old new fault (not_looked why is calls absent same) = subst (RefusedBy before after asked) (sym (same_fault fault (look_fault why) (Err fault) refl is)) (by_look why calls)
  refused_by output old new fault (copied found calls absent copy) = by_copy fault (copy_fault output old new found.manifests.items fault copy)

  a_reply : (session n : ℕ) (found : Option ℕ) → found ≡ Some session → option_map {U = Seen} (λ s. record { reader = n; session = s }) found ≡ None → ⊥
  a_reply session n None is none = absurd (cc)
  a_reply session n (Some s) is none = absurd (cc)

  replied : (session : ℕ) → retained asked (past_of before) ≡ Some session → reply_to_look asked (past_of before) ≡ None → ⊥
  unfolding reply_to_look
  replied session is none = a_reply session (reading_count (past_of before)) (retained asked (past_of before)) is none

  there_absent : (held : Option Objects) (objects : Objects) (output : List ℕ) → held ≡ Some objects → contains_key objects output ≡ false → IfSome held (λ objects. contains_key objects output ≡ true) → ⊥
  there_absent None objects output told absent there = absurd (cc)
  there_absent (Some held) objects output told absent there =
      let same : held ≡ objects = cc in
      false≢true (sym absent ∙ ap (λ (o : Objects). contains_key o output) (sym same) ∙ there)

  -- nothing else keeps it off
  pub answered_so : (session : ℕ) (objects : Objects) (output : List ℕ) (old new : Shelves) (result : Result ℕ RestoreFault) → retained asked (past_of before) ≡ Some session
      → RestoreAnswer (StateCalls before author asked after) output old new result → RestoreCause output old new result
      → old.files.held ≡ Some objects → contains_key objects output ≡ false → NoneFailed old new
      → ((fault : RestoreFault) → result ≡ Err fault → TellsNoDamage fault)
      → IsAnswered before after result
  answered_so session objects output old new (Ok count) is answer cause told absent none fine = tt
  answered_so session objects output old new (Err Exists) is answer cause told absent none fine = absurd (there_absent old.files.held objects output told absent cause.0)
  answered_so session objects output old new (Err NoStream) is answer cause told absent none fine = absurd (replied session is (refused_by output old new NoStream answer))
  answered_so session objects output old new (Err OutputFault) is answer cause told absent none fine = absurd (none.files cause)
  answered_so session objects output old new (Err DepotFault) is answer cause told absent none fine = absurd (none.depot cause.1)
  answered_so session objects output old new (Err (Damaged want got)) is answer cause told absent none fine = absurd (fine (Damaged want got) refl)
  answered_so session objects output old new (Err (Unlike text)) is answer cause told absent none fine = absurd (fine (Unlike text) refl)
  answered_so session objects output old new (Err Full) is answer cause told absent none fine = refused_by output old new Full answer
  answered_so session objects output old new (Err Memory) is answer cause told absent none fine = tt
