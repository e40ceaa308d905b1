-- What a restore that answered gave back.
use Rattle.std.proofs.Common.{◌≡◌, ◌⊎◌, ℕ, true, List, [], ◌∷◌, ◌++◌, Some, sym, ap, ◌∙◌, subst, inl, inr, append_assoc, Contains}
use Rattle.std.specs.Prelude.{Result, Ok, Err}
use Rattle.std.specs.List.{concat}
use Rattle.ss_base.specs.declared.profile.Numbers.{Numbers}
use Rattle.journal_entry.specs.declared.entry.Entry.{Entry}
use Rattle.history.specs.declared.rules.Rules.{Rules}
use Rattle.history.specs.Sessions.{is_retained}
use Rattle.store_core.specs.declared.values.Looked.{Looked}
use Rattle.store_core.specs.View.{StateView, KeptView, past_of, stream_kept, Adds}
use Rattle.history_calls.specs.Tokens.{IdleView}
use Rattle.history_calls.specs.Turn.{IsTurn}
use Rattle.depot.specs.declared.fault.RestoreFault.{RestoreFault}
use Rattle.depot.specs.declared.fault.RestoreFault.TheVariants.{Exists}
use Rattle.outside.specs.Shelf.{Objects}
use Rattle.outside.specs.Views.{ShelfView}
use Rattle.restore.specs.Reads.{bytes_of_manifests}
use Rattle.restore.specs.Copies.{Shelves, StreamCopy}
use Rattle.restore.specs.Faults.{output_fault, look_fault}
use Rattle.restore.specs.Output.{HoldsFront}
use Rattle.restore.specs.Restores.{CallsOf, StateCalls, HasReadStream, RestoreAnswer}
use Rattle.restore.specs.Restores.RestoreAnswer.{not_asked, exists, not_looked, copied}
use Rattle.stored_streams.specs.Streams.{Streams}
use Rattle.stored_streams.specs.Collision.{Collide}
use Rattle.stored_streams.specs.Reads.{Reads, IsGiven}
use Rattle.stored_streams.specs.Whole.{IsWhole}
use Rattle.restored_streams.specs.Restored.{HoldsBytes, HasRestored, HasCopiedAt, LeavesFront, TellsNoDamage, Tells, ChunksCollide}
use Rattle.restored_streams.specs.Restored.LeavesFront.{as_before, of_stream}
use Rattle.restored_streams.proofs.FrontLaws.{front_read, front_whole}
use Rattle.restored_streams.proofs.DamageLaws.{no_damage, output_tells, look_tells}
use Rattle.restored_streams.proofs.StreamLaws.{IsKnown}
use Rattle.restored_streams.proofs.GivenLaws.{read_is_stream}
use Rattle.restored_streams.proofs.WholeLaws.{whole_is_stream}
use Rattle.restored_streams.proofs.AnswerLaws.{IsCopyOf, copy_of, holds_other, IsFound, look_found, HasCopied, answer_copied}

-- a copy of what is the stream holds the stream
copy_or : (C : Type 0) (output bytes : List ℕ) (before after : Shelves) (kepts : List KeptView) (count : ℕ) → (copy : IsCopyOf output before after kepts count) → (concat (bytes_of_manifests copy.manifests) ≡ bytes) ⊎ C → HoldsBytes output bytes before.files after.files count ⊎ C
copy_or C output bytes before after kepts count copy (inl is) = inl (holds_other output (concat (bytes_of_manifests copy.manifests)) bytes before.files after.files count is copy.holds)
copy_or C output bytes before after kepts count copy (inr collides) = inr collides

pub copied_stream : (n : Numbers) (streams : Streams) (rules : Rules) (past : List Entry) (s : ℕ) (all : List Reads) (reads : Reads) (output : List ℕ) (before after : Shelves) (count : ℕ) → IsKnown n streams rules past → is_retained s past ≡ true → StreamCopy output before after (stream_kept s past) (Ok count) → Contains all reads → Tells before.depot after.depot reads → HoldsBytes output (streams s) before.files after.files count ⊎ Collide n streams past (IsGiven all past)
copied_stream n streams rules past s all reads output before after count known retained did among tells =
    let copy = copy_of output before after (stream_kept s past) count did in
    let told = subst (λ (d : ShelfView). Tells before.depot d reads) copy.depot tells in
    copy_or (Collide n streams past (IsGiven all past)) output (streams s) before after (stream_kept s past) count copy
    (read_is_stream n streams rules past s all reads before.depot copy.manifests known retained copy.read copy.kepts_are among told)

pub copied_whole : (n : Numbers) (streams : Streams) (rules : Rules) (past : List Entry) (s : ℕ) (objects : Objects) (output : List ℕ) (before after : Shelves) (count : ℕ) → IsKnown n streams rules past → IsWhole n streams past objects → is_retained s past ≡ true → StreamCopy output before after (stream_kept s past) (Ok count) → before.depot.held ≡ Some objects → HoldsBytes output (streams s) before.files after.files count ⊎ ChunksCollide n streams past
copied_whole n streams rules past s objects output before after count known whole retained did held =
    let copy = copy_of output before after (stream_kept s past) count did in
    copy_or (ChunksCollide n streams past) output (streams s) before after (stream_kept s past) count copy
    (whole_is_stream n streams rules past s objects before.depot copy.manifests known whole retained copy.read copy.kepts_are held)

-- ---- a call

stream_copied : (before : StateView) (name output : List ℕ) (old new : Shelves) (count : ℕ) → (is : HasCopied before name output old new count) → StreamCopy output old new (stream_kept is.found.session (past_of before)) (Ok count)
stream_copied before name output old new count is = subst (λ (ks : List KeptView). StreamCopy output old new ks (Ok count)) is.is_found.manifests is.copy

restored_or : (C : Type 0) (streams : Streams) (before : StateView) (name output : List ℕ) (old new : Shelves) (count : ℕ) → (is : HasCopied before name output old new count) → HoldsBytes output (streams is.found.session) old.files new.files count ⊎ C → HasRestored streams (past_of before) name output old.files new.files count ⊎ C
restored_or C streams before name output old new count is (inl holds) = inl (record { session = is.found.session; retained_is = is.is_found.retained_is; holds = holds })
restored_or C streams before name output old new count is (inr collides) = inr collides

pub answered_stream : (n : Numbers) (streams : Streams) (rules : Rules) (all : List Reads) (reads : Reads) (before after : StateView) (author count : ℕ) (name output : List ℕ) (old new : Shelves) → IsKnown n streams rules (past_of before) → RestoreAnswer (StateCalls before author name after) output old new (Ok count) → Contains all reads → Tells old.depot new.depot reads → HasRestored streams (past_of before) name output old.files new.files count ⊎ Collide n streams (past_of before) (IsGiven all (past_of before))
answered_stream n streams rules all reads before after author count name output old new known answer among tells =
    let is = answer_copied before after author name output old new count answer in
    restored_or (Collide n streams (past_of before) (IsGiven all (past_of before))) streams before name output old new count is
    (copied_stream n streams rules (past_of before) is.found.session all reads output old new count known is.is_found.retained (stream_copied before name output old new count is) among tells)

pub answered_whole : (n : Numbers) (streams : Streams) (rules : Rules) (objects : Objects) (before after : StateView) (author count : ℕ) (name output : List ℕ) (old new : Shelves) → IsKnown n streams rules (past_of before) → IsWhole n streams (past_of before) objects → RestoreAnswer (StateCalls before author name after) output old new (Ok count) → old.depot.held ≡ Some objects → HasRestored streams (past_of before) name output old.files new.files count ⊎ ChunksCollide n streams (past_of before)
answered_whole n streams rules objects before after author count name output old new known whole answer held =
    let is = answer_copied before after author name output old new count answer in
    restored_or (ChunksCollide n streams (past_of before)) streams before name output old new count is
    (copied_whole n streams rules (past_of before) is.found.session objects output old new count known whole is.is_found.retained (stream_copied before name output old new count is) held)

-- ---- a call that did not answer

-- what a call with a fault did: it met no stream, or it looked one up and copied
data HasFailedAt (before : StateView) (name output : List ℕ) (old new : Shelves) (fault : RestoreFault) : Type 0 where
  unlooked : new.files.held ≡ old.files.held → TellsNoDamage fault → HasFailedAt before name output old new fault
  looked : (found : Looked) → IsFound (past_of before) name found → StreamCopy output old new (stream_kept found.session (past_of before)) (Err fault) → HasFailedAt before name output old new fault

failed_at : (before after : StateView) (author : ℕ) (name output : List ℕ) (old new : Shelves) (fault : RestoreFault) → RestoreAnswer (StateCalls before author name after) output old new (Err fault) → HasFailedAt before name output old new fault
failed_at before after author name output old new fault (not_asked why is calls failed same) =
    let equal : fault ≡ output_fault why = cc in
    unlooked failed.objects (subst TellsNoDamage (sym equal) (output_tells why))
failed_at before after author name output old new fault (exists is calls there same) =
    let equal : fault ≡ Exists = cc in
    unlooked (ap (λ (s : Shelves). s.files.held) same) (subst TellsNoDamage (sym equal) tt)
failed_at before after author name output old new fault (not_looked why is calls absent same) =
    let equal : fault ≡ look_fault why = cc in
    unlooked (ap (λ (s : Shelves). s.files.held) same) (subst TellsNoDamage (sym equal) (look_tells why))
failed_at before after author name output old new fault (copied found calls absent copy) =
    let is = look_found before calls.between author name found calls.looked in
    looked found is (subst (λ (ks : List KeptView). StreamCopy output old new ks (Err fault)) is.manifests copy)

left_or : (C : Type 0) (streams : Streams) (before : StateView) (name output : List ℕ) (old new : Shelves) (found : Looked) → IsFound (past_of before) name found → HoldsFront output old.files new.files (streams found.session) ⊎ C → LeavesFront streams (past_of before) name output old.files new.files ⊎ C
left_or C streams before name output old new found is (inl front) = inl (of_stream found.session is.retained_is front)
left_or C streams before name output old new found is (inr collides) = inr collides

left_read : (n : Numbers) (streams : Streams) (rules : Rules) (all : List Reads) (reads : Reads) (before : StateView) (name output : List ℕ) (old new : Shelves) (fault : RestoreFault) → IsKnown n streams rules (past_of before) → HasFailedAt before name output old new fault → Contains all reads → Tells old.depot new.depot reads → LeavesFront streams (past_of before) name output old.files new.files ⊎ Collide n streams (past_of before) (IsGiven all (past_of before))
left_read n streams rules all reads before name output old new fault known (unlooked same fine) among tells = inl (as_before same)
left_read n streams rules all reads before name output old new fault known (looked found is copy) among tells =
    left_or (Collide n streams (past_of before) (IsGiven all (past_of before))) streams before name output old new found is
    (front_read n streams rules (past_of before) found.session all reads output old new fault known is.retained copy among tells)

pub answered_front : (n : Numbers) (streams : Streams) (rules : Rules) (all : List Reads) (reads : Reads) (before after : StateView) (author : ℕ) (name output : List ℕ) (old new : Shelves) (fault : RestoreFault) → IsKnown n streams rules (past_of before) → RestoreAnswer (StateCalls before author name after) output old new (Err fault) → Contains all reads → Tells old.depot new.depot reads → LeavesFront streams (past_of before) name output old.files new.files ⊎ Collide n streams (past_of before) (IsGiven all (past_of before))
answered_front n streams rules all reads before after author name output old new fault known answer among tells =
    left_read n streams rules all reads before name output old new fault known (failed_at before after author name output old new fault answer) among tells

left_whole : (n : Numbers) (streams : Streams) (rules : Rules) (objects : Objects) (before : StateView) (name output : List ℕ) (old new : Shelves) (fault : RestoreFault) → IsKnown n streams rules (past_of before) → IsWhole n streams (past_of before) objects → HasFailedAt before name output old new fault → old.depot.held ≡ Some objects → LeavesFront streams (past_of before) name output old.files new.files ⊎ ChunksCollide n streams (past_of before)
left_whole n streams rules objects before name output old new fault known whole (unlooked same fine) held = inl (as_before same)
left_whole n streams rules objects before name output old new fault known whole (looked found is copy) held =
    left_or (ChunksCollide n streams (past_of before)) streams before name output old new found is
    (front_whole n streams rules (past_of before) found.session objects output old new fault known whole is.retained copy held)

pub answered_front_whole : (n : Numbers) (streams : Streams) (rules : Rules) (objects : Objects) (before after : StateView) (author : ℕ) (name output : List ℕ) (old new : Shelves) (fault : RestoreFault) → IsKnown n streams rules (past_of before) → IsWhole n streams (past_of before) objects → RestoreAnswer (StateCalls before author name after) output old new (Err fault) → old.depot.held ≡ Some objects → LeavesFront streams (past_of before) name output old.files new.files ⊎ ChunksCollide n streams (past_of before)
answered_front_whole n streams rules objects before after author name output old new fault known whole answer held =
    left_whole n streams rules objects before name output old new fault known whole (failed_at before after author name output old new fault answer) held

undamaged : (n : Numbers) (streams : Streams) (rules : Rules) (objects : Objects) (before : StateView) (name output : List ℕ) (old new : Shelves) (fault : RestoreFault) → IsKnown n streams rules (past_of before) → IsWhole n streams (past_of before) objects → HasFailedAt before name output old new fault → old.depot.held ≡ Some objects → TellsNoDamage fault
undamaged n streams rules objects before name output old new fault known whole (unlooked same fine) held = fine
undamaged n streams rules objects before name output old new fault known whole (looked found is copy) held =
    no_damage n streams rules (past_of before) found.session objects output old new fault known whole is.retained copy held

pub answered_undamaged : (n : Numbers) (streams : Streams) (rules : Rules) (objects : Objects) (before after : StateView) (author : ℕ) (name output : List ℕ) (old new : Shelves) (fault : RestoreFault) → IsKnown n streams rules (past_of before) → IsWhole n streams (past_of before) objects → RestoreAnswer (StateCalls before author name after) output old new (Err fault) → old.depot.held ≡ Some objects → TellsNoDamage fault
answered_undamaged n streams rules objects before after author name output old new fault known whole answer held =
    undamaged n streams rules objects before name output old new fault known whole (failed_at before after author name output old new fault answer) held

-- ---- a caller beside others

seen_later : (turn reading last after : StateView) (look ended : Entry) (came : List Entry) → Adds turn reading look → last ≡ record reading { entries = reading.entries ++ came } → Adds last after ended → (later : List Entry) × (after.entries ≡ turn.entries ++ later)
seen_later turn reading last after look ended came first more second =
    let one : after.entries ≡ last.entries ++ ended ∷ [] = ap (λ (v : StateView). v.entries) second.added in
    let two : last.entries ≡ reading.entries ++ came = ap (λ (v : StateView). v.entries) more in
    let three : reading.entries ≡ turn.entries ++ look ∷ [] = ap (λ (v : StateView). v.entries) first.added in (
      (look ∷ []) ++ came ++ (ended ∷ []),
      one ∙ ap (λ (l : List Entry). l ++ ended ∷ []) (two ∙ ap (λ (l : List Entry). l ++ came) three)
          ∙ ap (λ (l : List Entry). l ++ ended ∷ []) (append_assoc turn.entries (look ∷ []) came)
          ∙ append_assoc turn.entries ((look ∷ []) ++ came) (ended ∷ []),
    )

-- beside others of one kind is beside any
beside_any : (others : List Entry → Type 0) (standings champions author : ℕ) (seen turn : StateView) → IsTurn others standings champions author seen turn → IsTurn (λ came. Unit {0}) standings champions author seen turn
beside_any others standings champions author seen turn is = record { came = is.came; by_others = tt; not_own = is.not_own; turn_is = is.turn_is; legal = is.legal }

read_at : (others : List Entry → Type 0) (standings champions : ℕ) (before after : IdleView) (name output : List ℕ) (old new : Shelves) (result : Result ℕ RestoreFault) (found : Looked) → HasReadStream others standings champions before name after found → StreamCopy output old new found.manifests.items result → HasCopiedAt standings champions before name output after old new result
read_at others standings champions before after name output old new result found did copy =
    let look = did.looked.at_turn in
    let ending = did.ended.at_turn in
    let is = look_found look.turn did.reading.seen before.author name did.reading.looked look.done in
    let more = seen_later look.turn did.reading.seen ending.turn after.seen _ _ ending.is_turn.came look.done.2 ending.is_turn.turn_is ending.done in
    record {
      turn = look.turn;
      is_turn = beside_any others standings champions before.author before.seen look.turn look.is_turn;
      later = more.0;
      goes_on = more.1;
      session = did.reading.looked.session;
      retained_is = is.retained_is;
      is_retained_then = is.retained;
      copy = subst (λ (ks : List KeptView). StreamCopy output old new ks result) (ap (λ (l : Looked). l.manifests.items) (sym did.found_is) ∙ is.manifests) copy;
    }

pub ok_beside : (others : List Entry → Type 0) (standings champions count : ℕ) (before after : IdleView) (name output : List ℕ) (old new : Shelves) → RestoreAnswer (CallsOf others standings champions before name after) output old new (Ok count) → HasCopiedAt standings champions before name output after old new (Ok count)
ok_beside others standings champions count before after name output old new (not_asked why is calls failed same) = absurd (cc)
ok_beside others standings champions count before after name output old new (exists is calls there same) = absurd (cc)
ok_beside others standings champions count before after name output old new (not_looked why is calls absent same) = absurd (cc)
ok_beside others standings champions count before after name output old new (copied found calls absent copy) = read_at others standings champions before after name output old new (Ok count) found calls copy

pub err_beside : (others : List Entry → Type 0) (standings champions : ℕ) (before after : IdleView) (name output : List ℕ) (old new : Shelves) (fault : RestoreFault) → RestoreAnswer (CallsOf others standings champions before name after) output old new (Err fault) → (new.files.held ≡ old.files.held) ⊎ HasCopiedAt standings champions before name output after old new (Err fault)
err_beside others standings champions before after name output old new fault (not_asked why is calls failed same) = inl failed.objects
err_beside others standings champions before after name output old new fault (exists is calls there same) = inl (ap (λ (s : Shelves). s.files.held) same)
err_beside others standings champions before after name output old new fault (not_looked why is calls absent same) = inl (ap (λ (s : Shelves). s.files.held) same)
err_beside others standings champions before after name output old new fault (copied found calls absent copy) = inr (read_at others standings champions before after name output old new (Err fault) found calls copy)
