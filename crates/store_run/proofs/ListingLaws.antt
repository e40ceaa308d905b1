-- What a status of `journal` tells.
use Rattle.std.proofs.Common.{◌≡◌, ℕ, ◌+◌, ◌≤◌, List, [], ◌∷◌, Some, Ok, Err, true, false, take, reverse, refl, sym, ap, ◌∙◌, subst, arith}
use Rattle.std.specs.Prelude.{IfSome, drop}
use Rattle.std.proofs.lemmas.List.{append-nil, reverse-append, take-append-drop}
use Rattle.ss_base.specs.Search.{least}
use Rattle.journal_entry.specs.declared.entry.Entry.{Entry}
use Rattle.outside.specs.Shelf.{Objects, bytes_of}
use Rattle.outside.specs.Views.{SinkView, ShelfView, Takes, TakesFront}
use Rattle.history.specs.declared.rules.Rules.{Rules}
use Rattle.history.specs.Legal.{is_legal}
use Rattle.history.proofs.LegalLaws.{is_legal-older}
use Rattle.journal_file.specs.Header.{journal_name}
use Rattle.journal_file.proofs.AnswerLaws.{not_bad, one_journal}
use Rattle.store_core.specs.View.{StateView, rules_of}
use Rattle.store_core.specs.Replay.{IsFirstIllegal, IsLeast, has_session, has_reading}
use Rattle.store_run.specs.declared.stop.Stop.{Stop}
use Rattle.store_run.specs.declared.stop.Stop.TheVariants.{Usage, TooLong, Memory, AlreadyStore, SourceFault, DepotFault, NotStore, BadEntry, IllegalEntry, UnfinishedSession, UnfinishedReading, Callers}
use Rattle.store_run.specs.EntryLines.{entry_lines}
use Rattle.store_run.specs.Listing.{JournalAnswer, listed, not_opened, line_failed, line_wanted_memory}
use Rattle.store_run.specs.Opening.{IsStore, IsJournalOf, IsRefused, IsOpening}
use Rattle.store_run.specs.Run.{Refuses, told, sink_failed, memory_wanted}
use Rattle.store_run.specs.Stop.{fault_line, status_of, sink_fault, least_status}

-- beside a sink that failed a cause is answered by 6 where its own status is 6
six_beside : (why : Stop) → 6 ≡ least_status (status_of why ∷ sink_fault ∷ []) → status_of why ≡ 6
unfolding least_status least
six_beside Usage is = absurd (omega (arith, is))
six_beside TooLong is = absurd (omega (arith, is))
six_beside Memory is = absurd (omega (arith, is))
six_beside AlreadyStore is = absurd (omega (arith, is))
six_beside SourceFault is = absurd (omega (arith, is))
six_beside DepotFault is = absurd (omega (arith, is))
six_beside NotStore is = refl
six_beside (BadEntry place) is = refl
six_beside (IllegalEntry number) is = refl
six_beside (UnfinishedSession session) is = refl
six_beside (UnfinishedReading reader) is = refl
six_beside Callers is = absurd (omega (arith, is))

-- a run that ends early is not answered by 0
some_status : (why : Stop) → (1 ≤ status_of why) × (1 ≤ least_status (status_of why ∷ sink_fault ∷ []))
unfolding least_status least
some_status Usage = (omega arith, omega arith)
some_status TooLong = (omega arith, omega arith)
some_status Memory = (omega arith, omega arith)
some_status AlreadyStore = (omega arith, omega arith)
some_status SourceFault = (omega arith, omega arith)
some_status DepotFault = (omega arith, omega arith)
some_status NotStore = (omega arith, omega arith)
some_status (BadEntry place) = (omega arith, omega arith)
some_status (IllegalEntry number) = (omega arith, omega arith)
some_status (UnfinishedSession session) = (omega arith, omega arith)
some_status (UnfinishedReading reader) = (omega arith, omega arith)
some_status Callers = (omega arith, omega arith)

not_zero : (why : Stop) (lines : List ℕ) (sink sink' : SinkView) → Refuses why lines sink sink' 0 → ⊥
not_zero why lines sink sink' (told is whole same) = omega (arith, is, (some_status why).0)
not_zero why lines sink sink' (sink_failed is front rose) = omega (arith, is, (some_status why).1)
not_zero why lines sink sink' (memory_wanted is front same) = omega (arith, is)

-- at 6 the cause has this status, and a front of its line was printed
six : (why : Stop) (sink sink' : SinkView) → Refuses why [] sink sink' 6 → (status_of why ≡ 6) × TakesFront sink sink' (fault_line why)
six why sink sink' (told is whole same) = (sym is, (fault_line why, [], sym (append-nil (fault_line why)), whole))
six why sink sink' (sink_failed is front rose) = (six_beside why is, front)
six why sink sink' (memory_wanted is front same) = absurd (omega (arith, is))

-- at 0 the journal is a store's, and its lines were printed
pub listed-told : (objects : Objects) (depot depot' : ShelfView) (sink sink' : SinkView) → depot.held ≡ Some objects → JournalAnswer depot depot' sink sink' 0
    → (store : StateView) × IsStore (bytes_of objects journal_name) store × Takes sink sink' (entry_lines 0 store.entries)
listed-told objects depot depot' sink sink' held (listed store is opens takes same) =
    (store, subst (λ told. IfSome told (λ (o : Objects). IsOpening (Ok store) (bytes_of o journal_name))) held opens.told, takes)
listed-told objects depot depot' sink sink' held (not_opened why opens refuses) = absurd (not_zero why [] sink sink' refuses)
listed-told objects depot depot' sink sink' held (line_failed store is opens front rose) = absurd (omega (arith, is))
listed-told objects depot depot' sink sink' held (line_wanted_memory store is opens front same) = absurd (omega (arith, is))

-- at 6 the journal has a cause, and a front of its line was printed
pub refused-told : (objects : Objects) (depot depot' : ShelfView) (sink sink' : SinkView) → depot.held ≡ Some objects → JournalAnswer depot depot' sink sink' 6
    → (why : Stop) × (status_of why ≡ 6) × IsRefused why (bytes_of objects journal_name) × TakesFront sink sink' (fault_line why)
refused-told objects depot depot' sink sink' held (listed store is opens takes same) = absurd (omega (arith, is))
refused-told objects depot depot' sink sink' held (not_opened why opens refuses) =
    let found = six why sink sink' refuses in
    (why, found.0, subst (λ told. IfSome told (λ (o : Objects). IsOpening (Err why) (bytes_of o journal_name))) held opens.told, found.1)
refused-told objects depot depot' sink sink' held (line_failed store is opens front rose) = absurd (omega (arith, is))
refused-told objects depot depot' sink sink' held (line_wanted_memory store is opens front same) = absurd (omega (arith, is))

-- bytes are the journal of one store
one_store : (bytes : List ℕ) (a b : StateView) → IsJournalOf bytes a → IsJournalOf bytes b → a ≡ b
one_store bytes a b first second =
    let same = one_journal bytes a.profile b.profile a.entries b.entries first.journal second.journal in
    let limits = first.limits ∙ sym second.limits in
    λ i. record { profile = same.0 i; limits = limits i; entries = same.1 i }

true_false : true ≡ false → ⊥
true_false is = cc

-- the first entries of a legal history are legal
legal-front : (rules : Rules) (entries : List Entry) (k : ℕ) → is_legal rules (reverse entries) ≡ true → is_legal rules (reverse (take k entries)) ≡ true
legal-front rules entries k legal =
    is_legal-older rules (reverse (drop k entries)) (reverse (take k entries))
    (subst (λ (past : List Entry). is_legal rules past ≡ true) (sym (ap reverse (take-append-drop k entries)) ∙ reverse-append (take k entries) (drop k entries)) legal)

-- a store's journal has no cause of refusal
pub apart : (bytes : List ℕ) (store : StateView) (why : Stop) → status_of why ≡ 6 → IsStore bytes store → IsRefused why bytes → ⊥
apart bytes store Usage six is refused = refused
apart bytes store TooLong six is refused = refused
apart bytes store AlreadyStore six is refused = refused
apart bytes store SourceFault six is refused = refused
apart bytes store Callers six is refused = refused
apart bytes store Memory six is refused = omega (arith, six)
apart bytes store DepotFault six is refused = omega (arith, six)
apart bytes store NotStore six is refused = refused store.profile _ is.journal.journal.text
apart bytes store (BadEntry place) six is refused = not_bad bytes store.profile store.entries place is.journal.journal refused
apart bytes store (IllegalEntry number) six is refused =
    let same = one_store bytes refused.store store refused.journal is.journal in
    let first = subst (λ (s : StateView). IsFirstIllegal 8 8 s number) same refused.first in
    true_false (sym (legal-front (rules_of 8 8 store) store.entries (number + 1) is.legal) ∙ first.illegal)
apart bytes store (UnfinishedSession session) six is refused =
    let same = one_store bytes refused.store store refused.journal is.journal in
    let found = subst (λ (s : StateView). IsLeast (has_session s) session) same refused.least in
    true_false (sym found.here ∙ is.no_session session)
apart bytes store (UnfinishedReading reader) six is refused =
    let same = one_store bytes refused.store store refused.journal is.journal in
    let found = subst (λ (s : StateView). IsLeast (has_reading s) reader) same refused.least in
    true_false (sym found.here ∙ is.no_reading reader)
