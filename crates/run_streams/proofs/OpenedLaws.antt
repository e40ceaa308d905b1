-- What is known of a store that was opened, and of what its depot tells.
use Rattle.std.proofs.Common.{◌≡◌, ℕ, List, [], ◌∷◌, ◌++◌, reverse, map, Option, Some, refl, sym, ap, ◌∙◌, subst, inl, inr}
use Rattle.std.specs.Prelude.{IfSome, Ok, Err}
use Rattle.std.specs.List.{All, AllByRecursion}
use Rattle.ss_base.proofs.MemberLaws.{In, reverse_in, All-from_in}
use Rattle.journal_entry.specs.declared.entry.Entry.{Entry}
use Rattle.journal_entry.specs.Bounds.{IsEntry}
use Rattle.journal_file.specs.Answer.{HasRead, reads_from, with_reads, joined}
use Rattle.journal_file.specs.Header.{journal_name}
use Rattle.outside.specs.Shelf.{Objects, Given, bytes_of}
use Rattle.outside.specs.Views.{ShelfView, SinkView}
use Rattle.store_core.specs.View.{StateView, past_of, made}
use Rattle.restore.specs.Copies.{Shelves}
use Rattle.job_script.specs.declared.job.JobKind.{JobKind}
use Rattle.store_run.specs.JobRun.{HasDoneJob}
use Rattle.store_run.specs.Opening.{store_of, Reading, FollowsFrom, Opens, IsOpening, IsStore}

pub told_store : (depot depot' : ShelfView) (store : StateView) (objects : Objects) → Opens depot depot' (Ok store) → depot.held ≡ Some objects → IsStore (bytes_of objects journal_name) store
told_store depot depot' store objects opens told =
    subst (λ held. IfSome held (λ (o : Objects). IsOpening (Ok store) (bytes_of o journal_name))) told opens.told

entries_in : (entries : List Entry) → AllByRecursion IsEntry entries → (entry : Entry) → In entry entries → IsEntry entry
entries_in [] all entry listed = absurd listed
entries_in (one ∷ entries) all entry listed = elim listed [
  | inl is ↦ subst IsEntry is all.0
  | inr later ↦ entries_in entries all.1 entry later
]

pub all_valid : (one other : List Entry) → AllByRecursion IsEntry one → AllByRecursion IsEntry other → AllByRecursion IsEntry (one ++ other)
all_valid [] other valid valid_too = valid_too
all_valid (entry ∷ one) other valid valid_too = (valid.0, all_valid one other valid.1 valid_too)

past_entries : (entries : List Entry) → AllByRecursion IsEntry entries → All IsEntry (reverse entries)
past_entries entries valid = All-from_in IsEntry (reverse entries) (λ entry listed. entries_in entries valid entry (reverse_in entry entries listed))

pub store_entries : (bytes : List ℕ) (store : StateView) → IsStore bytes store → All IsEntry (past_of store)
store_entries bytes store is = past_entries store.entries is.journal.journal.valid

-- ---- whatever the depot tells

store_read : (depot depot' : ShelfView) (store : StateView) (reading : Reading) → HasRead depot.gave depot'.gave depot.reads depot'.reads reading → FollowsFrom reading (Ok store) → (bytes : List ℕ) × IsStore bytes store
store_read depot depot' store (Ok found) has (same, legal, no_session, no_reading) =
    let bytes = joined has.pieces in
    let read : StateView = store_of found.0 found.1.items in
    let is : IsStore bytes read = record { journal = record { journal = has.answer; limits = refl }; legal = legal; no_session = no_session; no_reading = no_reading } in
    (bytes, subst (λ (s : StateView). IsStore bytes s) (sym same) is)
store_read depot depot' store (Err fault) has is = absurd (cc)

-- what its reads gave is the journal of the store
pub read_store : (depot depot' : ShelfView) (store : StateView) → Opens depot depot' (Ok store) → (bytes : List ℕ) × IsStore bytes store
read_store depot depot' store opens = store_read depot depot' store opens.reads.reading opens.reads.gave opens.reads.follows

-- the entries of a store and those that its run added can be read from their texts
pub entries_read : (kind : JobKind) (before after : Shelves) (sink sink' : SinkView) (status : ℕ) (done : HasDoneJob kind before after sink sink' status) → All IsEntry (past_of done.new)
entries_read kind before after sink sink' status done =
    let (bytes, is) = read_store before.depot done.opened.depot done.store done.opens in
    let new = map (made done.author) done.points in
    subst (λ (s : StateView). All IsEntry (past_of s)) (sym done.added)
    (past_entries (done.store.entries ++ new) (all_valid done.store.entries new is.journal.journal.valid done.ending.fit))

-- what it tells of its reads behind those of the journal
pub opened_gave : (depot depot' : ShelfView) (store : StateView) (earlier : List Given) → Opens depot depot' (Ok store) → depot.gave ≡ Some earlier → (now : List Given) × (depot'.gave ≡ Some now)
opened_gave depot depot' store earlier opens told =
    let pieces = opens.reads.gave.pieces in
    (earlier ++ reads_from 0 pieces, opens.reads.gave.gave ∙ ap (λ (gave : Option (List Given)). with_reads gave pieces) told)
