-- What calls on a state answer, and what they add (this project's own).
use Rattle.std.specs.Prelude.{ℕ, ◌≡◌, List, take, Vec, Result, Ok, Err, None, Some}
use Rattle.std.specs.declared.alloc.Global.{Global}
use Rattle.ss_base.specs.declared.ids.ManifestId.{ManifestId}
use Rattle.ss_base.specs.declared.name.Name.{Name}
use Rattle.ss_base.specs.declared.object.Object.{Object}
use Rattle.journal_entry.specs.declared.entry.Entry.{Entry}
use Rattle.journal_entry.specs.declared.entry.Seen.{Seen}
use Rattle.journal_entry.specs.declared.entry.Totals.{Totals}
use Rattle.journal_entry.specs.declared.entry.Point.TheVariants.{Begin, Choose, Commit, Delete, Look, Reclaim, Stat}
use Rattle.history.specs.Sessions.{retained, commits_of}
use Rattle.history.specs.StandingList.{champions_for}
use Rattle.history.specs.Need.{erasable}
use Rattle.history.specs.TotalsOf.{totals}
use Rattle.history.specs.Legal.{reply_to_begin, reply_to_look}
use Rattle.store_core.specs.declared.fault.BeginFault.{BeginFault}
use Rattle.store_core.specs.declared.fault.BeginFault.TheVariants as begin
use Rattle.store_core.specs.declared.fault.PointFault.{PointFault}
use Rattle.store_core.specs.declared.fault.PointFault.TheVariants as point
use Rattle.store_core.specs.declared.fault.NameFault.{NameFault}
use Rattle.store_core.specs.declared.fault.NameFault.TheVariants as name
use Rattle.store_core.specs.declared.values.Choice.{Choice}
use Rattle.store_core.specs.declared.values.Looked.{Looked}
use Rattle.store_core.specs.declared.values.Stored.{Stored}
use Rattle.store_core.specs.View.{StateView, past_of, rules_of, made, Adds, IsFull, all_kept, stream_kept}

-- a Begin: the session, or that the name is held
abbrev pub BeginAnswer : StateView → StateView → ℕ → List ℕ → Result ℕ BeginFault → Type 0
BeginAnswer old new author asked (Ok session) =
    (reply_to_begin asked (past_of old) ≡ Some session) × Adds old new (made author (Begin asked (Some session)))
BeginAnswer old new author asked (Err begin.Taken) =
    (reply_to_begin asked (past_of old) ≡ None) × Adds old new (made author (Begin asked None))
BeginAnswer old new author asked (Err begin.Full) = IsFull old new (made author (Begin asked (reply_to_begin asked (past_of old))))
BeginAnswer old new author asked (Err begin.Memory) = new ≡ old

-- the entry of a choice: the champions are the greedy choice
abbrev pub choice_entry : ℕ → ℕ → StateView → ℕ → ℕ → List Name → Entry
choice_entry standings champions old author session hooks =
    made author (Choose session hooks (champions_for (rules_of standings champions old) hooks (past_of old)))

-- a Choose: the id of the commit, and what is kept of the champions
abbrev pub ChooseAnswer : ℕ → ℕ → StateView → StateView → ℕ → ℕ → List Name → Result Choice PointFault → Type 0
ChooseAnswer standings champions old new author session hooks (Ok choice) =
    (choice.manifest ≡ record { session = session; seq = commits_of session (past_of old) })
    × (choice.champions.items ≡ all_kept (champions_for (rules_of standings champions old) hooks (past_of old)) (past_of old))
    × Adds old new (choice_entry standings champions old author session hooks)
ChooseAnswer standings champions old new author session hooks (Err point.Full) = IsFull old new (choice_entry standings champions old author session hooks)
ChooseAnswer standings champions old new author session hooks (Err point.Memory) = new ≡ old

-- an entry that is allowed
abbrev pub AddAnswer : StateView → StateView → Entry → Result Unit PointFault → Type 0
AddAnswer old new entry (Ok done) = Adds old new entry
AddAnswer old new entry (Err point.Full) = IsFull old new entry
AddAnswer old new entry (Err point.Memory) = new ≡ old

-- the entry of a commit
abbrev pub commit_entry : StateView → ℕ → ℕ → Stored → Entry
commit_entry old author session stored =
    made author (Commit (record { session = session; seq = commits_of session (past_of old) }) stored.content stored.text stored.chunks stored.bytes stored.fresh stored.fresh_bytes stored.uses.items)

-- a Commit: the manifest
abbrev pub CommitAnswer : StateView → StateView → ℕ → ℕ → Stored → Result ManifestId PointFault → Type 0
CommitAnswer old new author session stored (Ok id) =
    (id ≡ record { session = session; seq = commits_of session (past_of old) }) × Adds old new (commit_entry old author session stored)
CommitAnswer old new author session stored (Err point.Full) = IsFull old new (commit_entry old author session stored)
CommitAnswer old new author session stored (Err point.Memory) = new ≡ old

-- a Delete: the session whose stream it was, or that there is none
abbrev pub DeleteAnswer : StateView → StateView → ℕ → List ℕ → Result ℕ NameFault → Type 0
DeleteAnswer old new author asked (Ok session) = (retained asked (past_of old) ≡ Some session) × Adds old new (made author (Delete asked (Some session)))
DeleteAnswer old new author asked (Err name.NoStream) = (retained asked (past_of old) ≡ None) × Adds old new (made author (Delete asked None))
DeleteAnswer old new author asked (Err name.Full) = IsFull old new (made author (Delete asked (retained asked (past_of old))))
DeleteAnswer old new author asked (Err name.Memory) = new ≡ old

-- a Look: the reading, the session and its manifests, or that there is no stream
abbrev pub LookAnswer : StateView → StateView → ℕ → List ℕ → Result Looked NameFault → Type 0
LookAnswer old new author asked (Ok looked) =
    let seen : Seen = record { reader = looked.reader; session = looked.session } in
    (reply_to_look asked (past_of old) ≡ Some seen)
    × (looked.manifests.items ≡ stream_kept looked.session (past_of old))
    × Adds old new (made author (Look asked (Some seen)))
LookAnswer old new author asked (Err name.NoStream) = (reply_to_look asked (past_of old) ≡ None) × Adds old new (made author (Look asked None))
LookAnswer old new author asked (Err name.Full) = IsFull old new (made author (Look asked (reply_to_look asked (past_of old))))
LookAnswer old new author asked (Err name.Memory) = new ≡ old

-- a Stat: the totals
abbrev pub StatAnswer : StateView → StateView → ℕ → Result Totals PointFault → Type 0
StatAnswer old new author (Ok given) = (given ≡ totals (past_of old)) × Adds old new (made author (Stat given))
StatAnswer old new author (Err point.Full) = IsFull old new (made author (Stat (totals (past_of old))))
StatAnswer old new author (Err point.Memory) = new ≡ old

-- the entry of a reclaim: the first 16 objects, at most, that can be erased
abbrev pub reclaim_entry : StateView → ℕ → Entry
reclaim_entry old author = made author (Reclaim (take 16 (erasable (past_of old))))

-- a Reclaim: the objects
abbrev pub ReclaimAnswer : StateView → StateView → ℕ → Result (Vec Object Global) PointFault → Type 0
ReclaimAnswer old new author (Ok removals) = (removals.items ≡ take 16 (erasable (past_of old))) × Adds old new (reclaim_entry old author)
ReclaimAnswer old new author (Err point.Full) = IsFull old new (reclaim_entry old author)
ReclaimAnswer old new author (Err point.Memory) = new ≡ old
