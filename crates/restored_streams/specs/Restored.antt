-- What a restore that answered gave back (this project's own).
use Rattle.std.specs.Prelude.{◌≡◌, ◌≢◌, ℕ, true, List, ◌∷◌, ◌++◌, length, flat_map, Contains, Some, Result}
use Rattle.ss_base.specs.declared.ids.ManifestId.{ManifestId}
use Rattle.ss_base.specs.declared.profile.Numbers.{Numbers}
use Rattle.chunk_name.specs.Pieces.{name_of_bytes}
use Rattle.outside.specs.Shelf.{Given, with_object}
use Rattle.outside.specs.Views.{ShelfView}
use Rattle.journal_entry.specs.declared.entry.Entry.{Entry}
use Rattle.history.specs.Sessions.{begins, has, retained, is_retained}
use Rattle.store_core.specs.View.{StateView, past_of, stream_kept}
use Rattle.history_calls.specs.Tokens.{IdleView}
use Rattle.history_calls.specs.Turn.{IsTurn}
use Rattle.depot.specs.declared.fault.RestoreFault.{RestoreFault}
use Rattle.depot.specs.declared.fault.RestoreFault.TheVariants.{Exists, NoStream, OutputFault, DepotFault, Damaged, Unlike, Full, Memory}
use Rattle.restore.specs.Reads.{ManifestRead, bytes_of_chunks, text_of}
use Rattle.restore.specs.Output.{HoldsFront}
use Rattle.restore.specs.Copies.{Shelves, counted, StreamCopy}
use Rattle.stored_streams.specs.Streams.{Streams, manifest_chunks}
use Rattle.stored_streams.specs.Reads.{Reads}
use Rattle.stored_streams.specs.Reads.Reads.{recorded, held}

-- the output holds exactly these bytes, and no other object of the files changed
pub record HoldsBytes (output bytes : List ℕ) (before after : ShelfView) (count : ℕ) : Type 0 where
  pub files : after ≡ record before { held = with_object before.held output bytes; wrote = after.wrote }
  pub count_is : count ≡ counted (length bytes)

-- of the session that the name stands for, the output holds the stream
pub record HasRestored (streams : Streams) (past : List Entry) (name output : List ℕ) (before after : ShelfView) (count : ℕ) : Type 0 where
  pub session : ℕ
  pub retained_is : retained name past ≡ Some session
  pub holds : HoldsBytes output (streams session) before after count

-- What a restore that did not answer left: all objects of the files as before; or, of the session that the name stands
-- for, a front of the stream as the output, or an output that could not be made.
pub data LeavesFront (streams : Streams) (past : List Entry) (name output : List ℕ) (before after : ShelfView) : Type 0 where
  as_before : after.held ≡ before.held → LeavesFront streams past name output before after
  of_stream : (session : ℕ) → retained name past ≡ Some session → HoldsFront output before after (streams session)
      → LeavesFront streams past name output before after

-- a fault, but not one that tells of damage
abbrev pub TellsNoDamage : RestoreFault → Type 0
TellsNoDamage (Damaged want got) = ⊥
TellsNoDamage (Unlike text) = ⊥
TellsNoDamage Exists = Unit {0}
TellsNoDamage NoStream = Unit {0}
TellsNoDamage OutputFault = Unit {0}
TellsNoDamage DepotFault = Unit {0}
TellsNoDamage Full = Unit {0}
TellsNoDamage Memory = Unit {0}

-- these are, perhaps among others, the reads that answered between two moments
pub record AreRecorded (before after : ShelfView) (gave : List Given) : Type 0 where
  pub earlier : List Given
  pub between : List Given
  pub was : before.gave ≡ Some earlier
  pub is : after.gave ≡ Some (earlier ++ between)
  pub among : (read : Given) → Contains between read → Contains gave read

-- what a handle tells of its reads between two moments: them, or the objects that it held before
abbrev pub Tells : ShelfView → ShelfView → Reads → Type 0
Tells before after (recorded gave) = AreRecorded before after gave
Tells before after (held objects) = before.held ≡ Some objects

-- all bytes that were read for manifests: the text of each, and its chunks
abbrev pub bytes_read : List ManifestRead → List (List ℕ)
bytes_read manifests = flat_map (λ (one : ManifestRead). text_of one ∷ bytes_of_chunks one.chunks) manifests

-- a chunk of the stream of a session that began
pub record IsBegunChunk (n : Numbers) (streams : Streams) (past : List Entry) (bytes : List ℕ) : Type 0 where
  pub id : ManifestId
  pub begun : has (begins id.session) past ≡ true
  pub chunk : Contains (manifest_chunks n streams id) bytes

-- two different chunks of such streams have one SHA-256
pub record ChunksCollide (n : Numbers) (streams : Streams) (past : List Entry) : Type 0 where
  pub one : List ℕ
  pub other : List ℕ
  pub differ : one ≢ other
  pub same : name_of_bytes one ≡ name_of_bytes other
  pub begun : IsBegunChunk n streams past one
  pub begun_too : IsBegunChunk n streams past other

-- At its turn, whatever others had added since, a caller looked a name up, and then copied the manifests of the session
-- that the name stood for. What it saw in the end goes on from the history at that turn.
pub record HasCopiedAt (standings champions : ℕ) (before : IdleView) (name output : List ℕ) (after : IdleView) (old new : Shelves) (result : Result ℕ RestoreFault) : Type 0 where
  pub turn : StateView
  pub is_turn : IsTurn (λ came. Unit {0}) standings champions before.author before.seen turn
  pub later : List Entry
  pub goes_on : after.seen.entries ≡ turn.entries ++ later
  pub session : ℕ
  pub retained_is : retained name (past_of turn) ≡ Some session
  pub is_retained_then : is_retained session (past_of turn) ≡ true
  pub copy : StreamCopy output old new (stream_kept session (past_of turn)) result
