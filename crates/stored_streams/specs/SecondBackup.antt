-- An example: one stream is backed up twice, and its one chunk is a hook (this project's own).
use Rattle.std.specs.Prelude.{ℕ, ◌≡◌, true, List, [], ◌∷◌, ◌++◌, length, Some}
use Rattle.std.specs.List.{All}
use Rattle.ss_base.specs.declared.ids.ContainerId.{ContainerId}
use Rattle.ss_base.specs.declared.ids.ManifestId.{ManifestId}
use Rattle.ss_base.specs.declared.ids.Place.{Place}
use Rattle.ss_base.specs.declared.object.Object.TheVariants.{Manifest}
use Rattle.ss_base.specs.declared.profile.Numbers.{Numbers}
use Rattle.ss_base.specs.Hook.{is_hook}
use Rattle.ss_base.specs.ObjectName.{object_text}
use Rattle.chunk_name.specs.Pieces.{piece, name_of_bytes}
use Rattle.manifest_codec.specs.PiecesPart.{pieces_part}
use Rattle.manifest_codec.specs.Text.{manifest_text}
use Rattle.segment_plan.specs.Plan.{Located}
use Rattle.segment_reader.specs.SegmentsOf.{segments_of}
use Rattle.outside.specs.Shelf.{read_of}
use Rattle.journal_entry.specs.declared.entry.Entry.{Entry}
use Rattle.journal_entry.specs.declared.entry.Point.{Point}
use Rattle.journal_entry.specs.declared.entry.Point.TheVariants.{Begin, Choose, Commit, Finish}
use Rattle.journal_entry.specs.Bounds.{IsEntry}
use Rattle.history.specs.declared.rules.Rules.{Rules}
use Rattle.history.specs.Legal.{is_legal}
use Rattle.stored_streams.specs.Streams.{Streams}
use Rattle.stored_streams.specs.OfStreams.{HasContents, IsOfStreams}
use Rattle.stored_streams.specs.Loads.{Loads, StoresLoaded}
use Rattle.stored_streams.specs.Reads.{Reads, IsGiven}
use Rattle.stored_streams.specs.Reads.Reads.{recorded}

-- the stream is one chunk, whose name is a hook
pub record IsOneHook (n : Numbers) (bytes : List ℕ) : Type 0 where
  pub alone : segments_of n bytes ≡ (bytes ∷ []) ∷ []
  pub hook : is_hook n.bits (name_of_bytes bytes) ≡ true

-- each session backs up these bytes
abbrev pub each_time : List ℕ → Streams
each_time bytes session = bytes

-- what a history is judged by here
abbrev pub rules_for : Numbers → Rules
rules_for n = record { bits = n.bits; standings = 8; champions = 8; limits = record { entries = 1048576; weight = 16777216 } }

abbrev pub manifest_of : ℕ → ManifestId
manifest_of session = record { session = session; seq = 0 }

abbrev pub first_container : ContainerId
first_container = record { session = 0; ordinal = 0 }

-- the chunk lies behind a header of 16 bytes, its length and its name
abbrev pub the_place : Place
the_place = record { container = first_container; offset = 52 }

-- the manifest of each of the two
abbrev pub stored_at : List ℕ → Located
stored_at bytes = record { pieces = piece bytes ∷ []; places = the_place ∷ [] }

abbrev pub text_stored : List ℕ → List ℕ
text_stored bytes = manifest_text (piece bytes ∷ []) (the_place ∷ [])

abbrev pub by : ℕ → Point → Entry
by author point = record { author = author; point = point }

-- a commit of the stream, with so many fresh chunks and bytes
abbrev pub commit_of : List ℕ → ℕ → ℕ → ℕ → Point
commit_of bytes session fresh fresh_bytes =
    Commit (manifest_of session) (name_of_bytes (pieces_part (piece bytes ∷ []))) (name_of_bytes (text_stored bytes))
    1 (length bytes) fresh fresh_bytes (first_container ∷ [])

-- the first backup, as `a`, and the second, as `b`, which finds the first's manifest and stores nothing anew
abbrev pub first_backup : List ℕ → List Entry
first_backup bytes =
    by 0 (Finish 0 1) ∷ by 0 (commit_of bytes 0 1 (length bytes)) ∷ by 0 (Choose 0 (name_of_bytes bytes ∷ []) []) ∷ by 0 (Begin (97 ∷ []) (Some 0)) ∷ []

abbrev pub second_backup : List ℕ → List Entry
second_backup bytes =
    by 1 (Finish 1 0) ∷ by 1 (commit_of bytes 1 0 0) ∷ by 1 (Choose 1 (name_of_bytes bytes ∷ []) (manifest_of 0 ∷ [])) ∷ by 1 (Begin (98 ∷ []) (Some 1)) ∷ []

-- for the second the first's manifest was loaded, by one read
abbrev pub loads_for : List ℕ → Loads
loads_for bytes id = stored_at bytes ∷ []

abbrev pub reads_for : List ℕ → List Reads
reads_for bytes = recorded (read_of (object_text (Manifest (manifest_of 0))) 0 48 (text_stored bytes) ∷ []) ∷ []

-- all that the law of what is stored asks for
pub record AsksFor (n : Numbers) (rules : Rules) (streams : Streams) (loads : Loads) (reads : List Reads) (newer older : List Entry) : Type 0 where
  pub legal : is_legal rules (newer ++ older) ≡ true
  pub entries : All IsEntry (newer ++ older)
  pub of_streams : IsOfStreams n streams older
  pub contents : HasContents n streams (newer ++ older)
  pub stores : StoresLoaded n streams loads (IsGiven reads (newer ++ older)) newer older
