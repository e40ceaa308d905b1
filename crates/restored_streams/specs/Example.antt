-- A restore of a stream that is one chunk, as its reads tell it (this project's own).
use Rattle.std.specs.Prelude.{ℕ, ◌≡◌, true, List, [], ◌∷◌, map, None, Some}
use Rattle.std.specs.List.{All, concat}
use Rattle.ss_base.specs.declared.profile.Numbers.{Numbers}
use Rattle.chunk_name.specs.Pieces.{piece, name_of_bytes}
use Rattle.manifest_codec.specs.declared.manifest.Manifest.{Manifest}
use Rattle.manifest_codec.specs.PiecesPart.{pieces_part}
use Rattle.journal_entry.specs.Bounds.{IsEntry}
use Rattle.history.specs.Sessions.{is_retained}
use Rattle.history.specs.Legal.{is_legal}
use Rattle.store_core.specs.View.{KeptView, stream_kept}
use Rattle.outside.specs.Shelf.{Given}
use Rattle.outside.specs.Views.{ShelfView}
use Rattle.restore.specs.Reads.{ManifestRead, after_manifests, AreManifestsRead, bytes_of_manifests, text_of}
use Rattle.restore.specs.Damage.{load_read, chunk_read}
use Rattle.stored_streams.specs.OfStreams.{IsOfStreams}
use Rattle.stored_streams.specs.Reads.Reads.{recorded}
use Rattle.stored_streams.specs.SecondBackup.{rules_for, each_time, manifest_of, first_container, the_place, text_stored, first_backup}
use Rattle.restored_streams.specs.Restored.{Tells}

-- a depot that tells its reads, of which there was none
abbrev pub unread : ShelfView
unread = record { held = None; gave = Some []; wrote = None; erased = None; reads = 0; faults = 0 }

-- what the backup's Commit kept
abbrev pub view_kept : List ℕ → KeptView
view_kept bytes = record { id = manifest_of 0; text = name_of_bytes (text_stored bytes); content = name_of_bytes (pieces_part (piece bytes ∷ [])); chunks = 1; uses = first_container ∷ [] }

-- its manifest was loaded, and the chunk read
abbrev pub reading : List ℕ → Manifest → ManifestRead
reading bytes manifest = record { kept = view_kept bytes; manifest = manifest; chunks = record { listed = (piece bytes, the_place); bytes = bytes } ∷ [] }

abbrev pub given_for : List ℕ → Manifest → List Given
given_for bytes manifest = load_read (view_kept bytes) (text_of (reading bytes manifest)) ∷ chunk_read (piece bytes, the_place) bytes ∷ []

-- all that the law of what was read asks for, after the first backup of the stream, and that it was given back
pub record IsRestorable (n : Numbers) (bytes : List ℕ) (manifest : Manifest) : Type 0 where
  pub legal : is_legal (rules_for n) (first_backup bytes) ≡ true
  pub entries : All IsEntry (first_backup bytes)
  pub of_streams : IsOfStreams n (each_time bytes) (first_backup bytes)
  pub retained : is_retained 0 (first_backup bytes) ≡ true
  pub read : AreManifestsRead unread (reading bytes manifest ∷ [])
  pub kepts : map (λ (m : ManifestRead). m.kept) (reading bytes manifest ∷ []) ≡ stream_kept 0 (first_backup bytes)
  pub told : Tells unread (after_manifests unread (reading bytes manifest ∷ [])) (recorded (given_for bytes manifest))
  pub gives : concat (bytes_of_manifests (reading bytes manifest ∷ [])) ≡ bytes
