-- Objects that have all that a history needs of its streams (this project's own).
use Rattle.std.specs.Prelude.{ℕ, ◌≡◌, ◌<◌, true, List, ◌++◌, Contains, map, slice_get, Some}
use Rattle.ss_base.specs.declared.ids.ContainerId.{ContainerId}
use Rattle.ss_base.specs.declared.ids.ManifestId.{ManifestId}
use Rattle.ss_base.specs.declared.ids.Place.{Place}
use Rattle.ss_base.specs.declared.name.Piece.{Piece}
use Rattle.ss_base.specs.declared.object.Object.TheVariants.{Container, Manifest}
use Rattle.ss_base.specs.declared.profile.Numbers.{Numbers}
use Rattle.ss_base.specs.ObjectName.{object_text}
use Rattle.chunk_name.specs.Pieces.{piece as piece_of}
use Rattle.container_file.specs.Layout.{laid_in}
use Rattle.container_file.specs.Text.{container_text}
use Rattle.outside.specs.Shelf.{Objects, bytes_of, part_of}
use Rattle.journal_entry.specs.declared.entry.Entry.{Entry}
use Rattle.history.specs.Sessions.{begins, has, is_unfinished}
use Rattle.history.specs.Need.{is_live}
use Rattle.stored_streams.specs.Streams.{Streams, manifest_chunks, manifest_pieces}
use Rattle.stored_streams.specs.Plans.{plans_of, planned_places, laid_of, text_of, containers_of}

-- the bytes are a chunk of the stream of a session that began, and have this piece
pub record IsChunkWith (n : Numbers) (streams : Streams) (past : List Entry) (piece : Piece) (bytes : List ℕ) : Type 0 where
  pub id : ManifestId
  pub begun : has (begins id.session) past ≡ true
  pub chunk : Contains (manifest_chunks n streams id) bytes
  pub piece_is : piece_of bytes ≡ piece

-- a manifest's object is its text, and at each of its places lies a chunk with the piece there
pub record IsManifestWhole (n : Numbers) (streams : Streams) (past : List Entry) (objects : Objects) (id : ManifestId) : Type 0 where
  pub text : bytes_of objects (object_text (Manifest id)) ≡ text_of n streams id past
  pub chunks : (k : ℕ) (piece : Piece) (place : Place) → slice_get (manifest_pieces n streams id) k ≡ Some piece → slice_get (planned_places id (plans_of n streams past)) k ≡ Some place
      → IsChunkWith n streams past piece (part_of (bytes_of objects (object_text (Container place.container))) place.offset piece.len)

-- a container begins with the records that are laid out in it for its session's commits
pub record HasRecords (n : Numbers) (streams : Streams) (past : List Entry) (objects : Objects) (id : ContainerId) : Type 0 where
  pub rest : List ℕ
  pub begins : bytes_of objects (object_text (Container id)) ≡ container_text id (map (λ l. l.chunk) (laid_in id.ordinal (laid_of id.session (plans_of n streams past)))) ++ rest

-- each live manifest is whole, and so is each container of an unfinished session, as far as it is committed
pub record IsWhole (n : Numbers) (streams : Streams) (past : List Entry) (objects : Objects) : Type 0 where
  pub manifests : (id : ManifestId) → is_live id past ≡ true → IsManifestWhole n streams past objects id
  pub containers : (id : ContainerId) → is_unfinished id.session past ≡ true → id.ordinal < containers_of n streams id.session past → HasRecords n streams past objects id
