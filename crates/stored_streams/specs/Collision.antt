-- Two different byte lists with one SHA-256, among those that a store hashed (this project's own).
use Rattle.std.specs.Prelude.{ℕ, ◌≡◌, ◌≢◌, ◌<◌, ◌⊎◌, true, List, Contains}
use Rattle.std.specs.List.{count_by}
use Rattle.ss_base.specs.declared.ids.ManifestId.{ManifestId}
use Rattle.ss_base.specs.declared.profile.Numbers.{Numbers}
use Rattle.chunk_name.specs.Pieces.{name_of_bytes}
use Rattle.journal_entry.specs.declared.entry.Entry.{Entry}
use Rattle.history.specs.Sessions.{has, chooses}
use Rattle.history.specs.Need.{commits_manifest}
use Rattle.stored_streams.specs.Streams.{Streams, manifest_chunks}
use Rattle.stored_streams.specs.Plans.{text_of}

-- a chunk of a segment that the history chose for
pub record IsChosenChunk (n : Numbers) (streams : Streams) (past : List Entry) (bytes : List ℕ) : Type 0 where
  pub id : ManifestId
  pub chosen : id.seq < count_by (λ (entry : Entry). chooses id.session entry.point) past
  pub chunk : Contains (manifest_chunks n streams id) bytes

-- the text of a manifest that the history commits
pub record IsCommittedText (n : Numbers) (streams : Streams) (past : List Entry) (bytes : List ℕ) : Type 0 where
  pub id : ManifestId
  pub committed : has (commits_manifest id) past ≡ true
  pub text : bytes ≡ text_of n streams id past

-- one of these, or what reads of the depot gave
abbrev pub IsHashed : Numbers → Streams → List Entry → (List ℕ → Type 0) → List ℕ → Type 0
IsHashed n streams past given bytes = IsChosenChunk n streams past bytes ⊎ (IsCommittedText n streams past bytes ⊎ given bytes)

pub record Collide (n : Numbers) (streams : Streams) (past : List Entry) (given : List ℕ → Type 0) : Type 0 where
  pub one : List ℕ
  pub other : List ℕ
  pub differ : one ≢ other
  pub same : name_of_bytes one ≡ name_of_bytes other
  pub hashed : IsHashed n streams past given one
  pub hashed_too : IsHashed n streams past given other
