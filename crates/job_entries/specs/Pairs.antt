-- The points of the segments that a session stores (this project's own).
use Rattle.std.specs.Prelude.{ℕ, ◌≡◌, ◌+◌, List, [], ◌∷◌, length}
use Rattle.ss_base.specs.declared.ids.ManifestId.{ManifestId}
use Rattle.ss_base.specs.declared.name.Name.{Name}
use Rattle.ss_base.specs.declared.profile.Numbers.{Numbers}
use Rattle.chunk_name.specs.Pieces.{name_of_bytes, pieces}
use Rattle.hook_sampler.specs.Hooks.{hooks}
use Rattle.manifest_codec.specs.PiecesPart.{pieces_part}
use Rattle.segment_plan.specs.Planned.{total_len}
use Rattle.journal_entry.specs.declared.entry.Point.{Point}
use Rattle.journal_entry.specs.declared.entry.Point.TheVariants.{Choose, Commit}
use Rattle.store_core.specs.declared.values.Stored.{Stored}

-- the Commit of the session's manifest with this number
abbrev pub commit_of : ℕ → ℕ → Stored → Point
commit_of session seq stored =
    Commit (record { session = session; seq = seq }) stored.content stored.text stored.chunks stored.bytes stored.fresh stored.fresh_bytes stored.uses.items

-- A Choose of the session and the Commit of its manifest with this number, then those with the numbers behind it.
pub data HasPairs (session : ℕ) : ℕ → List Point → Type 0 where
  none : (first : ℕ) → HasPairs session first []
  pair : (first : ℕ) (chosen : List Name) (champions : List ManifestId) (stored : Stored) (points : List Point)
      → HasPairs session (first + 1) points
      → HasPairs session first (Choose session chosen champions ∷ commit_of session first stored ∷ points)

-- ---- the same, for segments with these chunks

-- the Choose has the segment's hooks
abbrev pub segment_hooks : Numbers → List (List ℕ) → List Name
segment_hooks n chunks = hooks n.bits (pieces chunks)

-- and the Commit its number of chunks, its bytes and its content digest
pub record IsOfSegment (chunks : List (List ℕ)) (stored : Stored) : Type 0 where
  pub content : stored.content ≡ name_of_bytes (pieces_part (pieces chunks))
  pub chunk_count : stored.chunks ≡ length (pieces chunks)
  pub byte_count : stored.bytes ≡ total_len (pieces chunks)

-- a pair for each segment, in turn
pub data HasPairsOf (n : Numbers) (session : ℕ) : ℕ → List (List (List ℕ)) → List Point → Type 0 where
  none : (first : ℕ) → HasPairsOf n session first [] []
  pair : (first : ℕ) (chunks : List (List ℕ)) (segments : List (List (List ℕ))) (champions : List ManifestId) (stored : Stored) (points : List Point)
      → IsOfSegment chunks stored → HasPairsOf n session (first + 1) segments points
      → HasPairsOf n session first (chunks ∷ segments) (Choose session (segment_hooks n chunks) champions ∷ commit_of session first stored ∷ points)
