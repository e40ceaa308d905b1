-- What storing fresh chunks and writing a manifest answer (this project's own).
use Rattle.std.specs.Prelude.{◌≡◌, ℕ, List, [], ◌∷◌, ◌++◌, length, map, if◌then◌else◌, MatchBool, Option, Result, Ok, Err}
use Rattle.std.specs.List.{sum_by}
use Rattle.ss_base.specs.declared.ids.ManifestId.{ManifestId}
use Rattle.ss_base.specs.declared.object.Object.TheVariants.{Container, Manifest}
use Rattle.ss_base.specs.ObjectName.{object_text}
use Rattle.chunk_name.specs.Pieces.{name_of_bytes}
use Rattle.container_file.specs.declared.layout.Put.{Put}
use Rattle.container_file.specs.Layout.{written, Written as PutBytes}
use Rattle.outside.specs.Shelf.{Objects, CreateLeaves, AppendLeaves}
use Rattle.outside.specs.Views.{ShelfView}
use Rattle.outside.specs.declared.trouble.Trouble.{Trouble}
use Rattle.depot.specs.Tokens.{PlacedView, WrittenView}
use Rattle.depot.specs.Calls.{after_create, after_append, HasFailed}

-- the name of the container to which a put goes
abbrev pub put_name : PutBytes → List ℕ
put_name put = object_text (Container put.container)

-- after a put: one that starts a container makes it, another one adds to it
abbrev pub after_put : ShelfView → PutBytes → ShelfView
after_put shelf put = if put.starts then after_create shelf (put_name put) put.bytes else after_append shelf (put_name put) put.bytes

-- after puts, one behind another
abbrev pub after_puts : ShelfView → List PutBytes → ShelfView
after_puts shelf [] = shelf
after_puts shelf (put ∷ puts) = after_puts (after_put shelf put) puts

-- what a put that failed may leave
abbrev pub PutLeaves : PutBytes → Option Objects → Option Objects → Type 0
PutLeaves put old new = MatchBool put.starts (CreateLeaves old new (put_name put) put.bytes) (AppendLeaves old new (put_name put) put.bytes)

-- how many bytes puts have
abbrev pub puts_len : List Put → ℕ
puts_len puts = sum_by (λ put. length put.bytes.items) puts

-- The puts before this one are done; this one failed, and those behind it were not tried.
pub record IsStopped (before after : ShelfView) (puts : List PutBytes) (trouble : Trouble) : Type 0 where
  pub done : List PutBytes
  pub put : PutBytes
  pub rest : List PutBytes
  pub puts_are : puts ≡ done ++ put ∷ rest
  pub failed : HasFailed (PutLeaves put) (after_puts before done) after trouble

-- one put
abbrev pub PutAnswer : {T : Type 0} → ShelfView → ShelfView → PutBytes → Result T Trouble → Type 0
PutAnswer before after put (Ok done) = after ≡ after_put before put
PutAnswer before after put (Err trouble) = HasFailed (PutLeaves put) before after trouble

-- puts, in order
abbrev pub PutsAnswer : {T : Type 0} → ShelfView → ShelfView → List PutBytes → Result T Trouble → Type 0
PutsAnswer before after puts (Ok done) = after ≡ after_puts before puts
PutsAnswer before after puts (Err trouble) = IsStopped before after puts trouble

-- fresh chunks: the token says how many bytes were put
abbrev pub StoreAnswer : ShelfView → ShelfView → ManifestId → List Put → Result PlacedView Trouble → Type 0
StoreAnswer before after id puts (Ok placed) =
    (placed ≡ record { id = id; sum = puts_len puts }) × (after ≡ after_puts before (map written puts))
StoreAnswer before after id puts (Err trouble) = IsStopped before after (map written puts) trouble

-- a manifest: the token says of which text
abbrev pub WriteAnswer : ShelfView → ShelfView → PlacedView → List ℕ → Result WrittenView Trouble → Type 0
WriteAnswer before after placed text (Ok done) =
    (done ≡ record { id = placed.id; sum = placed.sum; text = name_of_bytes text })
    × (after ≡ after_create before (object_text (Manifest placed.id)) text)
WriteAnswer before after placed text (Err trouble) =
    HasFailed (λ old new. CreateLeaves old new (object_text (Manifest placed.id)) text) before after trouble
