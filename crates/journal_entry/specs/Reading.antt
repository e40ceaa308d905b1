-- Reading an entry from left to right, as a function.
use Rattle.std.specs.Prelude.{◌≡◌, ℕ, zero, suc, List, [], ◌∷◌, length, take, drop, Bool, ◌&&◌, Option, Some, None, Result, Ok, Err, nat_lt, nat_le, if◌then◌else◌}
use Rattle.std.specs.List.{list_all}
use Rattle.std.specs.Int.{Width, w16, w32, w64, byte_len, from_be_bytes}
use Rattle.ss_base.specs.StreamName.{is_stream_byte}
use Rattle.ss_base.specs.declared.ids.ContainerId.{ContainerId}
use Rattle.ss_base.specs.declared.ids.ManifestId.{ManifestId}
use Rattle.ss_base.specs.declared.name.Name.{Name}
use Rattle.ss_base.specs.declared.object.Object.{Object}
use Rattle.ss_base.specs.declared.object.Object.TheVariants.{Container, Manifest}
use Rattle.journal_entry.specs.declared.entry.Entry.{Entry}
use Rattle.journal_entry.specs.declared.entry.Seen.{Seen}
use Rattle.journal_entry.specs.declared.entry.Totals.{Totals}
use Rattle.journal_entry.specs.declared.entry.Point.{Point}
use Rattle.journal_entry.specs.declared.entry.Point.TheVariants.{Begin, Choose, Commit, Finish, Abort, Delete, Look, Done, Reclaim, Stat}
use Rattle.journal_entry.specs.Bounds.{most_hooks, most_champions, most_uses, most_objects, are_counts}
use Rattle.journal_entry.specs.declared.fault.ReadError.{ReadError}
use Rattle.journal_entry.specs.declared.fault.ReadError.TheVariants.{Memory, NotEntry}

infixl 10 ◌>>=◌
abbrev pub ◌>>=◌ : {A B : Type 0} → Option A → (A → Option B) → Option B
(Some x) >>= f = f x
None >>= f = None

-- What a function returned, seen by view, is what reading gives, unless memory ran out.
abbrev pub Fails : {Y : Type 0} → ReadError → Option Y → Type 0
Fails Memory read = Unit {0}
Fails NotEntry read = read ≡ None

abbrev pub Gives : {X Y : Type 0} → (X → Y) → Result X ReadError → Option Y → Type 0
Gives view (Ok x) read = read ≡ Some (view x)
Gives view (Err e) read = Fails e read

-- what a field is read by: the value, and the bytes after it
abbrev pub Reader : Type 0 → Type 0
Reader A = List ℕ → Option (A × List ℕ)

-- two fields, one after the other
infixl 20 ◌▹◌
abbrev pub ◌▹◌ : {A B : Type 0} → Reader A → Reader B → Reader (A × B)
(first ▹ second) bytes = do
  x ← first bytes
  y ← second x.1
  Some ((x.0, y.0), y.1)

abbrev pub made : {A B : Type 0} → (A → B) → Reader A → Reader B
made make reader bytes = do
  x ← reader bytes
  Some (make x.0, x.1)

-- what passes the test
abbrev pub passing : {A : Type 0} → (A → Bool) → Reader A → Reader A
passing test reader bytes = do
  x ← reader bytes
  if test x.0 then Some x else None

-- a size, and what has that size
abbrev pub sized : {A : Type 0} → Reader ℕ → (ℕ → Reader A) → Reader A
sized size reader bytes = do
  n ← size bytes
  reader n.0 n.1

unfoldable pub byte_at : Reader ℕ
byte_at [] = None
byte_at (b ∷ rest) = Some (b, rest)

unfoldable pub number_at : Width → Reader ℕ
number_at w bytes =
    if nat_lt (length bytes) (byte_len w) then None else Some (from_be_bytes w (take (byte_len w) bytes), drop (byte_len w) bytes)

unfoldable pub bytes_at : ℕ → Reader (List ℕ)
bytes_at n bytes = if nat_lt (length bytes) n then None else Some (take n bytes, drop n bytes)

unfoldable pub items_at : {A : Type 0} → Reader A → ℕ → Reader (List A)
items_at reader zero bytes = Some ([], bytes)
items_at reader (suc n) bytes = do
  first ← reader bytes
  others ← items_at reader n first.1
  Some (first.0 ∷ others.0, others.1)

unfoldable pub reply_at : {A : Type 0} → Reader A → Reader (Option A)
reply_at reader [] = None
reply_at reader (zero ∷ rest) = Some (None, rest)
reply_at reader (suc zero ∷ rest) = made Some reader rest
reply_at reader (suc (suc b) ∷ rest) = None

unfoldable pub digest_at : Reader Name
digest_at = made (λ bytes. record { 0 = bytes }) (bytes_at 32)

abbrev pub is_name : List ℕ → Bool
is_name text = nat_le 1 (length text) && (nat_le (length text) 64 && list_all is_stream_byte text)

unfoldable pub stream_name_at : Reader (List ℕ)
stream_name_at = passing is_name (sized byte_at bytes_at)

unfoldable pub manifest_at : Reader ManifestId
manifest_at = made (λ x. record { session = x.0; seq = x.1 }) (number_at w32 ▹ number_at w32)

unfoldable pub container_at : Reader ContainerId
container_at = made (λ x. record { session = x.0; ordinal = x.1 }) (number_at w32 ▹ number_at w32)

unfoldable pub object_at : Reader Object
object_at [] = None
object_at (zero ∷ rest) = None
object_at (suc zero ∷ rest) = made Container container_at rest
object_at (suc (suc zero) ∷ rest) = made Manifest manifest_at rest
object_at (suc (suc (suc b)) ∷ rest) = None

-- a list of at most this many items
unfoldable pub list_at : {A : Type 0} → Reader ℕ → ℕ → Reader A → Reader (List A)
list_at count most reader = sized (passing (λ n. nat_le n most) count) (items_at reader)

unfoldable pub seen_at : Reader Seen
seen_at = made (λ x. record { reader = x.0; session = x.1 }) (number_at w32 ▹ number_at w32)

unfoldable pub totals_at : Reader Totals
totals_at =
    made (λ x. record { streams = x.0.0.0.0.0; bytes = x.0.0.0.0.1; fresh = x.0.0.0.1; containers = x.0.0.1; reclaimed = x.0.1; entries = x.1 })
    (number_at w64 ▹ number_at w64 ▹ number_at w64 ▹ number_at w64 ▹ number_at w64 ▹ number_at w64)

unfoldable pub begin_at : Reader Point
begin_at = made (λ x. Begin x.0 x.1) (stream_name_at ▹ reply_at (number_at w32))

unfoldable pub choose_at : Reader Point
choose_at =
    made (λ x. Choose x.0.0 x.0.1 x.1)
    (number_at w32 ▹ list_at (number_at w16) most_hooks digest_at ▹ list_at byte_at most_champions manifest_at)

unfoldable pub commit_at : Reader Point
commit_at =
    made (λ x. Commit x.0.0.0.0.0.0.0 x.0.0.0.0.0.0.1 x.0.0.0.0.0.1 x.0.0.0.0.1 x.0.0.0.1 x.0.0.1 x.0.1 x.1)
    (passing (λ x. are_counts x.0.0.0.0.1 x.0.0.0.1 x.0.0.1 x.0.1)
    (manifest_at ▹ digest_at ▹ digest_at ▹ number_at w32 ▹ number_at w32 ▹ number_at w32 ▹ number_at w32 ▹ list_at (number_at w16) most_uses container_at))

unfoldable pub finish_at : Reader Point
finish_at = made (λ x. Finish x.0 x.1) (number_at w32 ▹ number_at w32)

unfoldable pub abort_at : Reader Point
abort_at = made (λ x. Abort x.0.0 x.0.1 x.1) (number_at w32 ▹ number_at w32 ▹ number_at w32)

unfoldable pub delete_at : Reader Point
delete_at = made (λ x. Delete x.0 x.1) (stream_name_at ▹ reply_at (number_at w32))

unfoldable pub look_at : Reader Point
look_at = made (λ x. Look x.0 x.1) (stream_name_at ▹ reply_at seen_at)

unfoldable pub done_at : Reader Point
done_at = made Done (number_at w32)

unfoldable pub reclaim_at : Reader Point
reclaim_at = made Reclaim (list_at byte_at most_objects object_at)

unfoldable pub stat_at : Reader Point
stat_at = made Stat totals_at

-- the fields of the kind
unfoldable pub fields_at : ℕ → Reader Point
fields_at zero rest = None
fields_at (suc zero) rest = begin_at rest
fields_at (suc (suc zero)) rest = choose_at rest
fields_at (suc (suc (suc zero))) rest = commit_at rest
fields_at (suc (suc (suc (suc zero)))) rest = finish_at rest
fields_at (suc (suc (suc (suc (suc zero))))) rest = abort_at rest
fields_at (suc (suc (suc (suc (suc (suc zero)))))) rest = delete_at rest
fields_at (suc (suc (suc (suc (suc (suc (suc zero))))))) rest = look_at rest
fields_at (suc (suc (suc (suc (suc (suc (suc (suc zero)))))))) rest = done_at rest
fields_at (suc (suc (suc (suc (suc (suc (suc (suc (suc zero))))))))) rest = reclaim_at rest
fields_at (suc (suc (suc (suc (suc (suc (suc (suc (suc (suc zero)))))))))) rest = stat_at rest
fields_at (suc (suc (suc (suc (suc (suc (suc (suc (suc (suc (suc k))))))))))) rest = None

unfoldable pub point_at : Reader Point
point_at = sized byte_at fields_at

unfoldable pub entry_at : Reader Entry
entry_at = made (λ x. record { author = x.0; point = x.1 }) (number_at w32 ▹ point_at)
