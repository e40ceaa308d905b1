-- Copies of chunks and of manifests, one behind another, and where copying stops.
use Rattle.std.proofs.Common.{◌≡◌, ℕ, ◌+◌, ◌-◌, ◌^◌, ◌<◌, ◌≤◌, min, List, [], ◌∷◌, ◌++◌, length, get_or, take, drop, refl, sym, ap, ◌∙◌, subst, arith, append_assoc, take-append-drop}
use Rattle.std.specs.Prelude.{Result, Ok, Err}
use Rattle.std.proofs.lemmas.List.{take_more, map-append}
use Rattle.std.proofs.lemmas.Slice.Zip.{length-zip, get_or-zip}
use Rattle.ss_base.specs.declared.ids.Place.{Place}
use Rattle.ss_base.specs.declared.name.Piece.{Piece}
use Rattle.manifest_codec.specs.declared.manifest.Manifest.{Manifest}
use Rattle.store_core.specs.View.{KeptView}
use Rattle.outside.specs.Views.{ShelfView}
use Rattle.depot.specs.declared.fault.RestoreFault.{RestoreFault}
use Rattle.depot.specs.Calls.{after_append}
use Rattle.depot.specs.Chunks.{IsChunkRead}
use Rattle.depot.specs.Loading.{IsLoaded}
use Rattle.restore.specs.Reads.{Listed, listed_by, ChunkRead, after_chunk, after_chunks, AreChunksRead, ManifestRead, after_load, after_manifest, after_manifests, IsManifestRead, bytes_of_chunks, bytes_of_manifests}
use Rattle.restore.specs.Output.{after_adding}
use Rattle.restore.specs.Copies.{Shelves, counted, total, IsChunkCopied, AreChunksCopied, IsManifestCopied, AreManifestsCopied, StopsAtChunk, StopsInChunks, StopsAtManifest, StopsInManifests, ChunksCopy, ManifestCopy}
use Rattle.restore.specs.Copies.StopsAtManifest.{in_chunks}
use Rattle.restore.proofs.ReadLaws.{after_chunks-push, AreChunksRead-push, after_manifests-push, AreManifestsRead-push, bytes_of-push, after_adding-append, total-append, total-one}

abbrev bound : ℕ
bound = 2 ^ 64 - 1

-- a list up to an item, and the rest
split_at : {X : Type 0} (xs : List X) (i : ℕ) (x : X) → i < length xs → x ≡ get_or xs i x → xs ≡ take i xs ++ x ∷ drop (i + 1) xs
split_at xs i x within is =
    sym (take-append-drop (i + 1) xs)
    ∙ ap (λ (front : List _). front ++ drop (i + 1) xs) (take_more xs i x within ∙ ap (λ (y : _). take i xs ++ y ∷ []) (sym is))
    ∙ append_assoc (take i xs) (x ∷ []) (drop (i + 1) xs)

front_more : {X : Type 0} (xs : List X) (i : ℕ) (x : X) → i < length xs → x ≡ get_or xs i x → take i xs ++ x ∷ [] ≡ take (i + 1) xs
front_more xs i x within is = sym (take_more xs i x within ∙ ap (λ (y : _). take i xs ++ y ∷ []) (sym is))

-- ---- counts

pub count_none : (start : ℕ) → start ≤ bound → start ≡ counted (start + 0)
count_none start small = omega (arith, small)

count_more : (start a b len count count' : ℕ) → count ≡ counted (start + a) → len ≡ b → count' ≡ min (count + len) bound → count' ≡ counted (start + (a + b))
count_more start a b len count count' was is now = omega (arith, was, is, now)

count_then : (a b count count' : ℕ) → count ≡ counted a → count' ≡ counted (count + b) → count' ≡ counted (a + b)
count_then a b count count' was now = omega (arith, was, now)

-- ---- chunks

pub one_more_chunk : (output : List ℕ) (before now after : Shelves) (all : List Listed) (i : ℕ) (listed : Listed) (start count len count' : ℕ)
    → i < length all → listed ≡ get_or all i listed → count' ≡ min (count + len) bound
    → AreChunksCopied output before now (take i all) start count → IsChunkCopied output now after listed len
    → AreChunksCopied output before after (take (i + 1) all) start count'
one_more_chunk output before now after all i listed start count len count' within is more so_far one =
    let chunk : ChunkRead = record { listed = listed; bytes = one.bytes } in
    let done = so_far.chunks in
    let here : IsChunkRead now.depot (after_chunk now.depot chunk) listed.1 listed.0 one.bytes = subst (λ (s : ShelfView). IsChunkRead now.depot s listed.1 listed.0 one.bytes) one.read.given.call one.read in
    let there : IsChunkRead (after_chunks before.depot done) (after_chunk (after_chunks before.depot done) chunk) listed.1 listed.0 one.bytes =
    subst (λ (s : ShelfView). IsChunkRead s (after_chunk s chunk) listed.1 listed.0 one.bytes) so_far.depot here in
    let bytes = map-append (λ (c : ChunkRead). c.bytes) done (chunk ∷ []) in
    let sum : total (bytes_of_chunks (done ++ chunk ∷ [])) ≡ total (bytes_of_chunks done) + length one.bytes = ap total bytes ∙ total-append (bytes_of_chunks done) (one.bytes ∷ []) ∙ ap (λ n. total (bytes_of_chunks done) + n) (total-one one.bytes) in
    record {
      chunks = done ++ chunk ∷ [];
      listed = map-append (λ (c : ChunkRead). c.listed) done (chunk ∷ []) ∙ ap (λ (l : List Listed). l ++ listed ∷ []) so_far.listed ∙ front_more all i listed within is;
      read = AreChunksRead-push before.depot done chunk so_far.read there;
      depot = one.read.given.call ∙ ap (λ (s : ShelfView). after_chunk s chunk) so_far.depot ∙ sym (after_chunks-push before.depot done chunk);
      files = one.added ∙ ap (λ (s : ShelfView). after_append s output one.bytes) so_far.files
          ∙ sym (after_adding-append before.files output (bytes_of_chunks done) (one.bytes ∷ [])) ∙ ap (after_adding before.files output) (sym bytes);
      count_is = count_more start (total (bytes_of_chunks done)) (length one.bytes) len count count' so_far.count_is one.count_is more ∙ ap (λ n. counted (start + n)) (sym sum);
    }

-- both shelves, from what each is
both : {now : Shelves} {files depot : ShelfView} → now.files ≡ files → now.depot ≡ depot → now ≡ record { files = files; depot = depot }
both {now} f d = λ i. record { files = f i; depot = d i }

pub stopped_at_chunk : (output : List ℕ) (before now after : Shelves) (all : List Listed) (i : ℕ) (listed : Listed) (start count : ℕ) (fault : RestoreFault)
    → i < length all → listed ≡ get_or all i listed
    → AreChunksCopied output before now (take i all) start count → StopsAtChunk output now after listed fault
    → StopsInChunks output before after all fault
stopped_at_chunk output before now after all i listed start count fault within is so_far stop = record {
  done = so_far.chunks;
  listed = listed;
  rest = drop (i + 1) all;
  split = split_at all i listed within is ∙ ap (λ (l : List Listed). l ++ listed ∷ drop (i + 1) all) (sym so_far.listed);
  read = so_far.read;
  stops = subst (λ (s : Shelves). StopsAtChunk output s after listed fault) (both so_far.files so_far.depot) stop;
}

-- ---- one manifest

pub manifest_copied : (output : List ℕ) (before after : Shelves) (loaded : ShelfView) (kept : KeptView) (manifest : Manifest) (start count : ℕ)
    → IsLoaded before.depot loaded kept manifest → AreChunksCopied output (record before { depot = loaded }) after (listed_by manifest) start count
    → IsManifestCopied output before after kept start count
manifest_copied output before after loaded kept manifest start count load copy =
    let one : ManifestRead = record { kept = kept; manifest = manifest; chunks = copy.chunks } in
    let is : loaded ≡ after_load before.depot kept manifest = load.given.call in
    record {
      one = one;
      kept_is = refl;
      read = record {
        loaded = subst (λ (s : ShelfView). IsLoaded before.depot s kept manifest) is load;
        all = copy.listed;
        read = subst (λ (s : ShelfView). AreChunksRead s copy.chunks) is copy.read;
      };
      depot = copy.depot ∙ ap (λ (s : ShelfView). after_chunks s copy.chunks) is;
      files = copy.files;
      count_is = copy.count_is;
    }

pub stopped_in_manifest : (output : List ℕ) (before after : Shelves) (loaded : ShelfView) (kept : KeptView) (manifest : Manifest) (fault : RestoreFault)
    → IsLoaded before.depot loaded kept manifest → StopsInChunks output (record before { depot = loaded }) after (listed_by manifest) fault
    → StopsAtManifest output before after kept fault
stopped_in_manifest output before after loaded kept manifest fault load stop =
    let is : loaded ≡ after_load before.depot kept manifest = load.given.call in
    in_chunks manifest (subst (λ (s : ShelfView). IsLoaded before.depot s kept manifest) is load)
    (subst (λ (s : ShelfView). StopsInChunks output (record before { depot = s }) after (listed_by manifest) fault) is stop)

-- ---- manifests

pub one_more_manifest : (output : List ℕ) (before now after : Shelves) (kepts : List KeptView) (i : ℕ) (kept : KeptView) (count count' : ℕ)
    → i < length kepts → kept ≡ get_or kepts i kept
    → AreManifestsCopied output before now (take i kepts) count → IsManifestCopied output now after kept count count'
    → AreManifestsCopied output before after (take (i + 1) kepts) count'
one_more_manifest output before now after kepts i kept count count' within is so_far one =
    let done = so_far.manifests in
    let there : IsManifestRead (after_manifests before.depot done) one.one = subst (λ (s : ShelfView). IsManifestRead s one.one) so_far.depot one.read in
    let bytes = bytes_of-push done one.one in
    let added = bytes_of_chunks one.one.chunks in
    record {
      manifests = done ++ one.one ∷ [];
      kepts_are = map-append (λ (m : ManifestRead). m.kept) done (one.one ∷ []) ∙ (λ j. so_far.kepts_are j ++ one.kept_is j ∷ []) ∙ front_more kepts i kept within is;
      read = AreManifestsRead-push before.depot done one.one so_far.read there;
      depot = one.depot ∙ ap (λ (s : ShelfView). after_manifest s one.one) so_far.depot ∙ sym (after_manifests-push before.depot done one.one);
      files = one.files ∙ ap (λ (s : ShelfView). after_adding s output added) so_far.files
          ∙ sym (after_adding-append before.files output (bytes_of_manifests done) added) ∙ ap (after_adding before.files output) (sym bytes);
      count_is = count_then (total (bytes_of_manifests done)) (total added) count count' so_far.count_is one.count_is
          ∙ ap counted (sym (total-append (bytes_of_manifests done) added)) ∙ ap (λ (xs : List (List ℕ)). counted (total xs)) (sym bytes);
    }

pub stopped_at_manifest : (output : List ℕ) (before now after : Shelves) (kepts : List KeptView) (i : ℕ) (kept : KeptView) (count : ℕ) (fault : RestoreFault)
    → i < length kepts → kept ≡ get_or kepts i kept
    → AreManifestsCopied output before now (take i kepts) count → StopsAtManifest output now after kept fault
    → StopsInManifests output before after kepts fault
stopped_at_manifest output before now after kepts i kept count fault within is so_far stop = record {
  done = so_far.manifests;
  kept = kept;
  rest = drop (i + 1) kepts;
  split = split_at kepts i kept within is ∙ ap (λ (l : List KeptView). l ++ kept ∷ drop (i + 1) kepts) (sym so_far.kepts_are);
  read = so_far.read;
  stops = subst (λ (s : Shelves). StopsAtManifest output s after kept fault) (both so_far.files so_far.depot) stop;
}

-- ---- what a manifest lists

-- the i-th chunk of a manifest
pub listed_at : (manifest : Manifest) (i : ℕ) (piece : Piece) (place : Place) → i < length manifest.pieces.items → i < length manifest.places.items
    → piece ≡ get_or manifest.pieces.items i piece → place ≡ get_or manifest.places.items i place
    → (i < length (listed_by manifest)) × ((piece, place) ≡ get_or (listed_by manifest) i (piece, place))
listed_at manifest i piece place first second piece_is place_is =
    let pieces = manifest.pieces.items in
    let places = manifest.places.items in
    let size = length-zip pieces places in (
      omega (arith, size, first, second),
      (λ j. (piece_is j, place_is j)) ∙ sym (get_or-zip pieces places i (piece, place) first second),
    )

-- a manifest that was loaded, and the copy of its chunks
pub manifest_copy : (output : List ℕ) (before after : Shelves) (loaded : ShelfView) (kept : KeptView) (manifest : Manifest) (start : ℕ) (result : Result ℕ RestoreFault)
    → IsLoaded before.depot loaded kept manifest → ChunksCopy output (record before { depot = loaded }) after (listed_by manifest) start result
    → ManifestCopy output before after kept start result
manifest_copy output before after loaded kept manifest start (Ok count) load copy = manifest_copied output before after loaded kept manifest start count load copy
manifest_copy output before after loaded kept manifest start (Err fault) load stop = stopped_in_manifest output before after loaded kept manifest fault load stop
