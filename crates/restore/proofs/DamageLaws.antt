-- The reads of a restore that stopped at damage.
use Rattle.std.proofs.Common.{◌≡◌, ℕ, zero, List, [], ◌∷◌, ◌++◌, map, flat_map, refl, sym, ap, ◌∙◌, subst, Option, None, Some, arith, append_assoc, Contains}
use Rattle.std.specs.Prelude.{Result, Ok, Err}
use Rattle.std.specs.Option.{option_map}
use Rattle.std.proofs.lemmas.List.{append-nil}
use Rattle.std.proofs.lemmas.List.Elements.{Contains-append_left, Contains-append_right}
use Rattle.ss_base.specs.declared.name.Name.{Name}
use Rattle.chunk_name.specs.Pieces.{name_of_bytes}
use Rattle.manifest_codec.specs.declared.manifest.Manifest.{Manifest}
use Rattle.store_core.specs.View.{KeptView}
use Rattle.outside.specs.Shelf.{Given}
use Rattle.outside.specs.Views.{ShelfView}
use Rattle.outside.specs.declared.trouble.Trouble.{Trouble}
use Rattle.outside.specs.declared.trouble.Trouble.TheVariants as shelf
use Rattle.depot.specs.declared.fault.LoadFault.{LoadFault}
use Rattle.depot.specs.declared.fault.LoadFault.TheVariants as load
use Rattle.depot.specs.declared.fault.ReadFault.{ReadFault}
use Rattle.depot.specs.declared.fault.ReadFault.TheVariants as chunk
use Rattle.depot.specs.declared.fault.RestoreFault.{RestoreFault}
use Rattle.depot.specs.declared.fault.RestoreFault.TheVariants.{Damaged, Unlike}
use Rattle.depot.specs.Chunks.{ChunkAnswer}
use Rattle.depot.specs.Loading.{IsLoaded, LoadAnswer}
use Rattle.restore.specs.Faults.{output_fault, load_fault, chunk_fault}
use Rattle.restore.specs.Reads.{Listed, listed_by, ChunkRead, after_chunk, after_chunks, ManifestRead, after_load, after_manifest, after_manifests, text_of}
use Rattle.restore.specs.Copies.{Shelves, StopsAtChunk, StopsInChunks, StopsAtManifest, StreamCopy}
use Rattle.restore.specs.Copies.StopsAtChunk.{not_read, not_added}
use Rattle.restore.specs.Copies.StopsAtManifest.{not_loaded, in_chunks}
use Rattle.restore.specs.Copies.StreamCopy.{not_made, made}
use Rattle.restore.specs.Damage.{GaveBetween, load_read, chunk_read, ShowsDamage, ShowsUnlike}
use Rattle.restore.specs.Damage.ShowsDamage.{in_manifest, in_chunk}

-- ---- the reads so far

gave_none : (shelf : ShelfView) → GaveBetween shelf shelf []
gave_none shelf = none shelf.gave
  where
    none : (told : Option (List Given)) → told ≡ option_map (λ (earlier : List Given). earlier ++ []) told
    none None = refl
    none (Some earlier) = ap Some (sym (append-nil earlier))

gave_then : (a b c : ShelfView) (xs ys : List Given) → GaveBetween a b xs → GaveBetween b c ys → GaveBetween a c (xs ++ ys)
gave_then a b c xs ys first second = second ∙ ap (option_map (λ (earlier : List Given). earlier ++ ys)) first ∙ joined a.gave
  where
    joined : (told : Option (List Given)) → option_map (λ (earlier : List Given). earlier ++ ys) (option_map (λ (earlier : List Given). earlier ++ xs) told) ≡ option_map (λ (earlier : List Given). earlier ++ (xs ++ ys)) told
    joined None = refl
    joined (Some earlier) = ap Some (append_assoc earlier xs ys)

abbrev reads_of : List ChunkRead → List Given
reads_of cs = map (λ (c : ChunkRead). chunk_read c.listed c.bytes) cs

gave_chunks : (shelf : ShelfView) (cs : List ChunkRead) → GaveBetween shelf (after_chunks shelf cs) (reads_of cs)
gave_chunks shelf [] = gave_none shelf
gave_chunks shelf (c ∷ cs) = gave_then shelf (after_chunk shelf c) (after_chunks shelf (c ∷ cs)) (chunk_read c.listed c.bytes ∷ []) (reads_of cs) refl (gave_chunks (after_chunk shelf c) cs)

abbrev reads_of_all : List ManifestRead → List Given
reads_of_all ms = flat_map (λ (m : ManifestRead). load_read m.kept (text_of m) ∷ reads_of m.chunks) ms

gave_manifests : (shelf : ShelfView) (ms : List ManifestRead) → GaveBetween shelf (after_manifests shelf ms) (reads_of_all ms)
gave_manifests shelf [] = gave_none shelf
gave_manifests shelf (m ∷ ms) =
    let mid = after_load shelf m.kept m.manifest in
    gave_then shelf (after_manifest shelf m) (after_manifests shelf (m ∷ ms)) (load_read m.kept (text_of m) ∷ reads_of m.chunks) (reads_of_all ms)
    (gave_then shelf mid (after_manifest shelf m) (load_read m.kept (text_of m) ∷ []) (reads_of m.chunks) refl (gave_chunks mid m.chunks))
    (gave_manifests (after_manifest shelf m) ms)

here : {X : Type 0} (x : X) (ys : List X) → Contains (x ∷ ys) x
here x ys = (zero, omega arith, refl)

behind : {X : Type 0} (xs : List X) (x : X) (ys : List X) → Contains (xs ++ x ∷ ys) x
behind xs x ys = Contains-append_right xs (x ∷ ys) x (here x ys)

-- ---- at a manifest

-- what was read when a load found damage, behind these reads
abbrev Damage : List KeptView → ShelfView → ShelfView → Name → Name → Type 0
Damage kepts before after want got = (reads : List Given) × GaveBetween before after reads × ShowsDamage kepts reads want got

module _ (kepts : List KeptView) (before from after : ShelfView) (reads : List Given) (so_far : GaveBetween before from reads) (kept : KeptView) (among : Contains kepts kept) where
  load_damage : (want got : Name) (why : LoadFault) → Damaged want got ≡ load_fault why → LoadAnswer from after kept (Err why) → Damage kepts before after want got
  load_damage want got load.Shelf is answer = absurd (cc)
  load_damage want got (load.Damaged w g) is answer =
      let same_want : want ≡ w = cc in
      let same_got : got ≡ g = cc in
      let last = load_read kept answer.bytes in (
        reads ++ last ∷ [],
        gave_then before from after reads (last ∷ []) so_far (ap (λ (s : ShelfView). s.gave) answer.given.call),
        in_manifest kept answer.bytes among (same_want ∙ answer.kept_is) (same_got ∙ answer.given_is) (behind reads last []),
      )
  load_damage want got (load.Unlike text) is answer = absurd (cc)
  load_damage want got load.Memory is answer = absurd (cc)

  load_unlike : (text : Name) (why : LoadFault) → Unlike text ≡ load_fault why → LoadAnswer from after kept (Err why) → (all : List Given) × GaveBetween before after all × ShowsUnlike kepts all text
  load_unlike text load.Shelf is answer = absurd (cc)
  load_unlike text (load.Damaged w g) is answer = absurd (cc)
  load_unlike text (load.Unlike t) is answer =
      let same : text ≡ t = cc in
      let last = load_read kept answer.bytes in (
        reads ++ last ∷ [],
        gave_then before from after reads (last ∷ []) so_far (ap (λ (s : ShelfView). s.gave) answer.given.call),
        record { kept = kept; bytes = answer.bytes; among = among; kept_is = same ∙ answer.kept_is; given_is = same ∙ answer.given_is; read = behind reads last [] },
      )
  load_unlike text load.Memory is answer = absurd (cc)

  chunk_damage : (want got : Name) (manifest : Manifest) (listed : Listed) (why : ReadFault)
      → name_of_bytes (text_of (record { kept = kept; manifest = manifest; chunks = [] })) ≡ kept.text → Contains reads (load_read kept (text_of (record { kept = kept; manifest = manifest; chunks = [] }))) → Contains (listed_by manifest) listed
      → Damaged want got ≡ chunk_fault why → ChunkAnswer from after listed.1 listed.0 (Err why) → Damage kepts before after want got
  chunk_damage want got manifest listed chunk.Shelf digest read there is answer = absurd (cc)
  chunk_damage want got manifest listed (chunk.Damaged w g) digest read there is answer =
      let same_want : want ≡ w = cc in
      let same_got : got ≡ g = cc in
      let last = chunk_read listed answer.bytes in (
        reads ++ last ∷ [],
        gave_then before from after reads (last ∷ []) so_far (ap (λ (s : ShelfView). s.gave) answer.given.call),
        in_chunk kept manifest listed answer.bytes among digest (Contains-append_left reads (last ∷ []) _ read) there (same_want ∙ answer.piece_is) (same_got ∙ answer.given_is) (behind reads last []),
      )
  chunk_damage want got manifest listed chunk.Memory digest read there is answer = absurd (cc)

no_output : (want got : Name) (why : Trouble) → Damaged want got ≡ output_fault why → ⊥
no_output want got shelf.Fault is = cc
no_output want got shelf.Memory is = cc

no_unlike_output : (text : Name) (why : Trouble) → Unlike text ≡ output_fault why → ⊥
no_unlike_output text shelf.Fault is = cc
no_unlike_output text shelf.Memory is = cc

no_unlike_chunk : (text : Name) (why : ReadFault) → Unlike text ≡ chunk_fault why → ⊥
no_unlike_chunk text chunk.Shelf is = cc
no_unlike_chunk text (chunk.Damaged want got) is = cc
no_unlike_chunk text chunk.Memory is = cc

-- ---- in a stream

module _ (output : List ℕ) (kepts : List KeptView) (before : ShelfView) (files : ShelfView) (after : Shelves) (from : ShelfView) (reads : List Given) (so_far : GaveBetween before from reads) (kept : KeptView) (among : Contains kepts kept) where
  chunk_stops : (want got : Name) (manifest : Manifest) (f : ShelfView) → IsLoaded from (after_load from kept manifest) kept manifest
      → (stop : StopsInChunks output (record { files = f; depot = after_load from kept manifest }) after (listed_by manifest) (Damaged want got))
      → (why : ReadFault) → Damaged want got ≡ chunk_fault why → ChunkAnswer (after_chunks (after_load from kept manifest) stop.done) after.depot stop.listed.1 stop.listed.0 (Err why) → Damage kepts before after.depot want got
  chunk_stops want got manifest f loaded stop why is answer =
      let mid = after_load from kept manifest in
      let text = text_of (record { kept = kept; manifest = manifest; chunks = [] }) in
      let first = load_read kept text in
      let loads = reads ++ first ∷ [] in
      let more = reads_of stop.done in
      let to_mid : GaveBetween before mid loads = gave_then before from mid reads (first ∷ []) so_far refl in
      let to_chunk = gave_then before mid (after_chunks mid stop.done) loads more to_mid (gave_chunks mid stop.done) in
      let there : Contains (listed_by manifest) stop.listed = subst (λ (l : List Listed). Contains l stop.listed) (sym stop.split) (behind (map (λ (c : ChunkRead). c.listed) stop.done) stop.listed stop.rest) in
      chunk_damage kepts before (after_chunks mid stop.done) after.depot (loads ++ more) to_chunk kept among want got manifest stop.listed why loaded.digest
      (Contains-append_left loads more first (behind reads first [])) there is answer

  in_chunk_stops : (want got : Name) (manifest : Manifest) (f g : ShelfView) → IsLoaded from (after_load from kept manifest) kept manifest
      → (stop : StopsInChunks output (record { files = f; depot = after_load from kept manifest }) after (listed_by manifest) (Damaged want got))
      → StopsAtChunk output (record { files = g; depot = after_chunks (after_load from kept manifest) stop.done }) after stop.listed (Damaged want got) → Damage kepts before after.depot want got
  in_chunk_stops want got manifest f g loaded stop (not_read why is answer same) = chunk_stops want got manifest f loaded stop why is answer
  in_chunk_stops want got manifest f g loaded stop (not_added bytes why is read failed) = absurd (no_output want got why is)

  manifest_damage : (want got : Name) → StopsAtManifest output (record { files = files; depot = from }) after kept (Damaged want got) → Damage kepts before after.depot want got
  manifest_damage want got (not_loaded why is answer same) = load_damage kepts before from after.depot reads so_far kept among want got why is answer
  manifest_damage want got (in_chunks manifest loaded stop) = in_chunk_stops want got manifest files _ loaded stop stop.stops

  no_unlike_stop : (text : Name) (s : Shelves) (listed : Listed) → StopsAtChunk output s after listed (Unlike text) → ⊥
  no_unlike_stop text s listed (not_read why is answer same) = no_unlike_chunk text why is
  no_unlike_stop text s listed (not_added bytes why is read failed) = no_unlike_output text why is

  manifest_unlike : (text : Name) → StopsAtManifest output (record { files = files; depot = from }) after kept (Unlike text) → (all : List Given) × GaveBetween before after.depot all × ShowsUnlike kepts all text
  manifest_unlike text (not_loaded why is answer same) = load_unlike kepts before from after.depot reads so_far kept among text why is answer
  manifest_unlike text (in_chunks manifest loaded stop) = absurd (no_unlike_stop text _ stop.listed stop.stops)

among_kepts : (kepts : List KeptView) (done : List ManifestRead) (kept : KeptView) (rest : List KeptView) → kepts ≡ map (λ (m : ManifestRead). m.kept) done ++ kept ∷ rest → Contains kepts kept
among_kepts kepts done kept rest split = subst (λ (ks : List KeptView). Contains ks kept) (sym split) (behind (map (λ (m : ManifestRead). m.kept) done) kept rest)

abbrev error_of : Result ℕ RestoreFault → RestoreFault → RestoreFault
error_of (Ok count) other = other
error_of (Err fault) other = fault

pub stream_damage : (output : List ℕ) (before after : Shelves) (kepts : List KeptView) (want got : Name) → StreamCopy output before after kepts (Err (Damaged want got)) → Damage kepts before.depot after.depot want got
stream_damage output before after kepts want got (not_made why is failed same) = absurd (no_output want got why (ap (λ (r : Result ℕ RestoreFault). error_of r (Damaged want got)) is))
stream_damage output before after kepts want got (made stop) =
    manifest_damage output kepts before.depot _ after (after_manifests before.depot stop.done) (reads_of_all stop.done) (gave_manifests before.depot stop.done) stop.kept
    (among_kepts kepts stop.done stop.kept stop.rest stop.split) want got stop.stops

pub stream_unlike : (output : List ℕ) (before after : Shelves) (kepts : List KeptView) (text : Name) → StreamCopy output before after kepts (Err (Unlike text)) → (all : List Given) × GaveBetween before.depot after.depot all × ShowsUnlike kepts all text
stream_unlike output before after kepts text (not_made why is failed same) = absurd (no_unlike_output text why (ap (λ (r : Result ℕ RestoreFault). error_of r (Unlike text)) is))
stream_unlike output before after kepts text (made stop) =
    manifest_unlike output kepts before.depot _ after (after_manifests before.depot stop.done) (reads_of_all stop.done) (gave_manifests before.depot stop.done) stop.kept
    (among_kepts kepts stop.done stop.kept stop.rest stop.split) text stop.stops
