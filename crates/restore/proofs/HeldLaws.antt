-- What was read, against what manifests list and what a depot holds.
use Rattle.std.proofs.Common.{◌≡◌, ℕ, ◌*◌, List, [], ◌∷◌, ◌++◌, map, refl, sym, ap, ◌∙◌, subst, Option, Some, IfSome}
use Rattle.std.proofs.lemmas.List.{map-append}
use Rattle.ss_base.specs.declared.object.Object.TheVariants.{Manifest as ManifestObject}
use Rattle.ss_base.specs.ObjectName.{object_text}
use Rattle.chunk_name.specs.Pieces.{name_of_bytes}
use Rattle.outside.specs.Shelf.{Objects, part_of, bytes_of}
use Rattle.outside.specs.Views.{ShelfView, OnlyReads}
use Rattle.restore.specs.Reads.{Listed, listed_by, ChunkRead, after_chunk, after_chunks, AreChunksRead, ManifestRead, after_load, after_manifest, after_manifests, IsManifestRead, AreManifestsRead, bytes_of_chunks, bytes_of_manifests, listed_by_all, text_of, chunk_at, text_at}

-- ---- reads leave what the depot holds

-- no object and no count of faults is other
pub record Unchanged (before after : ShelfView) : Type 0 where
  pub only : OnlyReads before after
  pub faults : after.faults ≡ before.faults

pub unchanged : (shelf : ShelfView) → Unchanged shelf shelf
unchanged shelf = record { only = record { held = refl; wrote = refl; erased = refl }; faults = refl }

pub chunks_unchanged : (shelf : ShelfView) (cs : List ChunkRead) → Unchanged shelf (after_chunks shelf cs)
chunks_unchanged shelf [] = unchanged shelf
chunks_unchanged shelf (c ∷ cs) = let rest = chunks_unchanged (after_chunk shelf c) cs in record { only = record { held = rest.only.held; wrote = rest.only.wrote; erased = rest.only.erased }; faults = rest.faults }

pub manifest_unchanged : (shelf : ShelfView) (m : ManifestRead) → Unchanged shelf (after_manifest shelf m)
manifest_unchanged shelf m = let rest = chunks_unchanged (after_load shelf m.kept m.manifest) m.chunks in record { only = record { held = rest.only.held; wrote = rest.only.wrote; erased = rest.only.erased }; faults = rest.faults }

pub unchanged_then : (a b c : ShelfView) → Unchanged a b → Unchanged b c → Unchanged a c
unchanged_then a b c first second = record {
  only = record { held = second.only.held ∙ first.only.held; wrote = second.only.wrote ∙ first.only.wrote; erased = second.only.erased ∙ first.only.erased };
  faults = second.faults ∙ first.faults;
}

pub manifests_unchanged : (shelf : ShelfView) (ms : List ManifestRead) → Unchanged shelf (after_manifests shelf ms)
manifests_unchanged shelf [] = unchanged shelf
manifests_unchanged shelf (m ∷ ms) = unchanged_then shelf (after_manifest shelf m) _ (manifest_unchanged shelf m) (manifests_unchanged (after_manifest shelf m) ms)

-- ---- names and digests

chunk_names : (shelf : ShelfView) (cs : List ChunkRead) → AreChunksRead shelf cs → map name_of_bytes (bytes_of_chunks cs) ≡ map (λ (l : Listed). l.0.name) (map (λ (c : ChunkRead). c.listed) cs)
chunk_names shelf [] are = refl
chunk_names shelf (c ∷ cs) are = λ i. are.0.name i ∷ chunk_names (after_chunk shelf c) cs are.1 i

pub names_read : (depot : ShelfView) (manifests : List ManifestRead) → AreManifestsRead depot manifests → map name_of_bytes (bytes_of_manifests manifests) ≡ map (λ (l : Listed). l.0.name) (listed_by_all manifests)
names_read depot [] are = refl
names_read depot (m ∷ ms) are =
    let name = λ (l : Listed). l.0.name in
    map-append name_of_bytes (bytes_of_chunks m.chunks) (bytes_of_manifests ms)
    ∙ (λ i. (chunk_names (after_load depot m.kept m.manifest) m.chunks are.0.read ∙ ap (map name) are.0.all) i ++ names_read (after_manifest depot m) ms are.1 i)
    ∙ sym (map-append name (listed_by m.manifest) (listed_by_all ms))

pub digests_read : (depot : ShelfView) (manifests : List ManifestRead) → AreManifestsRead depot manifests → map (λ (m : ManifestRead). name_of_bytes (text_of m)) manifests ≡ map (λ (m : ManifestRead). m.kept.text) manifests
digests_read depot [] are = refl
digests_read depot (m ∷ ms) are = λ i. are.0.loaded.digest i ∷ digests_read (after_manifest depot m) ms are.1 i

-- ---- bytes that are held

pub told : (held : Option Objects) (objects : Objects) (name bytes : List ℕ) (at max : ℕ) → held ≡ Some objects → IfSome held (λ o. bytes ≡ part_of (bytes_of o name) at max) → bytes ≡ part_of (bytes_of objects name) at max
told held objects name bytes at max is given = subst (λ (h : Option Objects). IfSome h (λ o. bytes ≡ part_of (bytes_of o name) at max)) is given

pub chunk_bytes : (shelf : ShelfView) (objects : Objects) (cs : List ChunkRead) → AreChunksRead shelf cs → shelf.held ≡ Some objects → bytes_of_chunks cs ≡ map (chunk_at objects) (map (λ (c : ChunkRead). c.listed) cs)
chunk_bytes shelf objects [] are is = refl
chunk_bytes shelf objects (c ∷ cs) are is = λ i. told shelf.held objects _ c.bytes _ _ is are.0.given.told i ∷ chunk_bytes (after_chunk shelf c) objects cs are.1 is i

-- of one manifest
pub manifest_bytes : (depot : ShelfView) (objects : Objects) (m : ManifestRead) → IsManifestRead depot m → depot.held ≡ Some objects → bytes_of_chunks m.chunks ≡ map (chunk_at objects) (listed_by m.manifest)
manifest_bytes depot objects m is held = chunk_bytes (after_load depot m.kept m.manifest) objects m.chunks is.read held ∙ ap (map (chunk_at objects)) is.all

pub chunks_held : (depot : ShelfView) (objects : Objects) (manifests : List ManifestRead) → AreManifestsRead depot manifests → depot.held ≡ Some objects → bytes_of_manifests manifests ≡ map (chunk_at objects) (listed_by_all manifests)
chunks_held depot objects [] are is = refl
chunks_held depot objects (m ∷ ms) are is =
    (λ i. manifest_bytes depot objects m are.0 is i
    ++ chunks_held (after_manifest depot m) objects ms are.1 ((manifest_unchanged depot m).only.held ∙ is) i)
    ∙ sym (map-append (chunk_at objects) (listed_by m.manifest) (listed_by_all ms))

pub texts_held : (depot : ShelfView) (objects : Objects) (manifests : List ManifestRead) → AreManifestsRead depot manifests → depot.held ≡ Some objects → map text_of manifests ≡ map (λ (m : ManifestRead). text_at objects m.kept) manifests
texts_held depot objects [] are is = refl
texts_held depot objects (m ∷ ms) are is =
    λ i. told depot.held objects (object_text (ManifestObject m.kept.id)) (text_of m) 0 (48 * m.kept.chunks) is are.0.loaded.given.told i ∷ texts_held (after_manifest depot m) objects ms are.1 ((manifest_unchanged depot m).only.held ∙ is) i
