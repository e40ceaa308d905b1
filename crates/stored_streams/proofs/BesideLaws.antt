-- Objects that are whole stay so beside a new one.
use Rattle.std.proofs.Common.{◌≡◌, ◌≢◌, ℕ, ◌<◌, true, List, [], length, drop, None, sym, ap, ◌∙◌, subst, arith}
use Rattle.std.specs.FinMap as map
use Rattle.std.specs.Option.{unwrap_or}
use Rattle.std.specs.List.{All}
use Rattle.std.proofs.lemmas.Bool.{and_parts}
use Rattle.std.proofs.lemmas.List.{length-take, length-drop}
use Rattle.ss_base.specs.declared.ids.ContainerId.{ContainerId}
use Rattle.ss_base.specs.declared.ids.ManifestId.{ManifestId}
use Rattle.ss_base.specs.declared.profile.Numbers.{Numbers}
use Rattle.ss_base.specs.Profile.{AreSound}
use Rattle.ss_base.proofs.MemberLaws.{in_Contains}
use Rattle.manifest_codec.proofs.TextLaws.{length-manifest_text}
use Rattle.outside.specs.Shelf.{Objects, bytes_of, part_of}
use Rattle.outside.proofs.ObjectLaws.{bytes_of-insert_other}
use Rattle.journal_entry.specs.declared.entry.Entry.{Entry}
use Rattle.journal_entry.specs.Bounds.{IsEntry}
use Rattle.history.specs.declared.rules.Rules.{Rules}
use Rattle.history.specs.Need.{is_live}
use Rattle.history.specs.Legal.{is_legal}
use Rattle.stored_streams.specs.Streams.{Streams, manifest_chunks, manifest_pieces}
use Rattle.stored_streams.specs.Plans.{planned_places, plans_of, text_of}
use Rattle.stored_streams.specs.OfStreams.{IsOfStreams}
use Rattle.stored_streams.specs.Whole.{IsChunkWith, IsManifestWhole, HasRecords, IsWhole}
use Rattle.stored_streams.proofs.SegmentLaws.{chunk_sized}
use Rattle.stored_streams.proofs.CommittedLaws.{committed_kept, committed_manifest}

-- an object that has bytes is there, and is as before beside one that was not
bytes_beside : (objects : Objects) (name bytes q : List ℕ) → map.get objects name ≡ None → bytes_of objects q ≢ [] → bytes_of (map.insert objects name bytes) q ≡ bytes_of objects q
bytes_beside objects name bytes q none some =
    bytes_of-insert_other objects name bytes q (λ same. some (ap (bytes_of objects) same ∙ ap (λ o. unwrap_or o []) none))

no_part : (bytes : List ℕ) (at max : ℕ) → 0 < length (part_of bytes at max) → bytes ≢ []
no_part bytes at max some none =
    let taken = length-take max (drop at bytes) in
    let left = length-drop at bytes in
    let empty = ap (λ (l : List ℕ). length l) none in
    omega (arith, some, taken, left, empty)

some_bytes : (bytes : List ℕ) → 0 < length bytes → bytes ≢ []
some_bytes bytes some none = let empty = ap (λ (l : List ℕ). length l) none in omega (arith, some, empty)

manifest_beside : (n : Numbers) (streams : Streams) (past : List Entry) (objects : Objects) (name bytes : List ℕ) (id : ManifestId) → AreSound n → 0 < length (text_of n streams id past) → map.get objects name ≡ None → IsManifestWhole n streams past objects id → IsManifestWhole n streams past (map.insert objects name bytes) id
manifest_beside n streams past objects name bytes id sound some none is = record {
  text = bytes_beside objects name bytes _ none (λ empty. some_bytes (text_of n streams id past) some (sym is.text ∙ empty)) ∙ is.text;
  chunks = λ k p place piece_there place_there.
      let chunk = is.chunks k p place piece_there place_there in
      let sized = chunk_sized n streams chunk.id _ sound (in_Contains _ (manifest_chunks n streams chunk.id) chunk.chunk) in
      subst (λ (held : List ℕ). IsChunkWith n streams past p (part_of held place.offset p.len))
      (sym (bytes_beside objects name bytes _ none (no_part _ place.offset p.len sized.0))) chunk;
}

records_beside : (n : Numbers) (streams : Streams) (past : List Entry) (objects : Objects) (name bytes : List ℕ) (id : ContainerId) → map.get objects name ≡ None → HasRecords n streams past objects id → HasRecords n streams past (map.insert objects name bytes) id
records_beside n streams past objects name bytes id none has = record {
  rest = has.rest;
  begins = bytes_beside objects name bytes _ none (λ empty. let none_left = ap (λ (l : List ℕ). length l) (sym has.begins ∙ empty) in omega (arith, none_left)) ∙ has.begins;
}

beside : (n : Numbers) (streams : Streams) (past : List Entry) (objects : Objects) (name bytes : List ℕ) → AreSound n → ((id : ManifestId) → is_live id past ≡ true → 0 < length (text_of n streams id past)) → map.get objects name ≡ None → IsWhole n streams past objects → IsWhole n streams past (map.insert objects name bytes)
beside n streams past objects name bytes sound texts none is = record {
  manifests = λ id live. manifest_beside n streams past objects name bytes id sound (texts id live) none (is.manifests id live);
  containers = λ id unfinished below. records_beside n streams past objects name bytes id none (is.containers id unfinished below);
}

-- the text of a live manifest has bytes
text_some : (n : Numbers) (streams : Streams) (rules : Rules) (past : List Entry) (id : ManifestId) → AreSound n → is_legal rules past ≡ true → All IsEntry past → IsOfStreams n streams past → is_live id past ≡ true → 0 < length (text_of n streams id past)
unfolding is_live text_of
text_some n streams rules past id sound legal entries is live =
    let kept = committed_kept n streams rules past id sound legal entries is.contents.contents is.stored.stored (and_parts _ _ live).0 in
    let some = kept.some in
    let count = length-manifest_text (manifest_pieces n streams id) (planned_places id (plans_of n streams past)) (committed_manifest n streams past id sound kept) in
    omega (arith, some, count)

pub whole_beside : (n : Numbers) (streams : Streams) (rules : Rules) (past : List Entry) (objects : Objects) (name bytes : List ℕ) → AreSound n → is_legal rules past ≡ true → All IsEntry past → IsOfStreams n streams past → IsWhole n streams past objects → map.get objects name ≡ None → IsWhole n streams past (map.insert objects name bytes)
whole_beside n streams rules past objects name bytes sound legal entries is whole none =
    beside n streams past objects name bytes sound (λ id live. text_some n streams rules past id sound legal entries is live) none whole
