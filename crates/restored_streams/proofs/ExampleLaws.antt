-- The example of a restore meets all that the law of what was read asks for.
use Rattle.std.proofs.Common.{◌≡◌, ℕ, true, List, [], ◌∷◌, ◌++◌, length, refl, sym, ap, subst, inl, inr, arith}
use Rattle.std.specs.List.{All, zip}
use Rattle.std.specs.List.Sorted.{IsStrictlySortedBy}
use Rattle.std.proofs.lemmas.List.{append-nil}
use Rattle.std.proofs.lemmas.List.Elements.{All-tail}
use Rattle.ss_base.specs.declared.ids.Place.{Place}
use Rattle.ss_base.specs.declared.name.Piece.{Piece}
use Rattle.ss_base.specs.declared.profile.Numbers.{Numbers}
use Rattle.ss_base.specs.declared.profile.Profile.{Profile}
use Rattle.ss_base.specs.Profile.{numbers_of}
use Rattle.ss_base.proofs.MemberLaws.{In, All-from_in}
use Rattle.ss_base.proofs.SoundLaws.{AreSound-numbers_of}
use Rattle.chunk_name.specs.Pieces.{piece, name_of_bytes, HasChunkLen}
use Rattle.chunk_name.proofs.NameLaws.{length-name_of_bytes}
use Rattle.manifest_codec.specs.declared.manifest.Manifest.{Manifest}
use Rattle.manifest_codec.specs.PiecesPart.{pieces_part}
use Rattle.manifest_codec.specs.Text.{manifest_text, IsPlace, AreManifest}
use Rattle.manifest_codec.specs.Containers.{AreContainers}
use Rattle.manifest_codec.proofs.TextLaws.{length-manifest_text}
use Rattle.journal_entry.specs.declared.entry.Entry.{Entry}
use Rattle.journal_entry.specs.Bounds.{IsEntry}
use Rattle.history.specs.declared.rules.Rules.{Rules}
use Rattle.history.specs.Sessions.{has, commits, finishes, deletes, is_retained}
use Rattle.history.specs.Legal.{is_legal}
use Rattle.history_laws.specs.EntryNumbers.{numbers_of as entry_numbers, entry_at}
use Rattle.history_laws.proofs.Allowed.{step}
use Rattle.store_core.specs.View.{kept_by, kept_at, stream_kept}
use Rattle.restore.specs.Reads.{IsManifestRead}
use Rattle.stored_streams.specs.Streams.{manifest_chunks, manifest_pieces}
use Rattle.stored_streams.specs.SecondBackup.{IsOneHook, rules_for, each_time, manifest_of, first_container, the_place, second_backup, first_backup}
use Rattle.stored_streams.proofs.SegmentLaws.{pieces_sized}
use Rattle.stored_streams.proofs.SecondBackupLaws.{all_asked}
use Rattle.restored_streams.specs.Example.{unread, view_kept, reading, given_for, IsRestorable}

older : (rules : Rules) (newer past : List Entry) → is_legal rules (newer ++ past) ≡ true → is_legal rules past ≡ true
older rules [] past legal = legal
older rules (entry ∷ newer) past legal = older rules newer past (step rules entry (newer ++ past) legal).legal

older_entries : (newer past : List Entry) → All IsEntry (newer ++ past) → All IsEntry past
older_entries [] past all = all
older_entries (entry ∷ newer) past all = older_entries newer past (All-tail IsEntry entry (newer ++ past) all)

still_retained : (bytes : List ℕ) → is_retained 0 (first_backup bytes) ≡ true
unfolding is_retained has finishes deletes
still_retained bytes = refl

kept_are : (bytes : List ℕ) → view_kept bytes ∷ [] ≡ stream_kept 0 (first_backup bytes)
unfolding entry_numbers entry_at commits kept_at kept_by
kept_are bytes = refl

only_one : {X : Type 0} (P : X → Type 0) (x : X) → P x → (y : X) → In y (x ∷ []) → P y
only_one P x here y h = elim h [
  | inl is ↦ subst P is here
  | inr none ↦ absurd none
]

pieces_are : (n : Numbers) (bytes : List ℕ) → IsOneHook n bytes → manifest_pieces n (each_time bytes) (manifest_of 0) ≡ piece bytes ∷ []
unfolding manifest_pieces manifest_chunks
pieces_are n bytes is = let alone = is.alone in rw alone refl

one_manifest : (bytes : List ℕ) → HasChunkLen (piece bytes) → AreManifest (piece bytes ∷ []) (the_place ∷ [])
one_manifest bytes sized = record {
  listed = record { some = omega arith; bounded = omega arith; lengths = All-from_in HasChunkLen (piece bytes ∷ []) (only_one HasChunkLen (piece bytes) sized); located = refl };
  names = All-from_in (λ (p : Piece). length p.name.0 ≡ 32) (piece bytes ∷ []) (only_one (λ (p : Piece). length p.name.0 ≡ 32) (piece bytes) (length-name_of_bytes bytes));
  numbers = All-from_in IsPlace (the_place ∷ []) (only_one IsPlace the_place (record { session = omega arith; ordinal = omega arith; offset = omega arith }));
}

one_container : AreContainers (the_place ∷ []) (first_container ∷ [])
unfolding IsStrictlySortedBy
one_container = record { ascending = (tt, tt); each = λ id h. h; only = λ id h. h }

is_read : (bytes : List ℕ) (manifest : Manifest) → HasChunkLen (piece bytes) → manifest.pieces.items ≡ piece bytes ∷ [] → manifest.places.items ≡ the_place ∷ [] → IsManifestRead unread (reading bytes manifest)
is_read bytes manifest sized pieces places =
    let both = λ (P : List Piece → List Place → Type 0) (p : P (piece bytes ∷ []) (the_place ∷ [])).
    subst (λ (qs : List Place). P manifest.pieces.items qs) (sym places) (subst (λ (ps : List Piece). P ps (the_place ∷ [])) (sym pieces) p) in
    let are : AreManifest manifest.pieces.items manifest.places.items = both AreManifest (one_manifest bytes sized) in
    let count : length manifest.pieces.items ≡ 1 = ap length pieces in
    let long = length-manifest_text manifest.pieces.items manifest.places.items are in
    record {
      loaded = record {
        given = record { most = omega (arith, long, count); told = tt; call = refl };
        digest = λ i. name_of_bytes (manifest_text (pieces i) (places i));
        like = record {
          manifest = are;
          content = ap (λ (ps : List Piece). name_of_bytes (pieces_part ps)) pieces;
          chunks = count;
          uses = subst (λ (qs : List Place). AreContainers qs (first_container ∷ [])) (sym places) one_container;
        };
      };
      all = sym (λ i. zip (pieces i) (places i));
      read = (record { given = record { most = omega arith; told = tt; call = refl }; name = refl }, tt);
    }

pub is_restorable : (profile : Profile) (bytes : List ℕ) (manifest : Manifest) → IsOneHook (numbers_of profile) bytes → manifest.pieces.items ≡ piece bytes ∷ [] → manifest.places.items ≡ the_place ∷ [] → IsRestorable (numbers_of profile) bytes manifest
is_restorable profile bytes manifest is pieces places =
    let n = numbers_of profile in
    let asked = all_asked profile bytes is in
    let sized = subst (λ (ps : List Piece). All HasChunkLen ps) (pieces_are n bytes is) (pieces_sized n (each_time bytes) (manifest_of 0) (AreSound-numbers_of profile)) in
    record {
      legal = older (rules_for n) (second_backup bytes) (first_backup bytes) asked.legal;
      entries = older_entries (second_backup bytes) (first_backup bytes) asked.entries;
      of_streams = asked.of_streams;
      retained = still_retained bytes;
      read = (is_read bytes manifest (sized 0 (piece bytes) (omega arith)) pieces places, tt);
      kepts = kept_are bytes;
      told = record { earlier = []; between = given_for bytes manifest; was = refl; is = refl; among = λ read h. h };
      gives = append-nil bytes;
    }
