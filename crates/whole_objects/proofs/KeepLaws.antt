-- Objects that are whole stay so where all that the history wants is kept.
use Rattle.std.proofs.Common.{◌≡◌, ℕ, zero, suc, true, List, ◌++◌, length, take, drop, refl, sym, ap, ◌∙◌, subst, append_assoc, arith}
use mathlib.Core.List.{map}
use Rattle.std.specs.List.{All}
use Rattle.std.proofs.lemmas.Bool.{or_left}
use Rattle.std.proofs.lemmas.List.{length-take, length-drop, take-append-le, drop-append-le}
use Rattle.ss_base.specs.declared.ids.ContainerId.{ContainerId}
use Rattle.ss_base.specs.declared.ids.ManifestId.{ManifestId}
use Rattle.ss_base.specs.declared.ids.Place.{Place}
use Rattle.ss_base.specs.declared.name.Piece.{Piece}
use Rattle.ss_base.specs.declared.object.Object.TheVariants.{Container, Manifest}
use Rattle.ss_base.specs.declared.profile.Numbers.{Numbers}
use Rattle.ss_base.specs.ObjectName.{object_text}
use Rattle.ss_base.specs.Profile.{AreSound}
use Rattle.ss_base.proofs.MemberLaws.{In}
use Rattle.ss_base.proofs.GetLaws.{get_in}
use Rattle.container_file.specs.Layout.{laid_in}
use Rattle.container_file.specs.Text.{container_text}
use Rattle.outside.specs.Shelf.{Objects, bytes_of, part_of}
use Rattle.journal_entry.specs.declared.entry.Entry.{Entry}
use Rattle.journal_entry.specs.Bounds.{IsEntry}
use Rattle.history.specs.declared.rules.Rules.{Rules}
use Rattle.history.specs.Sessions.{has, is_unfinished}
use Rattle.history.specs.Need.{uses_live, is_needed}
use Rattle.history.specs.Legal.{is_legal}
use Rattle.stored_streams.specs.Streams.{Streams}
use Rattle.stored_streams.specs.Plans.{planned_places, laid_of, plans_of, containers_of}
use Rattle.stored_streams.specs.OfStreams.{IsOfStreams}
use Rattle.stored_streams.specs.Whole.{IsChunkWith, IsManifestWhole, HasRecords, IsWhole}
use Rattle.whole_objects.specs.Keeps.{GoesOn, KeepsWanted}
use Rattle.whole_objects.proofs.WantedLaws.{place_laid, place_needed}

-- a part that is there whole is the same where more bytes follow
part_kept : (bytes more : List ℕ) (at max : ℕ) → length (part_of bytes at max) ≡ max → part_of (bytes ++ more) at max ≡ part_of bytes at max
part_kept bytes more at zero there = refl
part_kept bytes more at (suc max) there =
    let taken = length-take (suc max) (drop at bytes) in
    let left = length-drop at bytes in
    ap (take (suc max)) (drop-append-le at bytes more (omega (arith, there, taken, left)))
    ∙ take-append-le (suc max) (drop at bytes) more (omega (arith, there, taken))

manifest_kept : (n : Numbers) (streams : Streams) (past : List Entry) (objects now : Objects) (id : ManifestId) → ((q : Place) → In q (planned_places id (plans_of n streams past)) → GoesOn (bytes_of objects (object_text (Container q.container))) (bytes_of now (object_text (Container q.container)))) → bytes_of now (object_text (Manifest id)) ≡ bytes_of objects (object_text (Manifest id)) → IsManifestWhole n streams past objects id → IsManifestWhole n streams past now id
manifest_kept n streams past objects now id goes same is = record {
  text = same ∙ is.text;
  chunks = λ k p place piece_there place_there.
      let chunk = is.chunks k p place piece_there place_there in
      let on = goes place (get_in place (planned_places id (plans_of n streams past)) k place_there) in
      let size = ap (λ (q : Piece). q.len) chunk.piece_is in
      let held = bytes_of objects (object_text (Container place.container)) in
      let after = ap (λ (bytes : List ℕ). part_of bytes place.offset p.len) on.1 ∙ part_kept held on.0 place.offset p.len size in
      subst (λ (bytes : List ℕ). IsChunkWith n streams past p bytes) (sym after) chunk;
}

records_kept : (n : Numbers) (streams : Streams) (past : List Entry) (objects now : Objects) (id : ContainerId) → GoesOn (bytes_of objects (object_text (Container id))) (bytes_of now (object_text (Container id))) → HasRecords n streams past objects id → HasRecords n streams past now id
records_kept n streams past objects now id on has =
    let text = container_text id (map (λ l. l.chunk) (laid_in id.ordinal (laid_of id.session (plans_of n streams past)))) in
    record {
      rest = has.rest ++ on.0;
      begins = on.1 ∙ ap (λ (bytes : List ℕ). bytes ++ on.0) has.begins ∙ append_assoc text has.rest on.0;
    }

pub whole_kept : (n : Numbers) (streams : Streams) (rules : Rules) (past : List Entry) (objects now : Objects) → AreSound n → is_legal rules past ≡ true → All IsEntry past → IsOfStreams n streams past → IsWhole n streams past objects → KeepsWanted n streams past objects now → IsWhole n streams past now
unfolding is_needed containers_of
whole_kept n streams rules past objects now sound legal entries is whole keeps = record {
  manifests = λ id live. manifest_kept n streams past objects now id
      (λ q h. keeps.containers q.container
      (place_needed n streams past id q is.stored.stored live h)
      (place_laid n streams rules past id q sound legal entries is.contents.contents is.stored.stored h))
      (keeps.manifests id live) (whole.manifests id live);
  containers = λ id unfinished below. records_kept n streams past objects now id
      (keeps.containers id (or_left (is_unfinished id.session past) (has (uses_live id past) past) unfinished) below)
      (whole.containers id unfinished below);
}
