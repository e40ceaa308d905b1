-- Whole objects show no damage.
use Rattle.std.proofs.Common.{◌≡◌, ℕ, zero, suc, ◌*◌, true, List, [], ◌∷◌, length, slice_get, map, Some, refl, sym, ap, ◌∙◌, subst, inl, inr}
use Rattle.std.specs.Prelude.{Err}
use Rattle.std.specs.List.{zip}
use Rattle.std.proofs.lemmas.List.{length-map}
use Rattle.ss_base.specs.declared.ids.ManifestId.{ManifestId}
use Rattle.ss_base.specs.declared.ids.Place.{Place}
use Rattle.ss_base.specs.declared.name.Piece.{Piece}
use Rattle.ss_base.specs.declared.object.Object.TheVariants.{Container, Manifest as ManifestObject}
use Rattle.ss_base.specs.declared.profile.Numbers.{Numbers}
use Rattle.ss_base.specs.ObjectName.{object_text}
use Rattle.ss_base.proofs.MemberLaws.{In, in_append_right}
use Rattle.chunk_name.specs.Pieces.{name_of_bytes}
use Rattle.manifest_codec.specs.declared.manifest.Manifest.{Manifest}
use Rattle.manifest_codec.specs.Text.{manifest_text}
use Rattle.manifest_codec.proofs.TextLaws as text
use Rattle.journal_entry.specs.declared.entry.Entry.{Entry}
use Rattle.history.specs.declared.rules.Rules.{Rules}
use Rattle.history.specs.Sessions.{is_retained}
use Rattle.store_core.specs.declared.fault.NameFault.{NameFault}
use Rattle.store_core.specs.declared.fault.NameFault.TheVariants as name
use Rattle.store_core.specs.View.{KeptView, stream_kept}
use Rattle.outside.specs.Shelf.{Objects}
use Rattle.outside.specs.Views.{ShelfView}
use Rattle.outside.specs.declared.trouble.Trouble.{Trouble}
use Rattle.outside.specs.declared.trouble.Trouble.TheVariants as shelf
use Rattle.depot.specs.declared.fault.LoadFault.{LoadFault}
use Rattle.depot.specs.declared.fault.LoadFault.TheVariants as load
use Rattle.depot.specs.declared.fault.ReadFault.{ReadFault}
use Rattle.depot.specs.declared.fault.ReadFault.TheVariants as chunk
use Rattle.depot.specs.declared.fault.RestoreFault.{RestoreFault}
use Rattle.depot.specs.Chunks.{ChunkAnswer}
use Rattle.depot.specs.Loading.{IsLike, IsLoaded, LoadAnswer}
use Rattle.stored_streams.specs.Streams.{Streams, manifest_pieces}
use Rattle.stored_streams.specs.Plans.{planned_places, plans_of, text_of as planned_text}
use Rattle.stored_streams.specs.Whole.{IsManifestWhole, IsWhole}
use Rattle.stored_streams.proofs.CommittedLaws.{committed_kept, committed_manifest, kept_counts, kept_stored}
use Rattle.restore.specs.Faults.{output_fault, look_fault, load_fault, chunk_fault}
use Rattle.restore.specs.Reads.{Listed, listed_by, ChunkRead, ManifestRead, after_load, chunk_at, text_at, text_of}
use Rattle.restore.specs.Copies.{Shelves, StopsAtChunk, StopsAtManifest, StreamCopy}
use Rattle.restore.specs.Copies.StopsAtChunk.{not_read, not_added}
use Rattle.restore.specs.Copies.StopsAtManifest.{not_loaded, in_chunks}
use Rattle.restore.specs.Copies.StreamCopy.{not_made, made}
use Rattle.restore.proofs.HeldLaws.{told, chunks_unchanged, manifests_unchanged}
use Rattle.restored_streams.specs.Restored.{TellsNoDamage}
use Rattle.restored_streams.proofs.KeptLaws.{manifest_at, IsKeptAt, row_at}
use Rattle.restored_streams.proofs.StreamLaws.{IsKnown, text_planned}
use Rattle.restored_streams.proofs.WholeLaws.{retained_live, text_at_planned}
use Rattle.restored_streams.proofs.FrontLaws.{get_next}

-- ---- the planned text

planned_is : (n : Numbers) (streams : Streams) (past : List Entry) (id : ManifestId) → planned_text n streams id past ≡ manifest_text (manifest_pieces n streams id) (planned_places id (plans_of n streams past))
unfolding planned_text
planned_is n streams past id = refl

zip_at : (l : Listed) (ps : List Piece) (qs : List Place) → In l (zip ps qs) → (k : ℕ) × (slice_get ps k ≡ Some l.0) × (slice_get qs k ≡ Some l.1)
zip_at l [] qs h = absurd h
zip_at l (p ∷ ps) [] h = absurd h
zip_at l (p ∷ ps) (q ∷ qs) (inl is) = (zero, ap (λ (x : Listed). Some x.0) is, ap (λ (x : Listed). Some x.1) is)
zip_at l (p ∷ ps) (q ∷ qs) (inr later) = let at = zip_at l ps qs later in (suc at.0, at.1, at.2)

-- ---- faults that tell of no damage

pub output_tells : (why : Trouble) → TellsNoDamage (output_fault why)
output_tells shelf.Fault = tt
output_tells shelf.Memory = tt

pub look_tells : (why : NameFault) → TellsNoDamage (look_fault why)
look_tells name.NoStream = tt
look_tells name.Full = tt
look_tells name.Memory = tt

-- ---- a manifest of a retained session, in whole objects

module _ (n : Numbers) (streams : Streams) (rules : Rules) (past : List Entry) (objects : Objects) (s : ℕ) (known : IsKnown n streams rules past) (whole : IsWhole n streams past objects) (retained : is_retained s past ≡ true) where
  -- what its Commit kept is like what was planned, and its text has the digest that was kept
  record IsRight (q : ℕ) (view : KeptView) : Type 0 where
    pub like : IsLike view (manifest_pieces n streams (manifest_at s q)) (planned_places (manifest_at s q) (plans_of n streams past))
    pub digest : view.text ≡ name_of_bytes (text_at objects view)
    pub text : text_at objects view ≡ planned_text n streams (manifest_at s q) past
    pub there : IsManifestWhole n streams past objects (manifest_at s q)

  is_right : (q : ℕ) (view : KeptView) → IsKeptAt past (manifest_at s q) view → IsRight q view
  is_right q view at =
      let id = manifest_at s q in
      let is = committed_kept n streams rules past id known.sound known.legal known.entries known.of_streams.contents.contents known.of_streams.stored.stored at.committed in
      let stored = kept_stored n streams past id view known.of_streams.contents.contents known.of_streams.stored.stored at.committed at.is in
      let both : Some view ≡ Some is.view = sym at.is ∙ is.kept_is in
      let same : view ≡ is.view = cc in
      let held = text_at_planned n streams rules past objects s q view known whole retained at in
      record {
        like = record {
          manifest = committed_manifest n streams past id known.sound is;
          content = sym stored.content;
          chunks = sym (kept_counts n streams past id view known.of_streams.contents.contents at.committed at.is);
          uses = stored.uses;
        };
        digest = ap (λ (v : KeptView). v.text) same ∙ is.digest ∙ ap name_of_bytes (sym held);
        text = held;
        there = whole.manifests id (retained_live past id at.committed retained);
      }

  load_fine : (q : ℕ) (view : KeptView) (depot after : ShelfView) (why : LoadFault) → IsRight q view → depot.held ≡ Some objects → LoadAnswer depot after view (Err why) → TellsNoDamage (load_fault why)
  load_fine q view depot after load.Shelf right held answer = tt
  load_fine q view depot after (load.Damaged want got) right held answer =
      let bytes = told depot.held objects (object_text (ManifestObject view.id)) answer.bytes 0 (48 * view.chunks) held answer.given.told in
      answer.differ (answer.kept_is ∙ right.digest ∙ ap name_of_bytes (sym bytes) ∙ sym answer.given_is)
  load_fine q view depot after (load.Unlike text) right held answer =
      let bytes = told depot.held objects (object_text (ManifestObject view.id)) answer.bytes 0 (48 * view.chunks) held answer.given.told in
      answer.none (manifest_pieces n streams (manifest_at s q)) (planned_places (manifest_at s q) (plans_of n streams past)) right.like
      (sym (planned_is n streams past (manifest_at s q)) ∙ sym right.text ∙ sym bytes)
  load_fine q view depot after load.Memory right held answer = tt

  chunk_fine : (q : ℕ) (view : KeptView) (manifest : Manifest) (from depot after : ShelfView) (listed : Listed) (why : ReadFault) → IsRight q view → from.held ≡ Some objects → IsLoaded from (after_load from view manifest) view manifest → In listed (listed_by manifest) → depot.held ≡ Some objects → ChunkAnswer depot after listed.1 listed.0 (Err why) → TellsNoDamage (chunk_fault why)
  chunk_fine q view manifest from depot after listed chunk.Shelf right from_held loaded there held answer = tt
  chunk_fine q view manifest from depot after listed (chunk.Damaged want got) right from_held loaded there held answer =
      let id = manifest_at s q in
      let m : ManifestRead = record { kept = view; manifest = manifest; chunks = [] } in
      let text_is : text_of m ≡ planned_text n streams id past = told from.held objects (object_text (ManifestObject view.id)) (text_of m) 0 (48 * view.chunks) from_held loaded.given.told ∙ right.text in
      let both = text.same_manifest manifest.pieces.items (manifest_pieces n streams id) manifest.places.items (planned_places id (plans_of n streams past)) loaded.like.manifest right.like.manifest (text_planned n streams past id m text_is) in
      let at = zip_at listed manifest.pieces.items manifest.places.items there in
      let one = right.there.chunks at.0 listed.0 listed.1 (subst (λ (ps : List Piece). slice_get ps at.0 ≡ Some listed.0) both.0 at.1) (subst (λ (ps : List Place). slice_get ps at.0 ≡ Some listed.1) both.1 at.2) in
      let bytes : answer.bytes ≡ chunk_at objects listed = told depot.held objects (object_text (Container listed.1.container)) answer.bytes listed.1.offset listed.0.len held answer.given.told in
      let named : name_of_bytes (chunk_at objects listed) ≡ listed.0.name = ap (λ (p : Piece). p.name) one.piece_is in
      answer.differ (answer.piece_is ∙ sym named ∙ ap name_of_bytes (sym bytes) ∙ sym answer.given_is)
  chunk_fine q view manifest from depot after listed chunk.Memory right from_held loaded there held answer = tt

  at_chunk_fine : (q : ℕ) (view : KeptView) (manifest : Manifest) (from : ShelfView) (output : List ℕ) (before after : Shelves) (listed : Listed) (fault : RestoreFault) → IsRight q view → from.held ≡ Some objects → IsLoaded from (after_load from view manifest) view manifest → In listed (listed_by manifest) → before.depot.held ≡ Some objects → StopsAtChunk output before after listed fault → TellsNoDamage fault
  at_chunk_fine q view manifest from output before after listed fault right from_held loaded there held (not_read why is answer same) =
      subst TellsNoDamage (sym is) (chunk_fine q view manifest from before.depot after.depot listed why right from_held loaded there held answer)
  at_chunk_fine q view manifest from output before after listed fault right from_held loaded there held (not_added bytes why is read failed) = subst TellsNoDamage (sym is) (output_tells why)

  at_manifest_fine : (q : ℕ) (view : KeptView) (output : List ℕ) (before after : Shelves) (fault : RestoreFault) → IsRight q view → before.depot.held ≡ Some objects → StopsAtManifest output before after view fault → TellsNoDamage fault
  at_manifest_fine q view output before after fault right held (not_loaded why is answer same) = subst TellsNoDamage (sym is) (load_fine q view before.depot after.depot why right held answer)
  at_manifest_fine q view output before after fault right held (in_chunks manifest loaded stop) =
      let mid = after_load before.depot view manifest in
      let there : In stop.listed (listed_by manifest) = subst (λ (l : List Listed). In stop.listed l) (sym stop.split) (in_append_right stop.listed (map (λ (c : ChunkRead). c.listed) stop.done) (stop.listed ∷ stop.rest) (inl refl)) in
      at_chunk_fine q view manifest before.depot output _ after stop.listed fault right held loaded there ((chunks_unchanged mid stop.done).only.held ∙ held) stop.stops

  copy_fine : (output : List ℕ) (before after : Shelves) (fault : RestoreFault) → before.depot.held ≡ Some objects → StreamCopy output before after (stream_kept s past) (Err fault) → TellsNoDamage fault
  copy_fine output before after fault held (not_made why is failed same) = let equal : fault ≡ output_fault why = cc in subst TellsNoDamage (sym equal) (output_tells why)
  copy_fine output before after fault held (made stop) =
      let q = length stop.done in
      let kepts = map (λ (m : ManifestRead). m.kept) stop.done in
      let there : slice_get (stream_kept s past) q ≡ Some stop.kept = ap (λ (l : List KeptView). slice_get l q) stop.split ∙ get_next kepts stop.kept stop.rest q (sym (length-map stop.done (λ (m : ManifestRead). m.kept))) in
      at_manifest_fine q stop.kept output _ after fault (is_right q stop.kept (row_at rules s past q stop.kept known.legal there))
      ((manifests_unchanged before.depot stop.done).only.held ∙ held) stop.stops

pub no_damage : (n : Numbers) (streams : Streams) (rules : Rules) (past : List Entry) (s : ℕ) (objects : Objects) (output : List ℕ) (before after : Shelves) (fault : RestoreFault) → IsKnown n streams rules past → IsWhole n streams past objects → is_retained s past ≡ true → StreamCopy output before after (stream_kept s past) (Err fault) → before.depot.held ≡ Some objects → TellsNoDamage fault
no_damage n streams rules past s objects output before after fault known whole retained copy held = copy_fine n streams rules past objects s known whole retained output before after fault held copy
