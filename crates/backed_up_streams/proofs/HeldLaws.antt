-- A depot that tells its objects.
use Rattle.std.proofs.Common.{◌≡◌, ◌≢◌, ℕ, ◌==◌, ◌*◌, ◌≤◌, true, false, List, [], ◌∷◌, ◌++◌, length, Option, Some, IfSome, refl, sym, ap, ◌∙◌, subst, inl, inr, arith, length-append, get_or}
use Rattle.std.specs.Option.{option_map, unwrap_or}
use Rattle.container_file.specs.declared.container_end.ContainerEnd.{ContainerEnd}
use Rattle.std.specs.List.{All, flat_map}
use Rattle.std.specs.FinMap as map
use Rattle.std.proofs.lemmas.Bool.{false≢true, cases_Bool, eq-eqb, eqb-true}
use Rattle.std.proofs.lemmas.List.{take_all}
use Rattle.std.proofs.lemmas.List.Elements.{All-head, All-tail}
use Rattle.ss_base.specs.declared.ids.ManifestId.{ManifestId}
use Rattle.ss_base.specs.declared.ids.Place.{Place}
use Rattle.ss_base.specs.declared.name.Name.{Name}
use Rattle.ss_base.specs.declared.object.Object.{Object}
use Rattle.ss_base.specs.declared.object.Object.TheVariants.{Container, Manifest as ManifestObject}
use Rattle.ss_base.specs.declared.profile.Numbers.{Numbers}
use Rattle.ss_base.specs.Ids.{same_manifest}
use Rattle.ss_base.specs.ObjectName.{object_text}
use Rattle.ss_base.proofs.IdLaws.{same_manifest-self, same_manifest-true}
use Rattle.ss_base.proofs.MemberLaws.{In, append_in, in_append_left, in_append_right}
use Rattle.chunk_name.specs.Pieces.{pieces}
use Rattle.manifest_codec.specs.declared.manifest.Manifest.{Manifest}
use Rattle.manifest_codec.specs.PiecesPart.{pieces_part, piece_text}
use Rattle.manifest_codec.specs.Text.{manifest_text, places_part, place_text}
use Rattle.manifest_codec.proofs.TextLaws.{piece_sizes, place_sizes}
use Rattle.container_file.specs.Layout.{Written as PutBytes}
use Rattle.segment_plan.specs.Plan.{Located, places_against, puts_against}
use Rattle.segment_plan.proofs.LieLaws.{places-count}
use Rattle.outside.specs.Shelf.{Objects, bytes_of, part_of}
use Rattle.outside.specs.Views.{ShelfView}
use Rattle.outside.proofs.ObjectLaws.{bytes_of-insert_same, bytes_of-insert_other}
use Rattle.journal_entry.specs.declared.entry.Entry.{Entry}
use Rattle.journal_entry.specs.declared.entry.Point.TheVariants.{Choose}
use Rattle.journal_entry.specs.Bounds.{IsEntry, FitsManifest}
use Rattle.history.specs.declared.rules.Rules.{Rules}
use Rattle.history.specs.Legal.{is_legal}
use Rattle.history.specs.Need.{commits_manifest}
use Rattle.history.specs.Sessions.{commits_of, has, newest}
use Rattle.history_laws.proofs.SessionLaws.{has_now, has_older, has_cases, committed_below}
use Rattle.store_core.specs.declared.values.Stored.{Stored}
use Rattle.store_core.specs.View.{KeptView, kept, kept_by, made}
use Rattle.depot.specs.Loading.{IsLoaded}
use Rattle.depot.specs.Storing.{put_name, after_put, after_puts}
use Rattle.segment_store.specs.Loads.{after_load}
use Rattle.segment_store.specs.Stored.{text_against, after_segment, IsStoredOf}
use Rattle.stored_streams.specs.Streams.{Streams, manifest_chunks, manifest_pieces}
use Rattle.stored_streams.specs.Plans.{Planned, plan_of, planned_places, end_of, plan_for}
use Rattle.stored_streams.specs.Reads.{IsTextHeld}
use Rattle.stored_streams.proofs.CommittedLaws.{kept_older}
use Rattle.stored_streams.proofs.NameLaws.{same_object_text}
use Rattle.stored_streams.proofs.PlanLaws.{places_newest}
use Rattle.stored_streams.proofs.SegmentLaws.{pieces_named}
use Rattle.whole_objects.proofs.FitLaws.{committed_fits}
use Rattle.backed_up_streams.proofs.LoadLaws.{text_loaded, commit_point, live_committed, IsTelling, LoadTold}

-- texts of one size, one behind another
length-texts : {X : Type 0} (f : X → List ℕ) (size : ℕ) (xs : List X) → All (λ x. length (f x) ≡ size) xs → length (flat_map f xs) ≡ size * length xs
length-texts f size [] all = omega arith
length-texts f size (x ∷ xs) all =
    let first = All-head (λ y. length (f y) ≡ size) x xs all in
    let rest = length-texts f size xs (All-tail (λ y. length (f y) ≡ size) x xs all) in
    let whole = length-append (f x) (flat_map f xs) in
    omega (arith, first, rest, whole)

-- the name of a manifest's object
abbrev manifest_name : ManifestId → List ℕ
manifest_name id = object_text (ManifestObject id)

not_container : (id : ManifestId) (put : PutBytes) → manifest_name id ≢ put_name put
not_container id put e = let first : 109 ≡ 99 = ap (λ (l : List ℕ). get_or l 0 0) e in omega (arith, first)

manifest_of : Object → ManifestId
manifest_of (ManifestObject id) = id
manifest_of (Container id) = record { session = 0; seq = 0 }

not_other : (one other : ManifestId) → FitsManifest one → FitsManifest other → same_manifest one other ≡ false → manifest_name one ≢ manifest_name other
unfolding manifest_of
not_other one other fits fits_too differ e =
    let same = same_object_text (ManifestObject one) (ManifestObject other) fits fits_too e in
    let id : one ≡ other = ap manifest_of same in
    false≢true (sym differ ∙ subst (λ (m : ManifestId). same_manifest one m ≡ true) id (same_manifest-self one))

-- ---- puts change no manifest

record PutsHeld (now : Objects) (shelf : ShelfView) : Type 0 where
  then : Objects
  held_is : shelf.held ≡ Some then
  same : (id : ManifestId) → bytes_of then (manifest_name id) ≡ bytes_of now (manifest_name id)

put_held : (shelf : ShelfView) (now : Objects) (put : PutBytes) → shelf.held ≡ Some now → PutsHeld now (after_put shelf put)
put_held shelf now put is = elim (cases_Bool put.starts) [
  | inl starts ↦ record {
    then = map.insert now (put_name put) put.bytes;
    held_is = rw starts (ap (option_map (λ (objects : Objects). map.insert objects (put_name put) put.bytes)) is);
    same = λ id. bytes_of-insert_other now (put_name put) put.bytes (manifest_name id) (not_container id put);
  }
  | inr adds ↦ record {
    then = map.insert now (put_name put) (bytes_of now (put_name put) ++ put.bytes);
    held_is = rw adds (ap (option_map (λ (objects : Objects). map.insert objects (put_name put) (bytes_of objects (put_name put) ++ put.bytes))) is);
    same = λ id. bytes_of-insert_other now (put_name put) (bytes_of now (put_name put) ++ put.bytes) (manifest_name id) (not_container id put);
  }
]

puts_held : (shelf : ShelfView) (now : Objects) (puts : List PutBytes) → shelf.held ≡ Some now → PutsHeld now (after_puts shelf puts)
puts_held shelf now [] is = record { then = now; held_is = is; same = λ id. refl }
puts_held shelf now (put ∷ puts) is =
    let one = put_held shelf now put is in
    let rest = puts_held (after_put shelf put) one.then puts one.held_is in
    record { then = rest.then; held_is = rest.held_is; same = λ id. rest.same id ∙ one.same id }

-- ---- a manifest that is kept was committed, and its numbers fit

pub kept_committed : (id : ManifestId) (past : List Entry) (view : KeptView) → kept id past ≡ Some view → has (commits_manifest id) past ≡ true
unfolding kept newest
kept_committed id [] view is = absurd (cc)
kept_committed id (entry ∷ past) view is = elim (cases_Bool (commits_manifest id entry.point)) [
  | inl here ↦ has_now (commits_manifest id) entry past here
  | inr not ↦ has_older (commits_manifest id) entry past (kept_committed id past view (sym (kept_older id entry past not) ∙ is))
]

kept_now : (id : ManifestId) (entry : Entry) (past : List Entry) → commits_manifest id entry.point ≡ true → kept id (entry ∷ past) ≡ kept_by entry.point
unfolding kept newest
kept_now id entry past does = rw does refl

-- ---- the depot's objects while a session goes on

module _ (n : Numbers) (streams : Streams) (older : List Entry) (author session : ℕ) (objects : Objects) where
  pub record Facts (texts : List (List ℕ)) (newer : List Entry) (plans : List Planned) (now : Objects) : Type 0 where
    pub own : (id : ManifestId) → id.session ≡ session → (view : KeptView) → kept id (newer ++ older) ≡ Some view
        → part_of (bytes_of now (manifest_name id)) 0 (48 * view.chunks) ≡ manifest_text (manifest_pieces n streams id) (planned_places id plans)
    pub older_same : (id : ManifestId) → id.session ≢ session → has (commits_manifest id) (newer ++ older) ≡ true → bytes_of now (manifest_name id) ≡ bytes_of objects (manifest_name id)
    pub texts_held : (b : List ℕ) → In b texts → IsTextHeld objects (newer ++ older) b

  -- the texts were held at first; the session's own manifests are as they were planned
  pub record HeldSo (texts : List (List ℕ)) (newer : List Entry) (plans : List Planned) (shelf : ShelfView) : Type 0 where
    pub now : Objects
    pub held_is : shelf.held ≡ Some now
    pub facts : All IsEntry (newer ++ older) → Facts texts newer plans now

  -- what a read gave
  read_was : (shelf : ShelfView) (now : Objects) (name text : List ℕ) (max : ℕ) → shelf.held ≡ Some now → IfSome shelf.held (λ (o : Objects). text ≡ part_of (bytes_of o name) 0 max) → text ≡ part_of (bytes_of now name) 0 max
  read_was shelf now name text max is told = subst (λ (held : Option Objects). IfSome held (λ (o : Objects). text ≡ part_of (bytes_of o name) 0 max)) is told

  load_held : (texts : List (List ℕ)) (newer : List Entry) (plans : List Planned) (shelf : ShelfView) (view : KeptView) (manifest : Manifest)
      → has (commits_manifest view.id) (newer ++ older) ≡ true → kept view.id (newer ++ older) ≡ Some view → IsLoaded shelf (after_load shelf view manifest) view manifest
      → HeldSo texts newer plans shelf → LoadTold n streams older author session HeldSo (All IsEntry) texts newer plans shelf view manifest
  load_held texts newer plans shelf view manifest committed kept_is loaded so =
      let text = text_loaded manifest in
      let read = read_was shelf so.now (manifest_name view.id) text (48 * view.chunks) so.held_is loaded.given.told in
      elim (cases_Bool (view.id.session == session)) [
        | inl own ↦ record {
          gave = texts;
          older_too = λ b there. there;
          told = record { now = so.now; held_is = so.held_is; facts = so.facts };
          source = λ entries. inr (read ∙ (so.facts entries).own view.id (eqb-true _ _ own) view kept_is);
        }
        | inr other ↦
            let differ : view.id.session ≢ session = λ same. false≢true (sym other ∙ eq-eqb _ _ same) in
            record {
              gave = texts ++ text ∷ [];
              older_too = λ b there. in_append_left b texts (text ∷ []) there;
              told = record {
                now = so.now;
                held_is = so.held_is;
                facts = λ entries.
                    let facts = so.facts entries in
                    let held : IsTextHeld objects (newer ++ older) text = record {
                      view = view;
                      is_kept = kept_is;
                      text = read ∙ ap (λ (bytes : List ℕ). part_of bytes 0 (48 * view.chunks)) (facts.older_same view.id differ committed);
                    } in
                    record {
                      own = facts.own;
                      older_same = facts.older_same;
                      texts_held = λ b there. elim (append_in b texts (text ∷ []) there) [
                        | inl before ↦ facts.texts_held b before
                        | inr (inl is) ↦ subst (IsTextHeld objects (newer ++ older)) is held
                        | inr (inr none) ↦ absurd none
                      ];
                    };
              };
              source = λ entries. inl (in_append_right text texts (text ∷ []) (inl refl));
            }
      ]

  choose_held : (texts : List (List ℕ)) (newer : List Entry) (plans : List Planned) (shelf : ShelfView) (chosen : List Name) (ids : List ManifestId) → HeldSo texts newer plans shelf → HeldSo texts (made author (Choose session chosen ids) ∷ newer) plans shelf
  unfolding commits_manifest
  choose_held texts newer plans shelf chosen ids so =
      let entry = made author (Choose session chosen ids) in
      let past = newer ++ older in
      record {
        now = so.now;
        held_is = so.held_is;
        facts = λ entries.
            let facts = so.facts (All-tail IsEntry entry past entries) in
            record {
              own = λ id same view is. facts.own id same view (sym (kept_older id entry past refl) ∙ is);
              older_same = λ id differ there. facts.older_same id differ (elim (has_cases (commits_manifest id) entry past there) [ inl here ↦ absurd (false≢true here) | inr before ↦ before ]);
              texts_held = λ b there.
                  let held = facts.texts_held b there in
                  record { view = held.view; is_kept = kept_older held.view.id entry past refl ∙ held.is_kept; text = held.text };
            };
      }

  -- ---- a commit

  module _ (rules : Rules) (texts : List (List ℕ)) (newer : List Entry) (plans : List Planned) (shelf : ShelfView) (seq : ℕ) (against : List Located) (stored : Stored) (legal : is_legal rules (newer ++ older) ≡ true) (counted : commits_of session (newer ++ older) ≡ seq) where
    abbrev past : List Entry
    past = newer ++ older

    abbrev next : ManifestId
    next = record { session = session; seq = seq }

    abbrev entry : Entry
    entry = made author (commit_point session seq stored)

    abbrev chunks : List (List ℕ)
    chunks = manifest_chunks n streams next

    abbrev plan : Planned
    plan = plan_for n streams next against plans

    abbrev end : ContainerEnd
    end = end_of session plans

    abbrev text : List ℕ
    text = text_against chunks against end n.room

    text_len : stored.chunks ≡ length (pieces chunks) → length text ≤ 48 * stored.chunks
    unfolding manifest_pieces
    text_len count =
        let places = places_against chunks against end n.room in
        let front = length-texts piece_text 36 (pieces chunks) (piece_sizes (pieces chunks) (pieces_named n streams next)) in
        let back = length-texts place_text 12 places (place_sizes places) in
        let both = length-append (pieces_part (pieces chunks)) (places_part places) in
        let many = places-count chunks against end n.room in
        omega (arith, count, front, back, both, many)

    planned_text : manifest_text (manifest_pieces n streams next) (planned_places next (plan ∷ plans)) ≡ text
    unfolding manifest_pieces plan_for
    planned_text = ap (λ (ps : List Place). manifest_text (manifest_pieces n streams next) ps) (places_newest next plan plans refl)

    planned_other : (id : ManifestId) → same_manifest id next ≡ false → planned_places id (plan ∷ plans) ≡ planned_places id plans
    unfolding planned_places plan_of plan_for
    planned_other id differ = rw differ refl

    -- it was not committed before
    not_before : (id : ManifestId) → has (commits_manifest id) past ≡ true → same_manifest id next ≡ false
    not_before id there = elim (cases_Bool (same_manifest id next)) [
      | inl same ↦
          let below = committed_below rules next past legal (subst (λ (m : ManifestId). has (commits_manifest m) past ≡ true) (same_manifest-true id next same) there) in
          absurd (omega (arith, below, counted))
      | inr differ ↦ differ
    ]

    kept_point : (view : KeptView) → kept_by entry.point ≡ Some view → view.chunks ≡ stored.chunks
    unfolding kept_by
    kept_point view is = ap (λ (o : Option KeptView). (unwrap_or o view).chunks) (sym is)

    module _ (of : IsStoredOf chunks against end n.room stored) (so : HeldSo texts newer plans shelf) where
      puts_are : PutsHeld so.now (after_puts shelf (puts_against chunks against end n.room))
      puts_are = puts_held shelf so.now (puts_against chunks against end n.room) so.held_is

      abbrev then : Objects
      then = map.insert puts_are.then (manifest_name next) text

      module _ (entries : All IsEntry (entry ∷ past)) where
        before : Facts texts newer plans so.now
        before = so.facts (All-tail IsEntry entry past entries)

        fits : FitsManifest next
        fits = (All-head IsEntry entry past entries).point.0

        stays : (id : ManifestId) → has (commits_manifest id) past ≡ true → bytes_of then (manifest_name id) ≡ bytes_of so.now (manifest_name id)
        stays id there =
            bytes_of-insert_other puts_are.then (manifest_name next) text (manifest_name id)
            (not_other id next (committed_fits id past (All-tail IsEntry entry past entries) there) fits (not_before id there))
            ∙ puts_are.same id

        own_now : (view : KeptView) → kept_by entry.point ≡ Some view → part_of (bytes_of then (manifest_name next)) 0 (48 * view.chunks) ≡ manifest_text (manifest_pieces n streams next) (planned_places next (plan ∷ plans))
        own_now view is =
            let count = kept_point view is in
            let most = text_len of.chunk_count in
            ap (λ (bytes : List ℕ). part_of bytes 0 (48 * view.chunks)) (bytes_of-insert_same puts_are.then (manifest_name next) text)
            ∙ take_all (48 * view.chunks) text (omega (arith, count, most))
            ∙ sym planned_text

        own_behind : (id : ManifestId) → id.session ≡ session → (view : KeptView) → kept id (entry ∷ past) ≡ Some view
            → part_of (bytes_of then (manifest_name id)) 0 (48 * view.chunks) ≡ manifest_text (manifest_pieces n streams id) (planned_places id (plan ∷ plans))
        unfolding commits_manifest
        own_behind id same view is = elim (cases_Bool (same_manifest id next)) [
          | inl here ↦
              subst (λ (m : ManifestId). part_of (bytes_of then (manifest_name m)) 0 (48 * view.chunks) ≡ manifest_text (manifest_pieces n streams m) (planned_places m (plan ∷ plans))) (sym (same_manifest-true id next here))
              (own_now view (sym (kept_now id entry past here) ∙ is))
          | inr other ↦
              let was = sym (kept_older id entry past other) ∙ is in
              ap (λ (bytes : List ℕ). part_of bytes 0 (48 * view.chunks)) (stays id (kept_committed id past view was))
              ∙ before.own id same view was
              ∙ ap (λ (ps : List Place). manifest_text (manifest_pieces n streams id) ps) (sym (planned_other id other))
        ]

        older_behind : (id : ManifestId) → id.session ≢ session → has (commits_manifest id) (entry ∷ past) ≡ true → bytes_of then (manifest_name id) ≡ bytes_of objects (manifest_name id)
        unfolding commits_manifest
        older_behind id differ there = elim (has_cases (commits_manifest id) entry past there) [
          | inl here ↦ absurd (differ (ap (λ (m : ManifestId). m.session) (same_manifest-true id next here)))
          | inr earlier ↦ stays id earlier ∙ before.older_same id differ earlier
        ]

        texts_behind : (b : List ℕ) → In b texts → IsTextHeld objects (entry ∷ past) b
        unfolding commits_manifest
        texts_behind b there =
            let held = before.texts_held b there in
            record {
              view = held.view;
              is_kept = kept_older held.view.id entry past (not_before held.view.id (kept_committed held.view.id past held.view held.is_kept)) ∙ held.is_kept;
              text = held.text;
            }

      commit_held : HeldSo texts (entry ∷ newer) (plan ∷ plans) (after_segment shelf next chunks against end n.room)
      commit_held = record {
        now = then;
        held_is = ap (option_map (λ (o : Objects). map.insert o (manifest_name next) text)) puts_are.held_is;
        facts = λ entries. record { own = own_behind entries; older_same = older_behind entries; texts_held = texts_behind entries };
      }

  pub is_holding : IsTelling n streams older author session HeldSo (All IsEntry)
  is_holding = record {
    before = λ entry past entries. All-tail IsEntry entry past entries;
    load = λ texts newer plans shelf view manifest live kept_is loaded so. load_held texts newer plans shelf view manifest (live_committed view.id (newer ++ older) live) kept_is loaded so;
    choose = λ texts newer plans shelf chosen ids so. choose_held texts newer plans shelf chosen ids so;
    commit = λ rules texts newer plans shelf seq cs against stored legal counted chunks_are of loaded so.
        subst (λ (c : List (List ℕ)). HeldSo texts (made author (commit_point session seq stored) ∷ newer) (plan_for n streams (record { session = session; seq = seq }) against plans ∷ plans) (after_segment shelf (record { session = session; seq = seq }) c against (end_of session plans) n.room)) chunks_are
        (commit_held rules texts newer plans shelf seq against stored legal counted
        (subst (λ (c : List (List ℕ)). IsStoredOf c against (end_of session plans) n.room stored) (sym chunks_are) of) so);
  }
