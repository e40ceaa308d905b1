-- What a depot tells that was written, over the calls of a session.
use Rattle.std.proofs.Common.{◌≡◌, ◌⊎◌, ℕ, true, false, List, [], ◌∷◌, ◌++◌, Option, Some, refl, sym, ap, ◌∙◌, subst, inl, inr, append_assoc}
use mathlib.Core.List.{map}
use Rattle.std.specs.List.{All}
use Rattle.std.proofs.lemmas.Bool.{false≢true, cases_Bool}
use Rattle.std.proofs.lemmas.List.{append-nil, map-append}
use Rattle.std.proofs.lemmas.List.Elements.{All-tail}
use Rattle.ss_base.specs.declared.ids.ManifestId.{ManifestId}
use Rattle.ss_base.specs.declared.object.Object.TheVariants.{Manifest as ManifestObject}
use Rattle.ss_base.specs.declared.profile.Numbers.{Numbers}
use Rattle.ss_base.specs.ObjectName.{object_text}
use Rattle.ss_base.specs.Profile.{AreSound}
use Rattle.ss_base.proofs.IdLaws.{same_manifest-self}
use Rattle.ss_base.proofs.MemberLaws.{In}
use Rattle.manifest_codec.specs.declared.manifest.Manifest.{Manifest}
use Rattle.container_file.specs.declared.container_end.ContainerEnd.{ContainerEnd}
use Rattle.container_file.specs.Layout.{Written as PutBytes}
use Rattle.segment_plan.specs.Plan.{Located, puts_against}
use Rattle.outside.specs.Shelf.{Written, write_of}
use Rattle.outside.specs.Views.{ShelfView}
use Rattle.journal_entry.specs.declared.entry.Entry.{Entry}
use Rattle.journal_entry.specs.declared.entry.Point.{Point}
use Rattle.journal_entry.specs.declared.entry.Point.TheVariants.{Begin, Choose, Commit}
use Rattle.journal_entry.specs.Bounds.{IsEntry}
use Rattle.history.specs.declared.rules.Rules.{Rules}
use Rattle.history.specs.Legal.{is_legal}
use Rattle.history.specs.Need.{commits_manifest}
use Rattle.history.specs.Sessions.{pending_champions}
use Rattle.history_laws.proofs.Allowed.{step}
use Rattle.store_core.specs.declared.values.Stored.{Stored}
use Rattle.store_core.specs.View.{KeptView, made}
use Rattle.depot.specs.Storing.{after_put, after_puts}
use Rattle.segment_store.specs.Stored.{text_against, after_segment}
use Rattle.stored_streams.specs.Streams.{Streams, manifest_chunks, manifest_pieces}
use Rattle.stored_streams.specs.Plans.{Planned, end_of, located_of, plan_for, next_plan, plans_after, plans_of}
use Rattle.stored_streams.specs.Loads.{AreLoadsOf}
use Rattle.stored_streams.specs.OfStreams.{next_of, ContentOf, StoredOf, EachEntry, IsOfStreams}
use Rattle.stored_streams.proofs.LoadLaws.{IsKnown, Brings, loads_are}
use Rattle.backed_up_streams.specs.Wrote.{write_of_put, segment_writes, next_writes, entry_writes, writes_since, IsFrontOf, AreWritesOf, WritesMore}
use Rattle.stored_streams.proofs.ToldLaws.{with_more, more_none, more_then}
use Rattle.backed_up_streams.proofs.LeftLaws.{HasPutSome}
use Rattle.backed_up_streams.proofs.LeftLaws.HasPutSome.{stopped, unwritten, all_done}
use Rattle.backed_up_streams.proofs.LoadLaws.{commit_point, IsTelling, LoadTold, PutsPending, HasEnded}
use Rattle.backed_up_streams.proofs.UnstartedLaws.{loads_weaker}

-- ---- puts, and a segment

put_wrote : (shelf : ShelfView) (put : PutBytes) → (after_put shelf put).wrote ≡ with_more shelf.wrote (write_of_put put ∷ [])
put_wrote shelf put = elim (cases_Bool put.starts) [ inl starts ↦ rw starts refl | inr adds ↦ rw adds refl ]

puts_wrote : (shelf : ShelfView) (puts : List PutBytes) → (after_puts shelf puts).wrote ≡ with_more shelf.wrote (map write_of_put puts)
puts_wrote shelf [] = more_none shelf.wrote
puts_wrote shelf (put ∷ puts) =
    puts_wrote (after_put shelf put) puts
    ∙ ap (λ (told : Option (List Written)). with_more told (map write_of_put puts)) (put_wrote shelf put)
    ∙ more_then shelf.wrote (write_of_put put ∷ []) (map write_of_put puts)

module _ (id : ManifestId) (chunks : List (List ℕ)) (against : List Located) (end : ContainerEnd) (room : ℕ) where
  abbrev the_puts : List PutBytes
  the_puts = puts_against chunks against end room

  abbrev the_text : Written
  the_text = write_of (object_text (ManifestObject id)) (text_against chunks against end room)

  abbrev all_writes : List Written
  all_writes = map write_of_put the_puts ++ the_text ∷ []

  segment_wrote : (shelf : ShelfView) → (after_segment shelf id chunks against end room).wrote ≡ with_more shelf.wrote all_writes
  segment_wrote shelf =
      ap (λ (told : Option (List Written)). with_more told (the_text ∷ [])) (puts_wrote shelf the_puts)
      ∙ more_then shelf.wrote (map write_of_put the_puts) (the_text ∷ [])

  -- where something of it was put, a front of that
  some_wrote : (written : ℕ) (before after : ShelfView) → HasPutSome id chunks against end room written before after
      → (front : List Written) × (back : List Written) × (all_writes ≡ front ++ back) × (after.wrote ≡ with_more before.wrote front)
  some_wrote written before after (stopped trouble least is) =
      let done = map write_of_put is.done in
      let left = map write_of_put (is.put ∷ is.rest) in (
        done,
        left ++ the_text ∷ [],
        ap (λ (puts : List PutBytes). map write_of_put puts ++ the_text ∷ []) is.puts_are
            ∙ ap (λ (ws : List Written). ws ++ the_text ∷ []) (map-append write_of_put is.done (is.put ∷ is.rest))
            ∙ append_assoc done left (the_text ∷ []),
        ap (λ (s : ShelfView). s.wrote) is.failed.others ∙ puts_wrote before is.done,
      )
  some_wrote written before after (unwritten trouble least failed) =
      (map write_of_put the_puts, the_text ∷ [], refl, ap (λ (s : ShelfView). s.wrote) failed.others ∙ puts_wrote before the_puts)
  some_wrote written before after (all_done least is) =
      (all_writes, [], sym (append-nil all_writes), ap (λ (s : ShelfView). s.wrote) is ∙ segment_wrote before)

-- puts erase nothing

put_erased : (shelf : ShelfView) (put : PutBytes) → (after_put shelf put).erased ≡ shelf.erased
put_erased shelf put = elim (cases_Bool put.starts) [ inl starts ↦ rw starts refl | inr adds ↦ rw adds refl ]

puts_erased : (shelf : ShelfView) (puts : List PutBytes) → (after_puts shelf puts).erased ≡ shelf.erased
puts_erased shelf [] = refl
puts_erased shelf (put ∷ puts) = puts_erased (after_put shelf put) puts ∙ put_erased shelf put

some_erased : (id : ManifestId) (chunks : List (List ℕ)) (against : List Located) (end : ContainerEnd) (room written : ℕ) (before after : ShelfView) → HasPutSome id chunks against end room written before after → after.erased ≡ before.erased
some_erased id chunks against end room written before after (stopped trouble least is) = ap (λ (s : ShelfView). s.erased) is.failed.others ∙ puts_erased before is.done
some_erased id chunks against end room written before after (unwritten trouble least failed) = ap (λ (s : ShelfView). s.erased) failed.others ∙ puts_erased before (puts_against chunks against end room)
some_erased id chunks against end room written before after (all_done least is) = ap (λ (s : ShelfView). s.erased) is ∙ puts_erased before (puts_against chunks against end room)

-- in the words of the streams
all_is : (n : Numbers) (streams : Streams) (id : ManifestId) (against : List Located) (plans : List Planned) → all_writes id (manifest_chunks n streams id) against (end_of id.session plans) n.room ≡ segment_writes n streams id against plans
unfolding segment_writes plan_for manifest_pieces
all_is n streams id against plans = refl

-- an entry that commits nothing stands for no writes
none_written : (n : Numbers) (streams : Streams) (past : List Entry) (point : Point) → ((id : ManifestId) → commits_manifest id point ≡ false) → entry_writes n streams past point ≡ []
unfolding commits_manifest
none_written n streams past (Commit id content text chunks bytes fresh fresh_bytes uses) none = absurd (false≢true (sym (none id) ∙ same_manifest-self id))
none_written n streams past _ none = refl

-- ---- the writes so far, each segment's against what was loaded for it

module _ (n : Numbers) (streams : Streams) (older : List Entry) where
  pub record CommitWrites (given : List ℕ → Type 0) (newer : List Entry) (Before : List Planned → List Written → Type 0) (id : ManifestId) (plans : List Planned) (writes : List Written) : Type 0 where
    pub earlier : List Planned
    pub first : List Written
    pub against : List Located
    pub loads : AreLoadsOf n streams given (newer ++ older) earlier (pending_champions id.session (newer ++ older)) against
    pub plans_are : plans ≡ plan_for n streams id against earlier ∷ earlier
    pub writes_are : writes ≡ first ++ segment_writes n streams id against earlier
    pub before : Before earlier first

  abbrev pub StepWrites : (List ℕ → Type 0) → List Entry → (List Planned → List Written → Type 0) → Point → List Planned → List Written → Type 0
  StepWrites given newer Before (Commit id content text chunks bytes fresh fresh_bytes uses) plans writes = CommitWrites given newer Before id plans writes
  StepWrites given newer Before _ plans writes = Before plans writes

  abbrev pub LoadedWrites : (List ℕ → Type 0) → List Entry → List Planned → List Written → Type 0
  LoadedWrites given [] plans writes = (plans ≡ plans_of n streams older) × (writes ≡ [])
  LoadedWrites given (entry ∷ newer) plans writes = StepWrites given newer (λ ps ws. LoadedWrites given newer ps ws) entry.point plans writes

  module _ (given other : List ℕ → Type 0) (weaker : (b : List ℕ) → given b → other b) where
    step_weaker : (newer : List Entry) (Before Then : List Planned → List Written → Type 0) → ((ps : List Planned) (ws : List Written) → Before ps ws → Then ps ws)
        → (point : Point) (plans : List Planned) (writes : List Written) → StepWrites given newer Before point plans writes → StepWrites other newer Then point plans writes
    step_weaker newer Before Then more (Commit id content text chunks bytes fresh fresh_bytes uses) plans writes is = record {
      earlier = is.earlier;
      first = is.first;
      against = is.against;
      loads = loads_weaker given other weaker n streams (newer ++ older) is.earlier (pending_champions id.session (newer ++ older)) is.against is.loads;
      plans_are = is.plans_are;
      writes_are = is.writes_are;
      before = more is.earlier is.first is.before;
    }
    step_weaker newer Before Then more _ plans writes is = more plans writes is

    writes_weaker : (newer : List Entry) (plans : List Planned) (writes : List Written) → LoadedWrites given newer plans writes → LoadedWrites other newer plans writes
    writes_weaker [] plans writes are = are
    writes_weaker (entry ∷ newer) plans writes are =
        step_weaker newer (λ ps ws. LoadedWrites given newer ps ws) (λ ps ws. LoadedWrites other newer ps ws) (λ ps ws is. writes_weaker newer ps ws is) entry.point plans writes are

  -- ---- where the history is of the streams, they are those of its entries, or reads brought something bad

  module _ (rules : Rules) (given : List ℕ → Type 0) (Bad : List Entry → Type 0) (brings : Brings n streams given Bad) where
    one_step : (newer : List Entry) (Before : List Planned → List Written → Type 0) → IsKnown n streams rules (newer ++ older)
        → ((ps : List Planned) (ws : List Written) → Before ps ws → ((ps ≡ plans_of n streams (newer ++ older)) × (ws ≡ writes_since n streams newer older)) ⊎ Bad (newer ++ older))
        → (point : Point) (plans : List Planned) (writes : List Written) → StepWrites given newer Before point plans writes
        → ((plans ≡ plans_after n streams (newer ++ older) point (plans_of n streams (newer ++ older))) × (writes ≡ writes_since n streams newer older ++ entry_writes n streams (newer ++ older) point)) ⊎ Bad (newer ++ older)
    unfolding plans_after next_plan next_writes
    one_step newer Before known same (Commit id content text chunks bytes fresh fresh_bytes uses) plans writes is =
        let past = newer ++ older in
        elim (same is.earlier is.first is.before) [
          | inl both ↦
              let loads = subst (λ (ps : List Planned). AreLoadsOf n streams given past ps (pending_champions id.session past) is.against) both.0 is.loads in
              elim (loads_are n streams rules given Bad brings past id.session is.against known loads) [
                | inl against ↦ inl (
                  is.plans_are ∙ (λ i. plan_for n streams id (against i) (both.0 i) ∷ both.0 i),
                  is.writes_are ∙ (λ i. both.1 i ++ segment_writes n streams id (against i) (both.0 i)),
                )
                | inr bad ↦ inr bad
              ]
          | inr bad ↦ inr bad
        ]
    one_step newer Before known same _ plans writes is =
        elim (same plans writes is) [
          | inl both ↦ inl (both.0, both.1 ∙ sym (append-nil (writes_since n streams newer older)))
          | inr bad ↦ inr bad
        ]

    writes_are_those : (newer : List Entry) (plans : List Planned) (writes : List Written) → AreSound n → is_legal rules (newer ++ older) ≡ true → All IsEntry (newer ++ older) → EachEntry (ContentOf n streams) (newer ++ older) → EachEntry (StoredOf n streams) (newer ++ older)
        → LoadedWrites given newer plans writes → ((plans ≡ plans_of n streams (newer ++ older)) × (writes ≡ writes_since n streams newer older)) ⊎ Bad (newer ++ older)
    unfolding plans_of writes_since
    writes_are_those [] plans writes sound legal entries contents stored are = inl are
    writes_are_those (entry ∷ newer) plans writes sound legal entries contents stored are =
        let past = newer ++ older in
        let now = step rules entry past legal in
        let others = All-tail IsEntry entry past entries in
        let known : IsKnown n streams rules past = record { sound = sound; legal = now.legal; entries = others; contents = contents.0; stored = stored.0 } in
        elim (one_step newer (λ ps ws. LoadedWrites given newer ps ws) known (λ ps ws is. writes_are_those newer ps ws sound now.legal others contents.0 stored.0 is) entry.point plans writes are) [
          | inl both ↦ inl both
          | inr bad ↦ inr (brings.more rules entry past now bad)
        ]

-- ---- a session that is told of, and what is written meanwhile

module _ (n : Numbers) (streams : Streams) (older : List Entry) (author session : ℕ) (Told : List (List ℕ) → List Entry → List Planned → ShelfView → Type 0) (Allowed : List Entry → Type 0) (telling : IsTelling n streams older author session Told Allowed) (depot : ShelfView) where
  pub record WroteSo (texts : List (List ℕ)) (newer : List Entry) (plans : List Planned) (shelf : ShelfView) : Type 0 where
    pub told : Told texts newer plans shelf
    pub writes : List Written
    pub wrote : shelf.wrote ≡ with_more depot.wrote writes
    pub erased : shelf.erased ≡ depot.erased
    pub are : Allowed (newer ++ older) → LoadedWrites n streams older (λ b. In b texts) newer plans writes

  load_wrote : (texts : List (List ℕ)) (newer : List Entry) (plans : List Planned) (shelf : ShelfView) (view : KeptView) (manifest : Manifest) → LoadTold n streams older author session Told Allowed texts newer plans shelf view manifest → WroteSo texts newer plans shelf
      → LoadTold n streams older author session WroteSo Allowed texts newer plans shelf view manifest
  load_wrote texts newer plans shelf view manifest one so = record {
    gave = one.gave;
    older_too = one.older_too;
    told = record {
      told = one.told;
      writes = so.writes;
      wrote = so.wrote;
      erased = so.erased;
      are = λ allowed. writes_weaker n streams older (λ b. In b texts) (λ b. In b one.gave) one.older_too newer plans so.writes (so.are allowed);
    };
    source = one.source;
  }

  commit_wrote : (texts : List (List ℕ)) (newer : List Entry) (plans : List Planned) (shelf : ShelfView) (seq : ℕ) (chunks : List (List ℕ)) (against : List Located) (stored : Stored)
      → manifest_chunks n streams (record { session = session; seq = seq }) ≡ chunks
      → (Allowed (newer ++ older) → AreLoadsOf n streams (λ b. In b texts) (newer ++ older) plans (pending_champions session (newer ++ older)) against)
      → Told texts (made author (commit_point session seq stored) ∷ newer) (plan_for n streams (record { session = session; seq = seq }) against plans ∷ plans) (after_segment shelf (record { session = session; seq = seq }) chunks against (end_of session plans) n.room)
      → WroteSo texts newer plans shelf
      → WroteSo texts (made author (commit_point session seq stored) ∷ newer) (plan_for n streams (record { session = session; seq = seq }) against plans ∷ plans) (after_segment shelf (record { session = session; seq = seq }) chunks against (end_of session plans) n.room)
  commit_wrote texts newer plans shelf seq chunks against stored chunks_are loaded told so =
      let id : ManifestId = record { session = session; seq = seq } in
      let end = end_of session plans in
      let own = manifest_chunks n streams id in
      let more = segment_writes n streams id against plans in
      record {
        told = told;
        writes = so.writes ++ more;
        wrote =
            subst (λ (cs : List (List ℕ)). (after_segment shelf id cs against end n.room).wrote ≡ with_more depot.wrote (so.writes ++ more)) chunks_are
            (segment_wrote id own against end n.room shelf
            ∙ ap (λ (told : Option (List Written)). with_more told (all_writes id own against end n.room)) so.wrote
            ∙ more_then depot.wrote so.writes (all_writes id own against end n.room)
            ∙ ap (λ (ws : List Written). with_more depot.wrote (so.writes ++ ws)) (all_is n streams id against plans));
        erased = puts_erased shelf (puts_against chunks against end n.room) ∙ so.erased;
        are = λ allowed.
            let earlier = telling.before (made author (commit_point session seq stored)) (newer ++ older) allowed in
            record { earlier = plans; first = so.writes; against = against; loads = loaded earlier; plans_are = refl; writes_are = refl; before = so.are earlier };
      }

  pub is_writing : IsTelling n streams older author session WroteSo Allowed
  is_writing = record {
    before = telling.before;
    load = λ texts newer plans shelf view manifest live kept_is loaded so.
        load_wrote texts newer plans shelf view manifest (telling.load texts newer plans shelf view manifest live kept_is loaded so.told) so;
    choose = λ texts newer plans shelf chosen ids so. record {
      told = telling.choose texts newer plans shelf chosen ids so.told;
      writes = so.writes;
      wrote = so.wrote;
      erased = so.erased;
      are = λ allowed. so.are (telling.before (made author (Choose session chosen ids)) (newer ++ older) allowed);
    };
    commit = λ rules texts newer plans shelf seq chunks against stored legal counted chunks_are of loaded so.
        commit_wrote texts newer plans shelf seq chunks against stored chunks_are loaded
        (telling.commit rules texts newer plans shelf seq chunks against stored legal counted chunks_are of loaded so.told) so;
  }

  pub nothing_written : (name : List ℕ) → Told [] (made author (Begin name (Some session)) ∷ []) (plans_of n streams older) depot → WroteSo [] (made author (Begin name (Some session)) ∷ []) (plans_of n streams older) depot
  nothing_written name told = record { told = told; writes = []; wrote = more_none depot.wrote; erased = refl; are = λ allowed. (refl, refl) }

  module _ (past : List Entry) (after : ShelfView) (is : HasEnded n streams older author session WroteSo Allowed is_writing past after) where
    -- without what is written
    abbrev pub as_told : HasEnded n streams older author session Told Allowed telling past after
    as_told = record {
      last = is.last;
      then_newer = is.then_newer;
      past_is = is.past_is;
      commits_none = is.commits_none;
      count = is.count;
      counted = is.counted;
      loads = is.loads;
      texts = is.texts;
      then_plans = is.then_plans;
      then_shelf = is.then_shelf;
      told = is.told.told;
      gave_more = is.gave_more;
      left = is.left;
      wrote = is.wrote;
      stores = is.stores;
    }

    -- nothing was erased
    pub ended-erased : after.erased ≡ depot.erased
    ended-erased = elim is.wrote [
      | inl same ↦ same.erased ∙ is.told.erased
      | inr puts ↦
          let id : ManifestId = record { session = session; seq = is.count } in
          some_erased id (manifest_chunks n streams id) puts.against (end_of session is.then_plans) n.room puts.written is.then_shelf after puts.some ∙ is.told.erased
    ]

    abbrev then_past : List Entry
    then_past = is.then_newer ++ older

    abbrev now_past : List Entry
    now_past = is.last ∷ then_past

    none_last : writes_since n streams (is.last ∷ is.then_newer) older ≡ writes_since n streams is.then_newer older
    unfolding writes_since
    none_last =
        let before = writes_since n streams is.then_newer older in
        ap (λ (ws : List Written). before ++ ws) (none_written n streams then_past is.last.point is.commits_none) ∙ append-nil before

    module _ (rules : Rules) (given : List ℕ → Type 0) (Bad : List Entry → Type 0) (brings : Brings n streams given Bad) (sound : AreSound n) (legal : is_legal rules now_past ≡ true) (entries : All IsEntry now_past) (allowed : Allowed now_past) (more : (b : List ℕ) → In b is.texts → given b) where
      then_allowed : Allowed then_past
      then_allowed = telling.before is.last then_past allowed

      bad_now : Bad then_past → Bad now_past
      bad_now bad = brings.more rules is.last then_past (step rules is.last then_past legal) bad

      -- behind a history of the streams
      module _ (of : IsOfStreams n streams now_past) where
        known : IsKnown n streams rules then_past
        known = record { sound = sound; legal = (step rules is.last then_past legal).legal; entries = All-tail IsEntry is.last then_past entries; contents = of.contents.contents.0; stored = of.stored.stored.0 }

        then_same : ((is.then_plans ≡ plans_of n streams then_past) × (is.told.writes ≡ writes_since n streams is.then_newer older)) ⊎ Bad then_past
        then_same =
            writes_are_those n streams older rules given Bad brings is.then_newer is.then_plans is.told.writes sound known.legal known.entries known.contents known.stored
            (writes_weaker n streams older (λ b. In b is.texts) given more is.then_newer is.then_plans is.told.writes (is.told.are then_allowed))

        -- nothing more was written
        untouched_are : AreWritesOf n streams older now_past is.told.writes ⊎ Bad now_past
        untouched_are = elim then_same [
          | inl both ↦ inl (record {
            newer = is.last ∷ is.then_newer;
            past_is = refl;
            rest = [];
            writes_are = both.1 ∙ sym none_last ∙ sym (append-nil (writes_since n streams (is.last ∷ is.then_newer) older));
            rest_is = inl refl;
          })
          | inr bad ↦ inr (bad_now bad)
        ]

        -- or some of the segment that was chosen for
        module _ (puts : PutsPending n streams older session Allowed is.texts is.then_newer is.then_plans is.count is.last is.then_shelf after) where
          abbrev the_id : ManifestId
          the_id = record { session = session; seq = is.count }

          is_next : the_id ≡ next_of session then_past
          is_next = λ i. record { session = session; seq = sym is.counted i }

          front_is : (front back : List Written) → all_writes the_id (manifest_chunks n streams the_id) puts.against (end_of session is.then_plans) n.room ≡ front ++ back
              → is.then_plans ≡ plans_of n streams then_past → puts.against ≡ located_of n streams (pending_champions session then_past) (plans_of n streams then_past) → IsFrontOf n streams then_past is.last.point front
          unfolding next_writes
          front_is front back parts same against =
              subst (λ (point : Point). IsFrontOf n streams then_past point front) (sym puts.last_is) (
                puts.waits,
                back,
                (λ i. segment_writes n streams (sym is_next i) (sym against i) (sym same i)) ∙ sym (all_is n streams the_id puts.against is.then_plans) ∙ parts,
              )

          pending_are : (front back : List Written) → all_writes the_id (manifest_chunks n streams the_id) puts.against (end_of session is.then_plans) n.room ≡ front ++ back
              → AreWritesOf n streams older now_past (is.told.writes ++ front) ⊎ Bad now_past
          pending_are front back parts = elim then_same [
            | inl both ↦
                let loads =
                subst (λ (ps : List Planned). AreLoadsOf n streams given then_past ps (pending_champions session then_past) puts.against) both.0
                (loads_weaker (λ b. In b is.texts) given more n streams then_past is.then_plans (pending_champions session then_past) puts.against (puts.loads then_allowed)) in
                elim (loads_are n streams rules given Bad brings then_past session puts.against known loads) [
                  | inl against ↦ inl (record {
                    newer = is.last ∷ is.then_newer;
                    past_is = refl;
                    rest = front;
                    writes_are = ap (λ (ws : List Written). ws ++ front) (both.1 ∙ sym none_last);
                    rest_is = inr (front_is front back parts both.0 against);
                  })
                  | inr bad ↦ inr (bad_now bad)
                ]
            | inr bad ↦ inr (bad_now bad)
          ]

      pub ended-wrote : IsOfStreams n streams now_past ⊎ Bad now_past → (writes : List Written) × WritesMore depot after writes × (AreWritesOf n streams older now_past writes ⊎ Bad now_past)
      ended-wrote now = elim is.wrote [
        | inl same ↦ (is.told.writes, same.wrote ∙ is.told.wrote, elim now [ inl of ↦ untouched_are of | inr bad ↦ inr bad ])
        | inr puts ↦
            let id : ManifestId = record { session = session; seq = is.count } in
            let (front, back, parts, now_wrote) = some_wrote id (manifest_chunks n streams id) puts.against (end_of session is.then_plans) n.room puts.written is.then_shelf after puts.some in (
              is.told.writes ++ front,
              now_wrote ∙ ap (λ (told : Option (List Written)). with_more told front) is.told.wrote ∙ more_then depot.wrote is.told.writes front,
              elim now [ inl of ↦ pending_are of puts front back parts | inr bad ↦ inr bad ],
            )
      ]
