-- What a session's loads gave, and what it stores against them.
use Rattle.std.proofs.Common.{◌≡◌, ℕ, ◌≤◌, ◌==◌, ◌⊎◌, true, false, List, [], ◌∷◌, ◌++◌, length, Option, Some, refl, sym, ap, ◌∙◌, subst, inl, inr, arith, append_assoc, length-append}
use Rattle.history_laws.proofs.SessionLaws.{has_older, committed_below}
use Rattle.segment_store.proofs.LoadLaws.{turn_held, turn_loaded}
use Rattle.segment_store.specs.Loads.IsThere.{was_held, was_loaded}
use Rattle.manifest_cache.proofs.HeldLaws.{held_lies}
use Rattle.manifest_cache.specs.Cached.{CachedView, listed_by, cached, held}
use Rattle.chunk_name.specs.Pieces.{name_of_bytes}
use Rattle.ss_base.specs.declared.ids.Place.{Place}
use Rattle.std.specs.List.{slice_index_or, Contains}
use Rattle.std.specs.Option.{unwrap_or}
use Rattle.std.proofs.lemmas.Bool.{and_parts, cases_Bool}
use Rattle.ss_base.specs.declared.ids.ManifestId.{ManifestId}
use Rattle.ss_base.specs.declared.name.Name.{Name}
use Rattle.ss_base.specs.declared.profile.Numbers.{Numbers}
use Rattle.ss_base.specs.Ids.{same_manifest, has_manifest}
use Rattle.ss_base.proofs.IdLaws.{same_manifest-self, same_manifest-true}
use Rattle.ss_base.proofs.MemberLaws.{In, in_any, count_one, in_Contains}
use Rattle.manifest_codec.specs.declared.manifest.Manifest.{Manifest}
use Rattle.manifest_codec.specs.Text.{manifest_text, AreManifest}
use Rattle.container_file.specs.declared.container_end.ContainerEnd.{ContainerEnd}
use Rattle.segment_plan.specs.Plan.{Located, end_against}
use Rattle.segment_plan.specs.Planned.{located}
use Rattle.segment_reader.specs.SegmentsOf.{segments_of}
use Rattle.outside.specs.Views.{ShelfView}
use Rattle.journal_entry.specs.declared.entry.Entry.{Entry}
use Rattle.journal_entry.specs.declared.entry.Point.{Point}
use Rattle.journal_entry.specs.declared.entry.Point.TheVariants.{Begin, Choose, Commit, Finish, Abort}
use Rattle.history.specs.declared.rules.Rules.{Rules}
use Rattle.history.specs.Legal.{is_legal}
use Rattle.history.specs.Need.{commits_manifest, is_live}
use Rattle.history.specs.Sessions.{commits, commits_of, has, pending_champions, is_pending}
use Rattle.history_laws.proofs.LiveLaws.{pending_live}
use Rattle.store_core.specs.declared.values.Stored.{Stored}
use Rattle.store_core.specs.View.{KeptView, kept, all_kept, made}
use Rattle.depot.specs.Loading.{IsLoaded}
use Rattle.segment_store.specs.Loads.{after_load, after_loads, AreLoaded, Entries, Holding, after_turn, IsThere, IsOfLoad, HasCached}
use Rattle.segment_store.specs.Stored.{after_segment, IsStoredOf}
use Rattle.session.specs.Stores.{no_end}
use Rattle.stored_streams.specs.Streams.{Streams, manifest_chunks, manifest_pieces}
use Rattle.stored_streams.specs.Plans.{Planned, planned_places, end_of, plan_for, plans_of, plan_of}
use Rattle.stored_streams.specs.OfStreams.{next_of, StoresSegment}
use Rattle.stored_streams.specs.Loads.{Loads, loaded_after, loaded_plans, IsLoadOf, AreLoadsOf, AbortsLoaded, LoadedOf, StoresLoaded, loaded_text}
use Rattle.stored_streams.proofs.PlanLaws.{end_own}
use Rattle.backed_up_streams.proofs.ContentLaws.{self}
use Rattle.stored_streams.proofs.ToldLaws.{GaveMore}
use Rattle.backed_up_streams.proofs.LeftLaws.{IsUnwritten, HasPutSome, Closes, IsLeft}
use Rattle.backed_up_streams.proofs.LeftLaws.Closes.{by_finish, by_abort}
use Rattle.backed_up_streams.proofs.LeftLaws.IsLeft.{untouched, put_some}
use Rattle.backed_up_streams.proofs.SegmentLaws.{item_behind, next_chunks}
use Rattle.backed_up_streams.proofs.KeptLaws.{IsKept, kept_there, all_kept-first, end_at_first}

-- loads by the numbers of their commits
abbrev pub loads_of : List (List Located) → Loads
loads_of lists id = slice_index_or lists id.seq []

abbrev pub text_loaded : Manifest → List ℕ
text_loaded manifest = manifest_text manifest.pieces.items manifest.places.items

abbrev pub commit_point : ℕ → ℕ → Stored → Point
commit_point session seq stored =
    Commit (record { session = session; seq = seq }) stored.content stored.text stored.chunks stored.bytes stored.fresh stored.fresh_bytes stored.uses.items

-- a live manifest is committed
pub live_committed : (id : ManifestId) (past : List Entry) → is_live id past ≡ true → has (commits_manifest id) past ≡ true
unfolding is_live
live_committed id past live = (and_parts _ _ live).0

-- something of one more segment was put, for a choice that the last entry gives up
pub record PutsPending (n : Numbers) (streams : Streams) (older : List Entry) (session : ℕ) (Allowed : List Entry → Type 0) (texts : List (List ℕ)) (newer : List Entry) (plans : List Planned) (count : ℕ) (last : Entry) (shelf after : ShelfView) : Type 0 where
  pub against : List Located
  pub containers : ℕ
  pub written : ℕ
  pub last_is : last.point ≡ Abort session containers written
  pub waits : is_pending session (newer ++ older) ≡ true
  pub loads : Allowed (newer ++ older) → AreLoadsOf n streams (λ b. In b texts) (newer ++ older) plans (pending_champions session (newer ++ older)) against
  pub some : HasPutSome (record { session = session; seq = count }) (manifest_chunks n streams (record { session = session; seq = count })) against (end_of session plans) n.room written shelf after

module _ (n : Numbers) (streams : Streams) (older : List Entry) (author session : ℕ) (Told : List (List ℕ) → List Entry → List Planned → ShelfView → Type 0) (Allowed : List Entry → Type 0) where
  -- behind one load: the texts that reads gave are these or more, and the loaded one is among them or was planned
  pub record LoadTold (texts : List (List ℕ)) (newer : List Entry) (plans : List Planned) (shelf : ShelfView) (view : KeptView) (manifest : Manifest) : Type 0 where
    pub gave : List (List ℕ)
    pub older_too : (b : List ℕ) → In b texts → In b gave
    pub told : Told gave newer plans (after_load shelf view manifest)
    pub source : Allowed (newer ++ older) → In (text_loaded manifest) gave ⊎ (text_loaded manifest ≡ manifest_text (manifest_pieces n streams view.id) (planned_places view.id plans))

  -- an entry of the cache: its manifest is committed, and its text is one of these or was planned
  pub record IsBacked (texts : List (List ℕ)) (newer : List Entry) (plans : List Planned) (entry : ManifestId × CachedView) : Type 0 where
    pub committed : has (commits_manifest entry.0) (newer ++ older) ≡ true
    pub source : In (loaded_text entry.1.manifest) texts ⊎ (loaded_text entry.1.manifest ≡ manifest_text (manifest_pieces n streams entry.0) (planned_places entry.0 plans))

  -- each is so
  abbrev pub AreBacked : List (List ℕ) → List Entry → List Planned → Entries → Type 0
  AreBacked texts newer plans cache = Allowed (newer ++ older) → (entry : ManifestId × CachedView) → Contains cache entry → IsBacked texts newer plans entry

  source_more : (gave all : List (List ℕ)) (text : List ℕ) (P : Type 0) → ((b : List ℕ) → In b gave → In b all) → In text gave ⊎ P → In text all ⊎ P
  source_more gave all text P more (inl there) = inl (more text there)
  source_more gave all text P more (inr planned) = inr planned

  backed_more : (texts gave : List (List ℕ)) (newer : List Entry) (plans : List Planned) (entry : ManifestId × CachedView) → ((b : List ℕ) → In b texts → In b gave) → IsBacked texts newer plans entry → IsBacked gave newer plans entry
  backed_more texts gave newer plans entry more is = record {
    committed = is.committed;
    source = source_more texts gave (loaded_text entry.1.manifest) (loaded_text entry.1.manifest ≡ manifest_text (manifest_pieces n streams entry.0) (planned_places entry.0 plans)) more is.source;
  }

  -- what is known of the depot's shelf while the session goes on: it stays so behind a load, a choice and a commit
  pub record IsTelling : Type 0 where
    pub before : (entry : Entry) (past : List Entry) → Allowed (entry ∷ past) → Allowed past
    pub load : (texts : List (List ℕ)) (newer : List Entry) (plans : List Planned) (shelf : ShelfView) (view : KeptView) (manifest : Manifest)
        → is_live view.id (newer ++ older) ≡ true → kept view.id (newer ++ older) ≡ Some view → IsLoaded shelf (after_load shelf view manifest) view manifest
        → Told texts newer plans shelf → LoadTold texts newer plans shelf view manifest
    pub choose : (texts : List (List ℕ)) (newer : List Entry) (plans : List Planned) (shelf : ShelfView) (chosen : List Name) (ids : List ManifestId)
        → Told texts newer plans shelf → Told texts (made author (Choose session chosen ids) ∷ newer) plans shelf
    pub commit : (rules : Rules) (texts : List (List ℕ)) (newer : List Entry) (plans : List Planned) (shelf : ShelfView) (seq : ℕ) (chunks : List (List ℕ)) (against : List Located) (stored : Stored)
        → is_legal rules (newer ++ older) ≡ true → commits_of session (newer ++ older) ≡ seq
        → manifest_chunks n streams (record { session = session; seq = seq }) ≡ chunks
        → IsStoredOf chunks against (end_of session plans) n.room stored
        → (Allowed (newer ++ older) → AreLoadsOf n streams (λ b. In b texts) (newer ++ older) plans (pending_champions session (newer ++ older)) against)
        → Told texts newer plans shelf
        → Told texts (made author (commit_point session seq stored) ∷ newer) (plan_for n streams (record { session = session; seq = seq }) against plans ∷ plans)
        (after_segment shelf (record { session = session; seq = seq }) chunks against (end_of session plans) n.room)

  module _ (telling : IsTelling) where
    -- ---- the loads of a list of champions

    pub record LoadsTold (texts : List (List ℕ)) (newer : List Entry) (plans : List Planned) (holds : Holding) (shelf : ShelfView) (ids : List ManifestId) (manifests : List Manifest) : Type 0 where
      pub gave : List (List ℕ)
      pub older_too : (b : List ℕ) → In b texts → In b gave
      pub told : Told gave newer plans shelf
      pub are : Allowed (newer ++ older) → (all : List (List ℕ)) → ((b : List ℕ) → In b gave → In b all) → AreLoadsOf n streams (λ b. In b all) (newer ++ older) plans ids (located manifests)
      pub backed : Allowed (newer ++ older) → (entry : ManifestId × CachedView) → IsOfLoad holds (all_kept ids (newer ++ older)) manifests entry → IsBacked gave newer plans entry

    -- one of them, which the cache held or which was loaded
    record OneTold (texts : List (List ℕ)) (newer : List Entry) (plans : List Planned) (shelf : ShelfView) (view : KeptView) (manifest : Manifest) : Type 0 where
      gave : List (List ℕ)
      older_too : (b : List ℕ) → In b texts → In b gave
      told : Told gave newer plans shelf
      source : Allowed (newer ++ older) → In (text_loaded manifest) gave ⊎ (text_loaded manifest ≡ manifest_text (manifest_pieces n streams view.id) (planned_places view.id plans))
      like : AreManifest manifest.pieces.items manifest.places.items
      digest : name_of_bytes (text_loaded manifest) ≡ view.text

    one_told : (texts : List (List ℕ)) (newer : List Entry) (plans : List Planned) (cache : Entries) (shelf : ShelfView) (view : KeptView) (manifest : Manifest)
        → is_live view.id (newer ++ older) ≡ true → kept view.id (newer ++ older) ≡ Some view → Told texts newer plans shelf → AreBacked texts newer plans cache
        → IsThere (held cache) shelf view manifest → OneTold texts newer plans (after_turn (held cache) shelf view manifest) view manifest
    one_told texts newer plans cache shelf view manifest live kept_is told backed (was_held is of) = record {
      gave = texts;
      older_too = λ b there. there;
      told = subst (Told texts newer plans) (sym (turn_held (held cache) shelf view manifest (listed_by manifest) is)) told;
      source = λ allowed. (backed allowed (view.id, cached view (listed_by manifest)) (held_lies cache view (listed_by manifest) is)).source;
      like = of.like.manifest;
      digest = of.digest;
    }
    one_told texts newer plans cache shelf view manifest live kept_is told backed (was_loaded none loaded) =
        let one = telling.load texts newer plans shelf view manifest live kept_is loaded told in
        record {
          gave = one.gave;
          older_too = one.older_too;
          told = subst (Told one.gave newer plans) (sym (turn_loaded (held cache) shelf view manifest none)) one.told;
          source = one.source;
          like = loaded.like.manifest;
          digest = loaded.digest;
        }

    one_load : (all : List (List ℕ)) (past : List Entry) (plans : List Planned) (id : ManifestId) (manifest : Manifest) (is : IsKept id past)
        → AreManifest manifest.pieces.items manifest.places.items → name_of_bytes (text_loaded manifest) ≡ is.view.text
        → In (text_loaded manifest) all ⊎ (text_loaded manifest ≡ manifest_text (manifest_pieces n streams is.view.id) (planned_places is.view.id plans))
        → IsLoadOf n streams (λ b. In b all) past plans id (record { pieces = manifest.pieces.items; places = manifest.places.items })
    one_load all past plans id manifest is like digest source = record {
      manifest = like;
      digest = λ view kept_is. digest ∙ ap (λ (o : Option KeptView). (unwrap_or o is.view).text) (sym is.kept_is ∙ kept_is);
      source = subst (λ (i : ManifestId). In (text_loaded manifest) all ⊎ (text_loaded manifest ≡ manifest_text (manifest_pieces n streams i) (planned_places i plans))) is.same source;
    }

    pub all_loads : (texts : List (List ℕ)) (newer : List Entry) (plans : List Planned) (cache : Entries) (shelf : ShelfView) (ids : List ManifestId) (manifests : List Manifest)
        → ((id : ManifestId) → In id ids → is_live id (newer ++ older) ≡ true)
        → AreLoaded (held cache) shelf (all_kept ids (newer ++ older)) manifests
        → Told texts newer plans shelf → AreBacked texts newer plans cache → LoadsTold texts newer plans (held cache) (after_loads (held cache) shelf (all_kept ids (newer ++ older)) manifests) ids manifests
    all_loads texts newer plans cache shelf [] [] live are told backed = record { gave = texts; older_too = λ b there. there; told = told; are = λ allowed all more. tt; backed = λ allowed entry of. absurd of }
    all_loads texts newer plans cache shelf [] (manifest ∷ manifests) live are told backed = absurd are
    all_loads texts newer plans cache shelf (id ∷ ids) [] live are told backed =
        let past = newer ++ older in
        let is = kept_there id past (live_committed id past (live id (inl refl))) in
        let kepts = all_kept-first id ids past is.view is.kept_is in
        absurd (subst (λ (ks : List KeptView). AreLoaded (held cache) shelf ks []) kepts are)
    all_loads texts newer plans cache shelf (id ∷ ids) (manifest ∷ manifests) live are told backed =
        let past = newer ++ older in
        let holds = held cache in
        let is = kept_there id past (live_committed id past (live id (inl refl))) in
        let kepts = all_kept-first id ids past is.view is.kept_is in
        let loaded = subst (λ (ks : List KeptView). AreLoaded holds shelf ks (manifest ∷ manifests)) kepts are in
        let own_live : is_live is.view.id past ≡ true = subst (λ (i : ManifestId). is_live i past ≡ true) (sym is.same) (live id (inl refl)) in
        let own_kept : kept is.view.id past ≡ Some is.view = ap (λ (i : ManifestId). kept i past) is.same ∙ is.kept_is in
        let one = one_told texts newer plans cache shelf is.view manifest own_live own_kept told backed loaded.0 in
        let rest = all_loads one.gave newer plans cache (after_turn holds shelf is.view manifest) ids manifests (λ i there. live i (inr there)) loaded.1 one.told
        (λ allowed entry lies. backed_more texts one.gave newer plans entry one.older_too (backed allowed entry lies)) in
        let planned = text_loaded manifest ≡ manifest_text (manifest_pieces n streams is.view.id) (planned_places is.view.id plans) in
        record {
          gave = rest.gave;
          older_too = λ b there. rest.older_too b (one.older_too b there);
          told = subst (λ (ks : List KeptView). Told rest.gave newer plans (after_loads holds shelf ks (manifest ∷ manifests))) (sym kepts) rest.told;
          are = λ allowed all more. (
            one_load all past plans id manifest is one.like one.digest (source_more one.gave all (text_loaded manifest) planned (λ b there. more b (rest.older_too b there)) (one.source allowed)),
            rest.are allowed all more,
          );
          backed = λ allowed entry of. elim (subst (λ (ks : List KeptView). IsOfLoad holds ks (manifest ∷ manifests) entry) kepts of) [
            | inl here ↦ subst (λ (e : ManifestId × CachedView). IsBacked rest.gave newer plans e) (sym here.1)
                (record { committed = live_committed is.view.id past own_live; source = source_more one.gave rest.gave (text_loaded manifest) planned rest.older_too (one.source allowed) })
            | inr later ↦ rest.backed allowed entry later
          ];
        }

    -- ---- a session so far

    pub record IsSoFar (count : ℕ) (past : List Entry) (shelf : ShelfView) (end : ContainerEnd) (cache : Entries) : Type 0 where
      pub newer : List Entry
      pub past_is : past ≡ newer ++ older
      pub counted : commits_of session (newer ++ older) ≡ count
      pub lists : List (List Located)
      pub lists_count : length lists ≡ count
      pub plans : List Planned
      pub plans_are : (tail : List (List Located)) → loaded_plans n streams (loads_of (lists ++ tail)) newer older ≡ plans
      pub end_is : end_of session plans ≡ end
      pub texts : List (List ℕ)
      pub told : Told texts newer plans shelf
      pub backed : AreBacked texts newer plans cache
      pub stores : Allowed (newer ++ older) → (tail : List (List Located)) (all : List (List ℕ)) → ((b : List ℕ) → In b texts → In b all) → StoresLoaded n streams (loads_of (lists ++ tail)) (λ b. In b all) newer older

    -- a choice
    pub chosen_so_far : (count : ℕ) (past : List Entry) (shelf : ShelfView) (end : ContainerEnd) (cache : Entries) (chosen : List Name) (ids : List ManifestId) → IsSoFar count past shelf end cache → IsSoFar count (made author (Choose session chosen ids) ∷ past) shelf end cache
    unfolding loaded_plans loaded_after commits_of commits
    chosen_so_far count past shelf end cache chosen ids so =
        let choice = made author (Choose session chosen ids) in
        record {
          newer = choice ∷ so.newer;
          past_is = ap (λ (p : List Entry). choice ∷ p) so.past_is;
          counted = so.counted;
          lists = so.lists;
          lists_count = so.lists_count;
          plans = so.plans;
          plans_are = so.plans_are;
          end_is = so.end_is;
          texts = so.texts;
          told = telling.choose so.texts so.newer so.plans shelf chosen ids so.told;
          backed = λ allowed entry lies.
              let is = so.backed (telling.before choice (so.newer ++ older) allowed) entry lies in
              record { committed = has_older (commits_manifest entry.0) choice (so.newer ++ older) is.committed; source = is.source };
          stores = λ allowed tail all more. (so.stores (telling.before choice (so.newer ++ older) allowed) tail all more, tt);
        }

    -- ---- how a session ends

    -- the last entry commits nothing, and behind the shelf of the commits something may be left
    pub record HasEnded (past : List Entry) (after : ShelfView) : Type 0 where
      pub last : Entry
      pub then_newer : List Entry
      pub past_is : past ≡ last ∷ (then_newer ++ older)
      pub commits_none : (id : ManifestId) → commits_manifest id last.point ≡ false
      pub count : ℕ
      pub counted : commits_of session (then_newer ++ older) ≡ count
      pub loads : Loads
      pub texts : List (List ℕ)
      pub then_plans : List Planned
      pub then_shelf : ShelfView
      pub told : Told texts then_newer then_plans then_shelf
      pub gave_more : GaveMore then_shelf after
      pub left : IsLeft n author session count last then_plans then_shelf after
      pub wrote : IsUnwritten then_shelf after ⊎ PutsPending n streams older session Allowed texts then_newer then_plans count last then_shelf after
      pub stores : Allowed (last ∷ (then_newer ++ older)) → (all : List (List ℕ)) → ((b : List ℕ) → In b texts → In b all) → StoresLoaded n streams loads (λ b. In b all) (last ∷ then_newer) older

    module _ (count : ℕ) (past : List Entry) (shelf : ShelfView) (end : ContainerEnd) (cache : Entries) (so : IsSoFar count past shelf end cache) (after : ShelfView) (gave : GaveMore shelf after) (held : after.held ≡ shelf.held) (unwritten : IsUnwritten shelf after) where
      -- with an end that has as many containers as are laid out
      ended : (point : Point) → ((id : ManifestId) → commits_manifest id point ≡ false) → ((all : List (List ℕ)) (plans : List Planned) → end_of session plans ≡ end → LoadedOf n streams (loads_of (so.lists ++ [])) (λ b. In b all) (so.newer ++ older) plans point)
          → ((e : ContainerEnd) → e ≡ end → Closes session e.containers count (made author point)) → HasEnded (made author point ∷ past) after
      ended point keeps says closes = record {
        last = made author point;
        then_newer = so.newer;
        past_is = ap (λ (p : List Entry). made author point ∷ p) so.past_is;
        commits_none = keeps;
        count = count;
        counted = so.counted;
        loads = loads_of (so.lists ++ []);
        texts = so.texts;
        then_plans = so.plans;
        then_shelf = shelf;
        told = so.told;
        gave_more = gave;
        left = untouched held (closes (end_of session so.plans) so.end_is);
        wrote = inl unwritten;
        stores = λ allowed all more.
            let plans = loaded_plans n streams (loads_of (so.lists ++ [])) so.newer older in
            (so.stores (telling.before (made author point) (so.newer ++ older) allowed) [] all more, says all plans (ap (end_of session) (so.plans_are []) ∙ so.end_is));
      }

      pub finished_so : HasEnded (made author (Finish session end.containers) ∷ past) after
      unfolding commits_manifest
      finished_so = ended (Finish session end.containers) (λ id. refl) (λ all plans is. sym (ap (λ (e : ContainerEnd). e.containers) is)) (λ e is. by_finish (ap (λ (x : ContainerEnd). Finish session x.containers) (sym is)))

      pub given_up_so : (written : ℕ) → count ≤ written → HasEnded (made author (Abort session end.containers written) ∷ past) after
      unfolding commits_manifest
      given_up_so written least = ended (Abort session end.containers written) (λ id. refl) (λ all plans is. inl (sym (ap (λ (e : ContainerEnd). e.containers) is))) (λ e is. by_abort written least (ap (λ (x : ContainerEnd). Abort session x.containers written) (sym is)))

    -- ---- its start

    pub start_so_far : (name : List ℕ) (shelf : ShelfView) → commits_of session (made author (Begin name (Some session)) ∷ older) ≡ 0 → Told [] (made author (Begin name (Some session)) ∷ []) (plans_of n streams older) shelf
        → IsSoFar 0 (made author (Begin name (Some session)) ∷ older) shelf (no_end session) []
    unfolding loaded_plans loaded_after commits_of commits
    start_so_far name shelf none told = record {
      newer = made author (Begin name (Some session)) ∷ [];
      past_is = refl;
      counted = none;
      lists = [];
      lists_count = refl;
      plans = plans_of n streams older;
      plans_are = λ tail. refl;
      end_is = end_at_first n streams session older none;
      texts = [];
      told = told;
      backed = λ allowed entry lies. absurd (in_Contains entry [] lies);
      stores = λ allowed tail all more. (tt, tt);
    }

    -- ---- the segment behind a choice

    module _ (front rest : List (List (List ℕ))) (chunks : List (List ℕ)) (are : segments_of n (streams session) ≡ front ++ chunks ∷ rest) (rules : Rules) (past : List Entry) (legal : is_legal rules past ≡ true) (shelf : ShelfView) (end : ContainerEnd) (cache : Entries) (so : IsSoFar (length front) past shelf end cache) (ids : List ManifestId) (pending_are : pending_champions session past ≡ ids) (manifests : List Manifest) (loaded : AreLoaded (held cache) shelf (all_kept ids past) manifests) where
      abbrev next : ManifestId
      next = record { session = session; seq = length front }

      abbrev before : List Entry
      before = so.newer ++ older

      abbrev against : List Located
      against = located manifests

      champion_there : (id : ManifestId) → In id ids → is_live id before ≡ true
      unfolding has_manifest
      champion_there id there =
          subst (λ (p : List Entry). is_live id p ≡ true) so.past_is
          (pending_live rules session id past legal
          (subst (λ (all : List ManifestId). has_manifest id all ≡ true) (sym pending_are) (in_any (same_manifest id) id ids there (same_manifest-self id))))

      loads_now : LoadsTold so.texts so.newer so.plans (held cache) (after_loads (held cache) shelf (all_kept ids before) manifests) ids manifests
      loads_now = all_loads so.texts so.newer so.plans cache shelf ids manifests champion_there (subst (λ (p : List Entry). AreLoaded (held cache) shelf (all_kept ids p) manifests) so.past_is loaded) so.told so.backed

      ids_now : pending_champions session before ≡ ids
      ids_now = ap (pending_champions session) (sym so.past_is) ∙ pending_are

      the_chunks : manifest_chunks n streams next ≡ chunks
      the_chunks = next_chunks n streams session front rest chunks are

      -- what was loaded for this segment
      list_now : (tail : List (List Located)) → loads_of (so.lists ++ against ∷ tail) next ≡ against
      list_now tail = ap (λ (k : ℕ). slice_index_or (so.lists ++ against ∷ tail) k []) (sym so.lists_count) ∙ item_behind so.lists against tail []

      one_list : (tail : List (List Located)) → (so.lists ++ against ∷ []) ++ tail ≡ so.lists ++ against ∷ tail
      one_list tail = append_assoc so.lists (against ∷ []) tail

      loads_said : Allowed before → (all : List (List ℕ)) → ((b : List ℕ) → In b loads_now.gave → In b all) → (tail : List (List Located)) → (plans : List Planned) → plans ≡ so.plans
          → AreLoadsOf n streams (λ b. In b all) before plans (pending_champions session before) (loads_of (so.lists ++ against ∷ tail) next)
      loads_said allowed all more tail plans same =
          subst (λ (ps : List Planned). AreLoadsOf n streams (λ b. In b all) before ps (pending_champions session before) (loads_of (so.lists ++ against ∷ tail) next)) (sym same)
          (subst (λ (cs : List ManifestId). AreLoadsOf n streams (λ b. In b all) before so.plans cs (loads_of (so.lists ++ against ∷ tail) next)) (sym ids_now)
          (subst (λ (ls : List Located). AreLoadsOf n streams (λ b. In b all) before so.plans ids ls) (sym (list_now tail)) (loads_now.are allowed all more)))

      loads_for : Allowed before → AreLoadsOf n streams (λ b. In b loads_now.gave) before so.plans (pending_champions session before) against
      loads_for allowed =
          subst (λ (cs : List ManifestId). AreLoadsOf n streams (λ b. In b loads_now.gave) before so.plans cs against) (sym ids_now)
          (loads_now.are allowed loads_now.gave (λ b there. there))

      end_laid : (plan_for n streams next against so.plans).end ≡ end_against chunks against end n.room
      unfolding plan_for
      end_laid = λ i. end_against (the_chunks i) against (so.end_is i) n.room

      next_session : (ls : List Located) → ((plan_for n streams next ls so.plans).id.session == session) ≡ true
      unfolding plan_for
      next_session ls = self session

      -- the session is given up with the segment laid out
      abbrev give_up : ℕ → Entry
      give_up written = made author (Abort session (end_against chunks against end n.room).containers written)

      is_next : next_of session before ≡ next
      is_next = λ i. record { session = session; seq = so.counted i }

      laid_said : (tail : List (List Located)) → (plans : List Planned) → plans ≡ so.plans
          → (end_against chunks against end n.room).containers ≡ (plan_for n streams next (loads_of (so.lists ++ against ∷ tail) next) plans).end.containers
      laid_said tail plans same = sym ((λ i. (plan_for n streams next (list_now tail i) (same i)).end.containers) ∙ ap (λ (e : ContainerEnd). e.containers) end_laid)

      aborts_said : Allowed before → (tail : List (List Located)) (all : List (List ℕ)) → ((b : List ℕ) → In b loads_now.gave → In b all) → is_pending session past ≡ true → (plans : List Planned) → plans ≡ so.plans
          → AbortsLoaded n streams (loads_of (so.lists ++ against ∷ tail)) (λ b. In b all) before plans session (end_against chunks against end n.room).containers
      aborts_said allowed tail all more waits plans same =
          let loads = loads_of (so.lists ++ against ∷ tail) in
          inr (
            subst (λ (p : List Entry). is_pending session p ≡ true) so.past_is waits,
            subst (λ (id : ManifestId). AreLoadsOf n streams (λ b. In b all) before plans (pending_champions session before) (loads id)) (sym is_next) (loads_said allowed all more tail plans same),
            subst (λ (id : ManifestId). (end_against chunks against end n.room).containers ≡ (plan_for n streams id (loads id) plans).end.containers) (sym is_next) (laid_said tail plans same),
          )

      pub given_up_pending : (after : ShelfView) (written : ℕ) → is_pending session past ≡ true → GaveMore (after_loads (held cache) shelf (all_kept ids past) manifests) after
          → HasPutSome next chunks against end n.room written (after_loads (held cache) shelf (all_kept ids past) manifests) after → HasEnded (give_up written ∷ past) after
      unfolding commits_manifest
      given_up_pending after written waits gave some = record {
        last = give_up written;
        then_newer = so.newer;
        past_is = ap (λ (p : List Entry). give_up written ∷ p) so.past_is;
        commits_none = λ id. refl;
        count = length front;
        counted = so.counted;
        loads = loads_of (so.lists ++ against ∷ []);
        texts = loads_now.gave;
        then_plans = so.plans;
        then_shelf = after_loads (held cache) shelf (all_kept ids before) manifests;
        told = loads_now.told;
        gave_more = subst (λ (p : List Entry). GaveMore (after_loads (held cache) shelf (all_kept ids p) manifests) after) so.past_is gave;
        left =
            put_some chunks against written (ap (λ (e : ContainerEnd). made author (Abort session (end_against chunks against e n.room).containers written)) (sym so.end_is))
            (subst (λ (e : ContainerEnd). HasPutSome next chunks against e n.room written (after_loads (held cache) shelf (all_kept ids before) manifests) after) (sym so.end_is)
            (subst (λ (p : List Entry). HasPutSome next chunks against end n.room written (after_loads (held cache) shelf (all_kept ids p) manifests) after) so.past_is some));
        wrote = inr (record {
          against = against;
          containers = (end_against chunks against end n.room).containers;
          written = written;
          last_is = refl;
          waits = subst (λ (p : List Entry). is_pending session p ≡ true) so.past_is waits;
          loads = loads_for;
          some =
              subst (λ (cs : List (List ℕ)). HasPutSome next cs against (end_of session so.plans) n.room written (after_loads (held cache) shelf (all_kept ids before) manifests) after) (sym the_chunks)
              (subst (λ (e : ContainerEnd). HasPutSome next chunks against e n.room written (after_loads (held cache) shelf (all_kept ids before) manifests) after) (sym so.end_is)
              (subst (λ (p : List Entry). HasPutSome next chunks against end n.room written (after_loads (held cache) shelf (all_kept ids p) manifests) after) so.past_is some));
        });
        stores = λ allowed all more.
            let older_allowed = telling.before (give_up written) before allowed in
            let plans = loaded_plans n streams (loads_of (so.lists ++ against ∷ [])) so.newer older in
            (so.stores older_allowed (against ∷ []) all (λ b there. more b (loads_now.older_too b there)), aborts_said older_allowed [] all more waits plans (so.plans_are (against ∷ [])));
      }

      module _ (stored : Stored) (of : IsStoredOf chunks against end n.room stored) where
        of_plans : IsStoredOf chunks against (end_of session so.plans) n.room stored
        of_plans = subst (λ (e : ContainerEnd). IsStoredOf chunks against e n.room stored) (sym so.end_is) of

        stores_it : StoresSegment n streams next against so.plans stored.text stored.fresh stored.fresh_bytes stored.uses.items
        unfolding plan_for manifest_pieces
        stores_it =
            let is = subst (λ (cs : List (List ℕ)). IsStoredOf cs against (end_of session so.plans) n.room stored) (sym the_chunks) of_plans in
            record { fresh_count = is.fresh_count; fresh_sum = is.fresh_len; containers = is.uses; digest = is.text }

        stores_said : (tail : List (List Located)) → (plans : List Planned) → plans ≡ so.plans → StoresSegment n streams next (loads_of (so.lists ++ against ∷ tail) next) plans stored.text stored.fresh stored.fresh_bytes stored.uses.items
        stores_said tail plans same =
            subst (λ (ps : List Planned). StoresSegment n streams next (loads_of (so.lists ++ against ∷ tail) next) ps stored.text stored.fresh stored.fresh_bytes stored.uses.items) (sym same)
            (subst (λ (ls : List Located). StoresSegment n streams next ls so.plans stored.text stored.fresh stored.fresh_bytes stored.uses.items) (sym (list_now tail)) stores_it)

        abbrev commit_it : Entry
        commit_it = made author (commit_point session (length front) stored)

        plans_now : (tail : List (List Located)) → loaded_plans n streams (loads_of (so.lists ++ against ∷ tail)) (commit_it ∷ so.newer) older ≡ plan_for n streams next against so.plans ∷ so.plans
        unfolding loaded_plans loaded_after
        plans_now tail = λ i. plan_for n streams next (list_now tail i) (so.plans_are (against ∷ tail) i) ∷ so.plans_are (against ∷ tail) i

        stores_now : Allowed before → (tail : List (List Located)) (all : List (List ℕ)) → ((b : List ℕ) → In b loads_now.gave → In b all) → StoresLoaded n streams (loads_of (so.lists ++ against ∷ tail)) (λ b. In b all) (commit_it ∷ so.newer) older
        stores_now allowed tail all more =
            let plans = loaded_plans n streams (loads_of (so.lists ++ against ∷ tail)) so.newer older in (
              so.stores allowed (against ∷ tail) all (λ b there. more b (loads_now.older_too b there)),
              (loads_said allowed all more tail plans (so.plans_are (against ∷ tail)), stores_said tail plans (so.plans_are (against ∷ tail))),
            )

        planned_other : (id : ManifestId) → same_manifest id next ≡ false → planned_places id (plan_for n streams next against so.plans ∷ so.plans) ≡ planned_places id so.plans
        unfolding planned_places plan_of plan_for
        planned_other id differ = rw differ refl

        not_before : (id : ManifestId) → has (commits_manifest id) before ≡ true → same_manifest id next ≡ false
        not_before id there = elim (cases_Bool (same_manifest id next)) [
          | inl same ↦
              let is : id ≡ next = same_manifest-true id next same in
              let below = committed_below rules next before (subst (λ (p : List Entry). is_legal rules p ≡ true) so.past_is legal) (subst (λ (m : ManifestId). has (commits_manifest m) before ≡ true) is there) in
              let counted = so.counted in
              absurd (omega (arith, below, counted))
          | inr differ ↦ differ
        ]

        -- an entry stays backed behind the commit
        backed_still : (entry : ManifestId × CachedView) → IsBacked loads_now.gave so.newer so.plans entry → IsBacked loads_now.gave (commit_it ∷ so.newer) (plan_for n streams next against so.plans ∷ so.plans) entry
        backed_still entry is = record {
          committed = has_older (commits_manifest entry.0) commit_it before is.committed;
          source =
              subst (λ (ps : List Place). In (loaded_text entry.1.manifest) loads_now.gave ⊎ (loaded_text entry.1.manifest ≡ manifest_text (manifest_pieces n streams entry.0) ps))
              (sym (planned_other entry.0 (not_before entry.0 is.committed))) is.source;
        }

        backed_now : (cache' : Entries) → HasCached cache cache' (all_kept ids past) manifests → AreBacked loads_now.gave (commit_it ∷ so.newer) (plan_for n streams next against so.plans ∷ so.plans) cache'
        backed_now cache' has = λ allowed entry lies.
            let earlier = telling.before commit_it before allowed in
            elim (has entry lies) [
              | inl was ↦ backed_still entry (backed_more so.texts loads_now.gave so.newer so.plans entry loads_now.older_too (so.backed earlier entry was))
              | inr of ↦ backed_still entry (loads_now.backed earlier entry (subst (λ (p : List Entry). IsOfLoad (held cache) (all_kept ids p) manifests entry) so.past_is of))
            ]

        pub committed_so_far : (cache' : Entries) → HasCached cache cache' (all_kept ids past) manifests → IsSoFar (length (front ++ chunks ∷ [])) (commit_it ∷ past) (after_segment (after_loads (held cache) shelf (all_kept ids past) manifests) next chunks against end n.room) (end_against chunks against end n.room) cache'
        unfolding commits_of commits
        committed_so_far cache' has_cached =
            let one = count_one (λ (x : Entry). commits session x.point) commit_it before (self session) in
            let counted = so.counted in
            let longer = length-append front (chunks ∷ []) in
            let lists_count = so.lists_count in
            let lists_longer = length-append so.lists (against ∷ []) in
            let told =
            telling.commit rules loads_now.gave so.newer so.plans (after_loads (held cache) shelf (all_kept ids before) manifests) (length front) chunks against stored
            (subst (λ (p : List Entry). is_legal rules p ≡ true) so.past_is legal) so.counted the_chunks of_plans loads_for loads_now.told in
            record {
              newer = commit_it ∷ so.newer;
              past_is = ap (λ (p : List Entry). commit_it ∷ p) so.past_is;
              counted = omega (arith, one, counted, longer);
              lists = so.lists ++ against ∷ [];
              lists_count = omega (arith, lists_count, longer, lists_longer);
              plans = plan_for n streams next against so.plans ∷ so.plans;
              plans_are = λ tail. ap (λ (ls : List (List Located)). loaded_plans n streams (loads_of ls) (commit_it ∷ so.newer) older) (one_list tail) ∙ plans_now tail;
              end_is = end_own (plan_for n streams next against so.plans) session so.plans (next_session against) ∙ end_laid;
              texts = loads_now.gave;
              told =
                  subst (λ (p : List Entry). Told loads_now.gave (commit_it ∷ so.newer) (plan_for n streams next against so.plans ∷ so.plans) (after_segment (after_loads (held cache) shelf (all_kept ids p) manifests) next chunks against end n.room)) (sym so.past_is)
                  (subst (λ (e : ContainerEnd). Told loads_now.gave (commit_it ∷ so.newer) (plan_for n streams next against so.plans ∷ so.plans) (after_segment (after_loads (held cache) shelf (all_kept ids before) manifests) next chunks against e n.room)) so.end_is told);
              backed = backed_now cache' has_cached;
              stores = λ allowed tail all more. subst (λ (ls : List (List Located)). StoresLoaded n streams (loads_of ls) (λ b. In b all) (commit_it ∷ so.newer) older) (sym (one_list tail)) (stores_now (telling.before commit_it before allowed) tail all more);
            }
