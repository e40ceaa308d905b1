-- What was loaded for a segment is what its champions committed, or there is a collision.
use Rattle.std.proofs.Common.{◌≡◌, ◌≢◌, ◌⊎◌, ℕ, ◌≤◌, true, List, [], ◌∷◌, ◌++◌, refl, sym, ap, ◌∙◌, subst, inl, inr, arith}
use mathlib.Core.List.{map}
use Rattle.std.specs.List.{All}
use Rattle.std.proofs.lemmas.Bool.{false≢true}
use Rattle.std.proofs.lemmas.List.Elements.{All-tail}
use Rattle.ss_base.specs.declared.ids.ManifestId.{ManifestId}
use Rattle.ss_base.specs.declared.profile.Numbers.{Numbers}
use Rattle.ss_base.specs.Profile.{AreSound}
use Rattle.ss_base.specs.Ids.{same_manifest, has_manifest}
use Rattle.ss_base.proofs.MemberLaws.{In, in_any}
use Rattle.ss_base.proofs.IdLaws.{same_manifest-self}
use Rattle.chunk_name.specs.Pieces.{name_of_bytes}
use Rattle.manifest_codec.specs.Text.{manifest_text}
use Rattle.manifest_codec.proofs.TextLaws as text
use Rattle.container_file.proofs.LayoutLaws.{end_bounds}
use Rattle.segment_plan.specs.Plan.{Located, pieces_of, fresh_of, end_against}
use Rattle.journal_entry.specs.declared.entry.Entry.{Entry}
use Rattle.journal_entry.specs.declared.entry.Point.{Point}
use Rattle.journal_entry.specs.declared.entry.Point.TheVariants.{Commit, Finish, Abort}
use Rattle.journal_entry.specs.Bounds.{IsEntry}
use Rattle.history.specs.declared.rules.Rules.{Rules}
use Rattle.history.specs.Sessions.{has, pending_champions}
use Rattle.history.specs.Need.{commits_manifest}
use Rattle.history.specs.Legal.{is_legal}
use Rattle.history_laws.proofs.Allowed.{IsStep, step}
use Rattle.history_laws.proofs.LiveLaws.{pending_committed}
use Rattle.stored_streams.specs.Streams.{Streams, manifest_chunks, manifest_pieces}
use Rattle.stored_streams.specs.Plans.{Planned, planned_places, located_of, plan_for, next_plan, plans_after, plans_of, end_of, text_of}
use Rattle.stored_streams.specs.OfStreams.{next_of, ContentOf, StoredOf, EndOf, EachEntry, HasContents, HasStored, IsOfStreams, StoresSegment}
use Rattle.stored_streams.specs.Collision.{Collide}
use Rattle.stored_streams.specs.Loads.{Loads, loaded_text, loaded_after, loaded_plans, IsLoadOf, AreLoadsOf, LoadedOf, StoresLoaded}
use Rattle.stored_streams.proofs.ListLaws.{same_bytes}
use Rattle.stored_streams.proofs.CommittedLaws.{committed_kept, committed_manifest}
use Rattle.stored_streams.proofs.CollisionLaws.{collide_more}

-- what is known of the entries before
pub record IsKnown (n : Numbers) (streams : Streams) (rules : Rules) (past : List Entry) : Type 0 where
  pub sound : AreSound n
  pub legal : is_legal rules past ≡ true
  pub entries : All IsEntry past
  pub contents : EachEntry (ContentOf n streams) past
  pub stored : EachEntry (StoredOf n streams) past

located_one : Numbers → Streams → List Planned → ManifestId → Located
located_one n streams plans id = record { pieces = manifest_pieces n streams id; places = planned_places id plans }

text_is : (n : Numbers) (streams : Streams) (past : List Entry) (id : ManifestId) (l : Located) → loaded_text l ≡ text_of n streams id past → manifest_text l.pieces l.places ≡ manifest_text (manifest_pieces n streams id) (planned_places id (plans_of n streams past))
unfolding text_of
text_is n streams past id l same = same

-- What reads may bring: bytes that were given, and have a committed manifest's digest, but are not its text.
pub record Brings (n : Numbers) (streams : Streams) (given : List ℕ → Type 0) (Bad : List Entry → Type 0) : Type 0 where
  pub read : (past : List Entry) (id : ManifestId) (bytes : List ℕ) → has (commits_manifest id) past ≡ true → name_of_bytes bytes ≡ name_of_bytes (text_of n streams id past) → bytes ≢ text_of n streams id past → given bytes → Bad past
  pub more : (rules : Rules) (entry : Entry) (past : List Entry) → IsStep rules entry past → Bad past → Bad (entry ∷ past)

not_planned : (n : Numbers) (streams : Streams) (given : List ℕ → Type 0) (Bad : List Entry → Type 0) (brings : Brings n streams given Bad) (past : List Entry) (id : ManifestId) (l : Located) → has (commits_manifest id) past ≡ true → name_of_bytes (loaded_text l) ≡ name_of_bytes (text_of n streams id past) → loaded_text l ≢ text_of n streams id past
    → given (loaded_text l) ⊎ (loaded_text l ≡ manifest_text (manifest_pieces n streams id) (planned_places id (plans_of n streams past))) → Bad past
unfolding text_of
not_planned n streams given Bad brings past id l committed digest differ (inl read) = brings.read past id (loaded_text l) committed digest differ read
not_planned n streams given Bad brings past id l committed digest differ (inr planned) = absurd (differ planned)

-- one load
one_load : (n : Numbers) (streams : Streams) (rules : Rules) (given : List ℕ → Type 0) (Bad : List Entry → Type 0) (brings : Brings n streams given Bad) (past : List Entry) (id : ManifestId) (l : Located) → IsKnown n streams rules past → has (commits_manifest id) past ≡ true → IsLoadOf n streams given past (plans_of n streams past) id l → (l ≡ located_one n streams (plans_of n streams past) id) ⊎ Bad past
unfolding located_one
one_load n streams rules given Bad brings past id l known committed is =
    let plans = plans_of n streams past in
    let kept = committed_kept n streams rules past id known.sound known.legal known.entries known.contents known.stored committed in
    let digest : name_of_bytes (loaded_text l) ≡ name_of_bytes (text_of n streams id past) = is.digest kept.view kept.kept_is ∙ kept.digest in
    elim (same_bytes (loaded_text l) (text_of n streams id past)) [
      | inl same ↦
          let both = text.same_manifest l.pieces (manifest_pieces n streams id) l.places (planned_places id plans) is.manifest (committed_manifest n streams past id known.sound kept) (text_is n streams past id l same) in
          inl (λ i. record { pieces = both.0 i; places = both.1 i })
      | inr differ ↦ inr (not_planned n streams given Bad brings past id l committed digest differ is.source)
    ]

-- the loads of a list of champions
all_loads : (n : Numbers) (streams : Streams) (rules : Rules) (given : List ℕ → Type 0) (Bad : List Entry → Type 0) (brings : Brings n streams given Bad) (past : List Entry) (ids : List ManifestId) (ls : List Located) → IsKnown n streams rules past → ((id : ManifestId) → In id ids → has (commits_manifest id) past ≡ true) → AreLoadsOf n streams given past (plans_of n streams past) ids ls → (ls ≡ map (located_one n streams (plans_of n streams past)) ids) ⊎ Bad past
all_loads n streams rules given Bad brings past [] [] known committed are = inl refl
all_loads n streams rules given Bad brings past [] (l ∷ ls) known committed are = absurd are
all_loads n streams rules given Bad brings past (id ∷ ids) [] known committed are = absurd are
all_loads n streams rules given Bad brings past (id ∷ ids) (l ∷ ls) known committed are =
    elim (one_load n streams rules given Bad brings past id l known (committed id (inl refl)) are.0) [
      | inl first ↦ elim (all_loads n streams rules given Bad brings past ids ls known (λ x h. committed x (inr h)) are.1) [
        | inl rest ↦ inl (λ i. first i ∷ rest i)
        | inr collides ↦ inr collides
      ]
      | inr collides ↦ inr collides
    ]

-- what was loaded for a session's pending champions
pub loads_are : (n : Numbers) (streams : Streams) (rules : Rules) (given : List ℕ → Type 0) (Bad : List Entry → Type 0) (brings : Brings n streams given Bad) (past : List Entry) (session : ℕ) (ls : List Located) → IsKnown n streams rules past → AreLoadsOf n streams given past (plans_of n streams past) (pending_champions session past) ls → (ls ≡ located_of n streams (pending_champions session past) (plans_of n streams past)) ⊎ Bad past
unfolding located_of located_one has_manifest
loads_are n streams rules given Bad brings past session ls known are =
    let ids = pending_champions session past in
    all_loads n streams rules given Bad brings past ids ls known
    (λ id h. pending_committed rules session id past known.legal (in_any (same_manifest id) id ids h (same_manifest-self id)))
    are

-- ---- containers never get fewer

no_fewer : (n : Numbers) (streams : Streams) (id : ManifestId) (located : List Located) (plans : List Planned) → (end_of id.session plans).containers ≤ (plan_for n streams id located plans).end.containers
unfolding plan_for end_against
no_fewer n streams id located plans = (end_bounds (end_of id.session plans) n.room (fresh_of (manifest_chunks n streams id) (pieces_of located))).0

-- ---- one entry more

-- the newer entries store what the streams say, and their plans are those of the streams
record IsInStep (n : Numbers) (streams : Streams) (loads : Loads) (newer older : List Entry) : Type 0 where
  pub stored : HasStored n streams (newer ++ older)
  pub same : loaded_plans n streams loads newer older ≡ plans_of n streams (newer ++ older)

-- what one entry says of the streams, and the plans behind it
record StepIs (n : Numbers) (streams : Streams) (loads : Loads) (past : List Entry) (point : Point) : Type 0 where
  pub stored : StoredOf n streams past point
  pub end : EndOf n streams past point
  pub same : loaded_after n streams loads point (plans_of n streams past) ≡ plans_after n streams past point (plans_of n streams past)

one_step : (n : Numbers) (streams : Streams) (rules : Rules) (loads : Loads) (given : List ℕ → Type 0) (Bad : List Entry → Type 0) (brings : Brings n streams given Bad) (past : List Entry) (point : Point) → IsKnown n streams rules past → LoadedOf n streams loads given past (plans_of n streams past) point → StepIs n streams loads past point ⊎ Bad past
unfolding loaded_after plans_after next_plan
one_step n streams rules loads given Bad brings past (Commit id content text chunks bytes fresh fresh_bytes uses) known (are, stores) =
    let plans = plans_of n streams past in
    elim (loads_are n streams rules given Bad brings past id.session (loads id) known are) [
      | inl same ↦ inl (record {
        stored = subst (λ (ls : List Located). StoresSegment n streams id ls plans text fresh fresh_bytes uses) same stores;
        end = tt;
        same = ap (λ (ls : List Located). plan_for n streams id ls plans ∷ plans) same;
      })
      | inr collides ↦ inr collides
    ]
one_step n streams rules loads given Bad brings past (Finish session containers) known said = inl (record { stored = tt; end = said; same = refl })
one_step n streams rules loads given Bad brings past (Abort session containers texts) known (inl laid) =
    let plans = plans_of n streams past in
    let more = no_fewer n streams (next_of session past) (located_of n streams (pending_champions session past) plans) plans in
    inl (record {
      stored = tt;
      end = record {
        least = omega (arith, laid);
        idle = λ not. laid;
        pending = λ is. subst (λ (c : ℕ). c ≤ (plan_for n streams (next_of session past) (located_of n streams (pending_champions session past) plans) plans).end.containers) (sym laid) more;
      };
      same = refl;
    })
one_step n streams rules loads given Bad brings past (Abort session containers texts) known (inr (waits, are, laid)) =
    let plans = plans_of n streams past in
    let id = next_of session past in
    elim (loads_are n streams rules given Bad brings past session (loads id) known are) [
      | inl same ↦
          let located = located_of n streams (pending_champions session past) plans in
          let is : containers ≡ (plan_for n streams id located plans).end.containers = laid ∙ ap (λ (ls : List Located). (plan_for n streams id ls plans).end.containers) same in
          let more = no_fewer n streams id located plans in
          inl (record {
            stored = tt;
            end = record {
              least = omega (arith, is, more);
              idle = λ not. absurd (false≢true (sym not ∙ waits));
              pending = λ _. omega (arith, is);
            };
            same = refl;
          })
      | inr collides ↦ inr collides
    ]
one_step n streams rules loads given Bad brings past _ known said = inl (record { stored = tt; end = tt; same = refl })

-- the law, by induction over the newer entries
in_step : (n : Numbers) (streams : Streams) (rules : Rules) (loads : Loads) (given : List ℕ → Type 0) (Bad : List Entry → Type 0) (brings : Brings n streams given Bad) (newer older : List Entry) → AreSound n → is_legal rules (newer ++ older) ≡ true → All IsEntry (newer ++ older) → IsOfStreams n streams older → EachEntry (ContentOf n streams) (newer ++ older) → StoresLoaded n streams loads given newer older → IsInStep n streams loads newer older ⊎ Bad (newer ++ older)
unfolding loaded_plans plans_of
in_step n streams rules loads given Bad brings [] older sound legal entries of_streams contents stores = inl (record { stored = of_streams.stored; same = refl })
in_step n streams rules loads given Bad brings (entry ∷ newer) older sound legal entries of_streams contents stores =
    let past = newer ++ older in
    let now = step rules entry past legal in
    let others = All-tail IsEntry entry past entries in
    elim (in_step n streams rules loads given Bad brings newer older sound now.legal others of_streams contents.0 stores.0) [
      | inl before ↦
          let known : IsKnown n streams rules past = record { sound = sound; legal = now.legal; entries = others; contents = contents.0; stored = before.stored.stored } in
          let said = subst (λ (plans : List Planned). LoadedOf n streams loads given past plans entry.point) before.same stores.1 in
          elim (one_step n streams rules loads given Bad brings past entry.point known said) [
            | inl is ↦ inl (record {
              stored = record { stored = (before.stored.stored, is.stored); ends = (before.stored.ends, is.end) };
              same = ap (loaded_after n streams loads entry.point) before.same ∙ is.same;
            })
            | inr collides ↦ inr (brings.more rules entry past now collides)
          ]
      | inr collides ↦ inr (brings.more rules entry past now collides)
    ]

-- ---- a collision

pub collides : (n : Numbers) (streams : Streams) (given : List ℕ → Type 0) → Brings n streams given (λ past. Collide n streams past given)
collides n streams given = record {
  read = λ past id bytes committed digest differ read. record {
    one = bytes;
    other = text_of n streams id past;
    differ = differ;
    same = digest;
    hashed = inr (inr read);
    hashed_too = inr (inl (record { id = id; committed = committed; text = refl }));
  };
  more = λ rules entry past now collides. collide_more n streams rules entry past given now collides;
}

pub stores_loaded : (n : Numbers) (streams : Streams) (rules : Rules) (loads : Loads) (given : List ℕ → Type 0) (newer older : List Entry) → AreSound n → is_legal rules (newer ++ older) ≡ true → All IsEntry (newer ++ older) → IsOfStreams n streams older → HasContents n streams (newer ++ older) → StoresLoaded n streams loads given newer older → HasStored n streams (newer ++ older) ⊎ Collide n streams (newer ++ older) given
stores_loaded n streams rules loads given newer older sound legal entries of_streams contents stores =
    elim (in_step n streams rules loads given (λ past. Collide n streams past given) (collides n streams given) newer older sound legal entries of_streams contents.contents stores) [
      | inl is ↦ inl is.stored
      | inr bad ↦ inr bad
    ]

-- ---- where nothing was given, all that was loaded is as it was planned

pub none : (n : Numbers) (streams : Streams) → Brings n streams (λ b. ⊥) (λ past. ⊥)
none n streams = record { read = λ past id bytes committed digest differ read. absurd read; more = λ rules entry past now bad. absurd bad }

pub stores_planned : (n : Numbers) (streams : Streams) (rules : Rules) (loads : Loads) (newer older : List Entry) → AreSound n → is_legal rules (newer ++ older) ≡ true → All IsEntry (newer ++ older) → IsOfStreams n streams older → HasContents n streams (newer ++ older) → StoresLoaded n streams loads (λ b. ⊥) newer older → HasStored n streams (newer ++ older)
stores_planned n streams rules loads newer older sound legal entries of_streams contents stores =
    elim (in_step n streams rules loads (λ b. ⊥) (λ past. ⊥) (none n streams) newer older sound legal entries of_streams contents.contents stores) [
      | inl is ↦ is.stored
      | inr bad ↦ absurd bad
    ]
