-- Manifests that a cache holds or that are loaded, one behind another.
use Rattle.std.proofs.Common.{◌≡◌, ◌⊎◌, ℕ, zero, suc, ◌+◌, ◌<◌, false, cond, if◌then◌else◌, is_some, List, [], ◌∷◌, ◌++◌, length, get_or, take, drop, Option, None, Some, option_map, Contains, refl, sym, ap, ◌∙◌, subst, inl, inr, append_assoc, take-append-drop, arith}
use Rattle.std.specs.Prelude.{Result, Ok, Err}
use Rattle.std.specs.Result.{is_ok, is_err}
use Rattle.std.proofs.lemmas.List.{take_more}
use Rattle.ss_base.specs.declared.ids.ManifestId.{ManifestId}
use Rattle.manifest_codec.specs.declared.manifest.Manifest.{Manifest}
use Rattle.segment_plan.specs.Plan.{Located}
use Rattle.store_core.specs.View.{KeptView}
use Rattle.outside.specs.Views.{ShelfView}
use Rattle.depot.specs.declared.fault.LoadFault.{LoadFault}
use Rattle.depot.specs.declared.fault.LoadFault.TheVariants.{Memory}
use Rattle.depot.specs.Loading.{IsLoaded, IsLike, LoadAnswer}
use Rattle.manifest_cache.specs.Cached.{CachedView, IsOf, listed_by, cached, held}
use Rattle.segment_store.specs.Loads.{Entries, Holding, after_load, after_turn, after_loads, IsThere, AreLoaded, IsOfLoad, HasLoaded, IsStopped, missing, reads_after}
use Rattle.segment_store.specs.Loads.IsThere.{was_held, was_loaded}
use Rattle.segment_store.specs.Copies.{IsCopy, AreCopies, Comes, NotComes}

-- ---- one manifest

pub turn_held : (holds : Holding) (shelf : ShelfView) (kept : KeptView) (manifest : Manifest) (one : Located) → holds kept ≡ Some one → after_turn holds shelf kept manifest ≡ shelf
turn_held holds shelf kept manifest one is = ap (λ (o : Option Located). if is_some o then shelf else after_load shelf kept manifest) is

pub turn_loaded : (holds : Holding) (shelf : ShelfView) (kept : KeptView) (manifest : Manifest) → holds kept ≡ None → after_turn holds shelf kept manifest ≡ after_load shelf kept manifest
turn_loaded holds shelf kept manifest is = ap (λ (o : Option Located). if is_some o then shelf else after_load shelf kept manifest) is

-- a manifest that is there is like what was kept
pub like_kept : (holds : Holding) (shelf : ShelfView) (kept : KeptView) (manifest : Manifest) → IsThere holds shelf kept manifest → IsLike kept manifest.pieces.items manifest.places.items
like_kept holds shelf kept manifest (was_held is of) = of.like
like_kept holds shelf kept manifest (was_loaded is loaded) = loaded.like

-- What one manifest did to the shelf and to the cache.
record IsTurn (cache c c' : Entries) (now after : ShelfView) (kept : KeptView) (manifest : Manifest) : Type 0 where
  there : IsThere (held cache) now kept manifest
  shelf : after ≡ after_turn (held cache) now kept manifest
  caches : (entry : ManifestId × CachedView) → Contains c' entry → Contains c entry ⊎ ((held cache kept ≡ None) × (entry ≡ (kept.id, cached kept (listed_by manifest))))

turn : (cache c c' : Entries) (now after : ShelfView) (kept : KeptView) (copy : Option Manifest) (manifest : Manifest)
    → IsCopy (held cache) kept copy → Comes c c' now after kept copy manifest → IsTurn cache c c' now after kept manifest
turn cache c c' now after kept (Some own) manifest is comes =
    let there : held cache kept ≡ Some (listed_by manifest) = sym is.found ∙ ap (λ (m : Manifest). Some (listed_by m)) (sym comes.0) in
    record {
      there = was_held there (subst (λ (m : Manifest). IsOf kept (listed_by m)) (sym comes.0) is.good);
      shelf = comes.1 ∙ sym (turn_held (held cache) now kept manifest (listed_by manifest) there);
      caches = λ entry lies. inl (subst (λ (es : Entries). Contains es entry) comes.2 lies);
    }
turn cache c c' now after kept None manifest is comes =
    let none : held cache kept ≡ None = sym is.found in
    record {
      there = was_loaded none (subst (λ (s : ShelfView). IsLoaded now s kept manifest) comes.0.given.call comes.0);
      shelf = comes.0.given.call ∙ sym (turn_loaded (held cache) now kept manifest none);
      caches = λ entry lies. elim (comes.1 entry lies) [
        | inl was ↦ inl was
        | inr put ↦ inr (none, put)
      ];
    }

-- ---- one behind another

after_loads-push : (holds : Holding) (shelf : ShelfView) (ks : List KeptView) (ms : List Manifest) (k : KeptView) (m : Manifest) → AreLoaded holds shelf ks ms →
    after_loads holds shelf (ks ++ k ∷ []) (ms ++ m ∷ []) ≡ after_turn holds (after_loads holds shelf ks ms) k m
after_loads-push holds shelf [] [] k m are = refl
after_loads-push holds shelf [] (y ∷ ms) k m are = absurd are
after_loads-push holds shelf (x ∷ ks) [] k m are = absurd are
after_loads-push holds shelf (x ∷ ks) (y ∷ ms) k m are = after_loads-push holds (after_turn holds shelf x y) ks ms k m are.1

AreLoaded-push : (holds : Holding) (shelf : ShelfView) (ks : List KeptView) (ms : List Manifest) (k : KeptView) (m : Manifest) → AreLoaded holds shelf ks ms →
    IsThere holds (after_loads holds shelf ks ms) k m → AreLoaded holds shelf (ks ++ k ∷ []) (ms ++ m ∷ [])
AreLoaded-push holds shelf [] [] k m are one = (one, tt)
AreLoaded-push holds shelf [] (y ∷ ms) k m are one = absurd are
AreLoaded-push holds shelf (x ∷ ks) [] k m are one = absurd are
AreLoaded-push holds shelf (x ∷ ks) (y ∷ ms) k m are one = (are.0, AreLoaded-push holds (after_turn holds shelf x y) ks ms k m are.1 one)

IsOfLoad-push : (holds : Holding) (ks : List KeptView) (ms : List Manifest) (k : KeptView) (m : Manifest) (entry : ManifestId × CachedView) → IsOfLoad holds ks ms entry → IsOfLoad holds (ks ++ k ∷ []) (ms ++ m ∷ []) entry
IsOfLoad-push holds [] ms k m entry of = absurd of
IsOfLoad-push holds (x ∷ ks) [] k m entry of = absurd of
IsOfLoad-push holds (x ∷ ks) (y ∷ ms) k m entry (inl here) = inl here
IsOfLoad-push holds (x ∷ ks) (y ∷ ms) k m entry (inr later) = inr (IsOfLoad-push holds ks ms k m entry later)

IsOfLoad-last : (holds : Holding) (shelf : ShelfView) (ks : List KeptView) (ms : List Manifest) (k : KeptView) (m : Manifest) (entry : ManifestId × CachedView) → AreLoaded holds shelf ks ms
    → (holds k ≡ None) × (entry ≡ (k.id, cached k (listed_by m))) → IsOfLoad holds (ks ++ k ∷ []) (ms ++ m ∷ []) entry
IsOfLoad-last holds shelf [] [] k m entry are of = inl of
IsOfLoad-last holds shelf [] (y ∷ ms) k m entry are of = absurd are
IsOfLoad-last holds shelf (x ∷ ks) [] k m entry are of = absurd are
IsOfLoad-last holds shelf (x ∷ ks) (y ∷ ms) k m entry are of = inr (IsOfLoad-last holds (after_turn holds shelf x y) ks ms k m entry are.1 of)

pub nothing_loaded : (cache : Entries) (shelf : ShelfView) → HasLoaded cache cache shelf shelf [] []
nothing_loaded cache shelf = record { loaded = tt; shelf = refl; caches = λ entry lies. inl lies }

copy_at : (holds : Holding) (kepts : List KeptView) (copies : List (Option Manifest)) (i : ℕ) (kept : KeptView) (copy : Option Manifest) → AreCopies holds kepts copies
    → i < length kepts → kept ≡ get_or kepts i kept → copy ≡ get_or copies i copy → IsCopy holds kept copy
copy_at holds [] copies i kept copy are within kept_is copy_is = absurd (omega (arith, within))
copy_at holds (k ∷ kepts) [] i kept copy are within kept_is copy_is = absurd are
copy_at holds (k ∷ kepts) (c ∷ copies) zero kept copy are within kept_is copy_is =
    subst (λ (x : KeptView). IsCopy holds x copy) (sym kept_is) (subst (λ (x : Option Manifest). IsCopy holds k x) (sym copy_is) are.0)
copy_at holds (k ∷ kepts) (c ∷ copies) (suc i) kept copy are within kept_is copy_is = copy_at holds kepts copies i kept copy are.1 (omega (arith, within)) kept_is copy_is

pub copies_length : (holds : Holding) (kepts : List KeptView) (copies : List (Option Manifest)) → AreCopies holds kepts copies → length copies ≡ length kepts
copies_length holds [] [] are = refl
copies_length holds [] (c ∷ copies) are = absurd are
copies_length holds (k ∷ kepts) [] are = absurd are
copies_length holds (k ∷ kepts) (c ∷ copies) are = ap suc (copies_length holds kepts copies are.1)

module _ (cache c : Entries) (before now : ShelfView) (kepts : List KeptView) (copies : List (Option Manifest)) (i : ℕ) (kept : KeptView) (ms : List Manifest)
    (within : i < length kepts) (is : kept ≡ get_or kepts i kept) (so_far : HasLoaded cache c before now (take i kepts) ms) where
  -- one more
  pub one_more : (c' : Entries) (after : ShelfView) (copy : Option Manifest) (ms' : List Manifest) (m : Manifest) → AreCopies (held cache) kepts copies → copy ≡ get_or copies i copy → ms' ≡ ms ++ m ∷ []
      → Comes c c' now after kept copy m → HasLoaded cache c' before after (take (i + 1) kepts) ms'
  one_more c' after copy ms' m are copy_is pushed comes =
      let holds = held cache in
      let one = turn cache c c' now after kept copy m (copy_at holds kepts copies i kept copy are within is copy_is) comes in
      let front : take (i + 1) kepts ≡ take i kepts ++ kept ∷ [] = take_more kepts i kept within ∙ ap (λ (k : KeptView). take i kepts ++ k ∷ []) (sym is) in
      let there : IsThere holds (after_loads holds before (take i kepts) ms) kept m = subst (λ (s : ShelfView). IsThere holds s kept m) so_far.shelf one.there in
      let all : HasLoaded cache c' before after (take i kepts ++ kept ∷ []) (ms ++ m ∷ []) = record {
        loaded = AreLoaded-push holds before (take i kepts) ms kept m so_far.loaded there;
        shelf =
            one.shelf
            ∙ ap (λ (s : ShelfView). after_turn holds s kept m) so_far.shelf
            ∙ sym (after_loads-push holds before (take i kepts) ms kept m so_far.loaded);
        caches = λ entry lies. elim (one.caches entry lies) [
          | inl was ↦ elim (so_far.caches entry was) [
            | inl first ↦ inl first
            | inr of ↦ inr (IsOfLoad-push holds (take i kepts) ms kept m entry of)
          ]
          | inr put ↦ inr (IsOfLoad-last holds before (take i kepts) ms kept m entry so_far.loaded put)
        ];
      } in
      subst (λ (ks : List KeptView). HasLoaded cache c' before after ks ms') (sym front) (subst (λ (xs : List Manifest). HasLoaded cache c' before after (take i kepts ++ kept ∷ []) xs) (sym pushed) all)

  -- the one that failed, and those behind it
  pub stopped_at : (c' : Entries) (after : ShelfView) (fault : LoadFault) → c' ≡ c → LoadAnswer now after kept (Err fault) → (after ≡ now) ⊎ (held cache kept ≡ None) → IsStopped cache c' before after kepts fault
  stopped_at c' after fault same failed wanted = record {
    done = take i kepts;
    manifests = ms;
    kept = kept;
    rest = drop (i + 1) kepts;
    kepts_are =
        sym (take-append-drop (i + 1) kepts)
        ∙ ap (λ (front : List KeptView). front ++ drop (i + 1) kepts) (take_more kepts i kept within ∙ ap (λ (k : KeptView). take i kepts ++ k ∷ []) (sym is))
        ∙ append_assoc (take i kepts) (kept ∷ []) (drop (i + 1) kepts);
    loaded = so_far.loaded;
    failed = subst (λ (s : ShelfView). LoadAnswer s after kept (Err fault)) so_far.shelf failed;
    wanted = subst (λ (s : ShelfView). (after ≡ s) ⊎ (held cache kept ≡ None)) so_far.shelf wanted;
    caches = λ entry lies. so_far.caches entry (subst (λ (es : Entries). Contains es entry) same lies);
  }

  -- nothing was tried of it
  pub unreserved : IsStopped cache c before now kepts Memory
  unreserved = stopped_at c now Memory refl (inl (inl refl)) (inl refl)

  -- it could not be loaded
  pub unloaded : (c' : Entries) (after : ShelfView) (copy : Option Manifest) (fault : LoadFault) → AreCopies (held cache) kepts copies → copy ≡ get_or copies i copy
      → NotComes c c' now after kept copy fault → IsStopped cache c' before after kepts fault
  unloaded c' after copy fault are copy_is not =
      let copied = copy_at (held cache) kepts copies i kept copy are within is copy_is in
      let none : held cache kept ≡ None = sym copied.found ∙ ap (λ (o : Option Manifest). option_map listed_by o) not.missing in
      stopped_at c' after fault not.same not.failed (inr none)

-- ---- how many reads

read_once : (o : Option Located) (shelf : ShelfView) (kept : KeptView) (manifest : Manifest) (n : ℕ)
    → reads_after n (if is_some o then shelf else after_load shelf kept manifest).reads ≡ reads_after (if is_some o then n else suc n) shelf.reads
read_once None shelf kept manifest n = refl
read_once (Some one) shelf kept manifest n = refl

-- as many as the cache did not hold
pub reads_missing : (holds : Holding) (shelf : ShelfView) (kepts : List KeptView) (manifests : List Manifest) → AreLoaded holds shelf kepts manifests
    → (after_loads holds shelf kepts manifests).reads ≡ reads_after (missing holds kepts) shelf.reads
reads_missing holds shelf [] [] are = refl
reads_missing holds shelf [] (m ∷ ms) are = absurd are
reads_missing holds shelf (k ∷ ks) [] are = absurd are
reads_missing holds shelf (k ∷ ks) (m ∷ ms) are = reads_missing holds (after_turn holds shelf k m) ks ms are.1 ∙ read_once (holds k) shelf k m (missing holds ks)

-- a push that did not fail
pub pushed : {T E X : Type 0} (r : Result T E) (was now : List X) (x : X) → is_err r ≡ false → now ≡ cond (is_ok r) (was ++ x ∷ []) was → now ≡ was ++ x ∷ []
pushed (Ok y) was now x fine is = is
pushed (Err e) was now x fine is = absurd (cc)
