-- Copies of what a cache holds.
use Rattle.std.proofs.Common.{◌≡◌, ◌⊎◌, ℕ, ◌+◌, ◌<◌, Bool, true, false, if◌then◌else◌, List, [], ◌∷◌, ◌++◌, length, get_or, take, Option, None, option_map, IfSome, Contains, refl, sym, ap, ◌∙◌, subst, inl, inr, arith}
use Rattle.std.specs.Prelude.{Result, Ok, Err, OnOk, OnErr, Vec}
use Rattle.std.specs.declared.alloc.Global.{Global}
use Rattle.std.proofs.lemmas.List.{take_more}
use Rattle.lru.specs.LruCache.{LruCache, lru_cache, promoted, put_entries}
use Rattle.lru.proofs.CallerLemmas.{Contains-promoted}
use Rattle.ss_base.specs.declared.ids.ManifestId.{ManifestId}
use Rattle.ss_base.specs.Ids.{same_manifest}
use Rattle.manifest_codec.specs.declared.manifest.Manifest.{Manifest}
use Rattle.store_core.specs.View.{KeptView}
use Rattle.outside.specs.Views.{ShelfView}
use Rattle.depot.specs.declared.fault.LoadFault.{LoadFault}
use Rattle.depot.specs.declared.fault.LoadFault.TheVariants.{Memory}
use Rattle.depot.specs.Loading.{LoadAnswer}
use Rattle.manifest_cache.specs.Cached.{CachedView, IsOf, listed_by, cached, held, is_held}
use Rattle.manifest_cache.proofs.HeldLaws.{put_each}
use Rattle.segment_store.specs.Loads.{Entries, Holding, IsOfLoad, AreLoaded, after_loads, HasCached, IsStopped, LoadsAnswer, missing, reads_after}
use Rattle.segment_store.specs.Copies.{IsCopy, AreCopies, IsSame, HasPut}
use Rattle.segment_store.proofs.LoadLaws.{reads_missing}

pub same_self : (cache : Entries) → IsSame cache cache
same_self cache = record { holds = λ kept. refl; lies = λ entry lies. lies }

either_there : (b : Bool) (entries : Entries) (id : ManifestId) (entry : ManifestId × CachedView) → Contains (if b then promoted (same_manifest id) entries else entries) entry → Contains entries entry
either_there true entries id entry lies = Contains-promoted (same_manifest id) entries entry lies
either_there false entries id entry lies = lies

-- behind a copy that was handed out
pub same_then : (first : Entries) (cache new : LruCache ManifestId CachedView) (kept : KeptView) → IsSame first cache.entries
    → new ≡ lru_cache (if is_held cache.entries kept then promoted (same_manifest kept.id) cache.entries else cache.entries) cache.cap
    → ((other : KeptView) → held new.entries other ≡ held cache.entries other) → IsSame first new.entries
same_then first cache new kept same is holds = record {
  holds = λ other. holds other ∙ same.holds other;
  lies = λ entry lies. same.lies entry (either_there (is_held cache.entries kept) cache.entries kept.id entry
      (subst (λ (c : LruCache ManifestId CachedView). Contains c.entries entry) is lies));
}

-- behind a put, whether it found memory or not
pub has_put : {T E : Type 0} (r : Result T E) (cache new : LruCache ManifestId CachedView) (kept : KeptView) (manifest : Manifest)
    → OnOk r (new ≡ lru_cache (put_entries same_manifest cache kept.id (cached kept (listed_by manifest))) cache.cap) → OnErr r (new ≡ cache) → HasPut cache.entries new.entries kept manifest
has_put (Ok x) cache new kept manifest is same = λ entry lies. put_each cache kept.id (cached kept (listed_by manifest)) entry (subst (λ (c : LruCache ManifestId CachedView). Contains c.entries entry) is lies)
has_put (Err e) cache new kept manifest is same = λ entry lies. inl (subst (λ (c : LruCache ManifestId CachedView). Contains c.entries entry) same lies)

AreCopies-push : (holds : Holding) (ks : List KeptView) (cs : List (Option Manifest)) (k : KeptView) (c : Option Manifest) → AreCopies holds ks cs → IsCopy holds k c → AreCopies holds (ks ++ k ∷ []) (cs ++ c ∷ [])
AreCopies-push holds [] [] k c are one = (one, tt)
AreCopies-push holds [] (y ∷ cs) k c are one = absurd are
AreCopies-push holds (x ∷ ks) [] k c are one = absurd are
AreCopies-push holds (x ∷ ks) (y ∷ cs) k c are one = (are.0, AreCopies-push holds ks cs k c are.1 one)

-- one copy more
pub one_more_copy : (first cache : Entries) (kepts : List KeptView) (i : ℕ) (kept : KeptView) (copies copies' : List (Option Manifest)) (copy : Option Manifest)
    → i < length kepts → kept ≡ get_or kepts i kept → copies' ≡ copies ++ copy ∷ [] → AreCopies (held first) (take i kepts) copies → IsSame first cache
    → option_map listed_by copy ≡ held cache kept → IfSome copy (λ m. IsOf kept (listed_by m)) → AreCopies (held first) (take (i + 1) kepts) copies'
one_more_copy first cache kepts i kept copies copies' copy within is pushed are same found good =
    let front : take (i + 1) kepts ≡ take i kepts ++ kept ∷ [] = take_more kepts i kept within ∙ ap (λ (k : KeptView). take i kepts ++ k ∷ []) (sym is) in
    let all = AreCopies-push (held first) (take i kepts) copies kept copy are (record { found = found ∙ same.holds kept; good = good }) in
    subst (λ (ks : List KeptView). AreCopies (held first) ks copies') (sym front) (subst (λ (cs : List (Option Manifest)). AreCopies (held first) (take i kepts ++ kept ∷ []) cs) (sym pushed) all)

pub some_there : {X : Type 0} (xs : List X) (i : ℕ) → i < length xs → xs ≡ [] → ⊥
some_there xs i within none = let len = ap length none in omega (arith, within, len)

pub on_err : {T E : Type 0} (r : Result T E) (P : Type 0) → P → OnErr r P
on_err (Ok x) P p = tt
on_err (Err e) P p = p

-- no copy could be made, and nothing was loaded
pub uncopied : (cache cache' : Entries) (shelf : ShelfView) (kepts : List KeptView) → IsSame cache cache' → (kepts ≡ [] → ⊥) → IsStopped cache cache' shelf shelf kepts Memory
uncopied cache cache' shelf [] same some = absurd (some refl)
uncopied cache cache' shelf (kept ∷ kepts) same some = record {
  done = [];
  manifests = [];
  kept = kept;
  rest = kepts;
  kepts_are = refl;
  loaded = tt;
  failed = inl (inl refl);
  wanted = inl refl;
  caches = λ entry lies. inl (same.lies entry lies);
}

-- ---- the same loads beside a cache that holds the same

module _ (first cache : Entries) (same : IsSame first cache) where
  pub holds_same : held cache ≡ held first
  holds_same = λ i kept. same.holds kept i

  cached_same : (cache' : Entries) (kepts : List KeptView) (manifests : List Manifest) → HasCached cache cache' kepts manifests → HasCached first cache' kepts manifests
  cached_same cache' kepts manifests has = λ entry lies. elim (has entry lies) [
    | inl was ↦ inl (same.lies entry was)
    | inr of ↦ inr (subst (λ (h : Holding). IsOfLoad h kepts manifests entry) holds_same of)
  ]

  pub loads_same : (cache' : Entries) (before after : ShelfView) (kepts : List KeptView) (result : Result (Vec Manifest Global) LoadFault) → LoadsAnswer cache cache' before after kepts result → LoadsAnswer first cache' before after kepts result
  loads_same cache' before after kepts (Ok manifests) has = record {
    loaded = subst (λ (h : Holding). AreLoaded h before kepts manifests.items) holds_same has.loaded;
    shelf = has.shelf ∙ ap (λ (h : Holding). after_loads h before kepts manifests.items) holds_same;
    caches = cached_same cache' kepts manifests.items has.caches;
  }
  loads_same cache' before after kepts (Err fault) stopped = record {
    done = stopped.done;
    manifests = stopped.manifests;
    kept = stopped.kept;
    rest = stopped.rest;
    kepts_are = stopped.kepts_are;
    loaded = subst (λ (h : Holding). AreLoaded h before stopped.done stopped.manifests) holds_same stopped.loaded;
    failed = subst (λ (h : Holding). LoadAnswer (after_loads h before stopped.done stopped.manifests) after stopped.kept (Err fault)) holds_same stopped.failed;
    wanted = subst (λ (h : Holding). (after ≡ after_loads h before stopped.done stopped.manifests) ⊎ (h stopped.kept ≡ None)) holds_same stopped.wanted;
    caches = cached_same cache' stopped.done stopped.manifests stopped.caches;
  }

  -- and as many reads as the cache did not hold
  pub counted : (cache' : Entries) (before after : ShelfView) (kepts : List KeptView) (result : Result (Vec Manifest Global) LoadFault) → LoadsAnswer cache cache' before after kepts result
      → OnOk result (after.reads ≡ reads_after (missing (held first) kepts) before.reads)
  counted cache' before after kepts (Ok manifests) has =
      ap (λ (s : ShelfView). s.reads) has.shelf
      ∙ reads_missing (held cache) before kepts manifests.items has.loaded
      ∙ ap (λ (h : Holding). reads_after (missing h kepts) before.reads) holds_same
  counted cache' before after kepts (Err fault) stopped = tt
