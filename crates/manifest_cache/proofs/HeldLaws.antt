-- What it means that a manifest is held.
use Rattle.std.proofs.Common.{◌≡◌, ◌⊎◌, Bool, true, false, if◌then◌else◌, cond, eqb-true, List, ◌∷◌, Contains, Option, Some, None, refl, sym, ap, ◌∙◌, subst, inl, inr}
use Rattle.std.specs.Cmp.{IsEquivalence}
use Rattle.std.specs.List.{IsDistinct}
use Rattle.std.specs.Map.{keys_of, lookup, lookup_entry, remove_entry}
use Rattle.std.specs.Option.{option_and_then, option_map_or}
use Rattle.std.proofs.lemmas.Bool.{and_parts, and_from, eq-eqb}
use Rattle.std.proofs.lemmas.Cmp.{eq_by_cmp_equiv}
use Rattle.std.proofs.lemmas.Map.{lookup-remove_entry}
use Rattle.std.proofs.lemmas.Map.Views.{Contains-from_lookup, lookup-from_Contains}
use Rattle.lru.specs.LruCache.{LruCache, lru_cache, promoted, put_entries}
use Rattle.lru.proofs.CallerLemmas.{Contains-lookup_entry, Contains-put_entries}
use Rattle.ss_base.specs.declared.ids.ManifestId.{ManifestId}
use Rattle.ss_base.specs.Ids.{same_manifest, same_container}
use Rattle.ss_base.specs.contracts.ids.ManifestIdOrd.TheImpl.Laws.{total-law}
use Rattle.ss_base.proofs.OrderLaws.{manifests_tied}
use Rattle.ss_base.proofs.IdLaws.{same_name-self, same_name-true, pointwise-true, pointwise-same, same_container-self, same_container-true, same_manifest-true}
use Rattle.segment_plan.specs.Plan.{Located}
use Rattle.store_core.specs.View.{KeptView}
use Rattle.manifest_cache.specs.Cached.{CachedView, kept_of, cached, same_values, IsOf, held, is_held}

-- an entry with the values that were kept is that of what was kept
pub values_same : (entry : CachedView) (kept : KeptView) → same_values entry kept ≡ true → entry ≡ cached kept entry.manifest
values_same entry kept is =
    let text = and_parts _ _ is in
    let content = and_parts _ _ text.1 in
    let chunks = and_parts _ _ content.1 in
    let text_is = same_name-true entry.text kept.text text.0 in
    let content_is = same_name-true entry.content kept.content content.0 in
    let chunks_are = eqb-true entry.chunks kept.chunks chunks.0 in
    let uses_are = pointwise-true same_container same_container-true entry.uses kept.uses chunks.1 in
    λ i. record { text = text_is i; content = content_is i; chunks = chunks_are i; uses = uses_are i; manifest = entry.manifest }

pub own_values : (kept : KeptView) (manifest : Located) → same_values (cached kept manifest) kept ≡ true
own_values kept manifest =
    and_from _ _ (same_name-self kept.text) (and_from _ _ (same_name-self kept.content) (and_from _ _ (eq-eqb kept.chunks kept.chunks refl) (pointwise-same same_container same_container-self kept.uses)))

-- what an entry with these values has is what was kept
pub good_for : (entry : CachedView) (kept : KeptView) (manifest : Located) → same_values entry kept ≡ true → manifest ≡ entry.manifest
    → ((id : ManifestId) → IsOf (kept_of id entry) entry.manifest) → IsOf kept manifest
good_for entry kept manifest is same good =
    subst (IsOf kept) (sym same) (subst (λ (v : CachedView). IsOf (kept_of kept.id v) entry.manifest) (values_same entry kept is) (good kept.id))

of_entry : (entries : List (ManifestId × CachedView)) (kept : KeptView) (manifest : Located) (o : Option CachedView) → lookup (same_manifest kept.id) entries ≡ o
    → option_and_then (λ (entry : CachedView). if same_values entry kept then Some entry.manifest else None) o ≡ Some manifest
    → Contains entries (kept.id, cached kept manifest)
of_entry entries kept manifest None found is = absurd (cc)
of_entry entries kept manifest (Some entry) found is = (elim (same_values entry kept) as (λ (b : Bool). same_values entry kept ≡ b → Contains entries (kept.id, cached kept manifest)) [
  | true ↦ λ same.
      let is' = rw same at is in
      let own : entry.manifest ≡ manifest = cc in
      subst (λ (v : CachedView). Contains entries (kept.id, v)) (values_same entry kept same ∙ ap (cached kept) own) (Contains-from_lookup same_manifest-true kept.id entry entries found)
  | false ↦ λ other. let is' = rw other at is in absurd (cc)
]) refl

-- what is held lies in the cache
pub held_lies : (entries : List (ManifestId × CachedView)) (kept : KeptView) (manifest : Located) → held entries kept ≡ Some manifest → Contains entries (kept.id, cached kept manifest)
unfolding held
held_lies entries kept manifest is = of_entry entries kept manifest (lookup (same_manifest kept.id) entries) refl is

same_laws : IsEquivalence same_manifest
same_laws = subst IsEquivalence (λ i a b. manifests_tied a b i) (eq_by_cmp_equiv total-law)

-- what lies in the cache is held, where no id lies there twice
pub lies_held : (entries : List (ManifestId × CachedView)) (kept : KeptView) (manifest : Located) → IsDistinct same_manifest (keys_of entries)
    → Contains entries (kept.id, cached kept manifest) → held entries kept ≡ Some manifest
unfolding held
lies_held entries kept manifest apart lies =
    rw (lookup-from_Contains same_laws kept.id (cached kept manifest) entries apart lies, own_values kept manifest) refl

-- an entry behind a put was there, or is the one that was put
pub put_each : (cache : LruCache ManifestId CachedView) (id : ManifestId) (entry : CachedView) (e : ManifestId × CachedView)
    → Contains (put_entries same_manifest cache id entry) e → Contains cache.entries e ⊎ (e ≡ (id, entry))
put_each cache id entry e lies = elim (Contains-put_entries same_manifest cache id entry e lies) [
  | inl was ↦ inl was
  | inr put ↦ elim put.1 [
    | inl key ↦ inr (λ i. (key i, put.0 i))
    | inr other ↦ inr (λ i. (sym (same_manifest-true id e.0 other.2) i, put.0 i))
  ]
]

front_found : (entries : List (ManifestId × CachedView)) (id q : ManifestId) (o : Option (ManifestId × CachedView)) → IsDistinct same_manifest (keys_of entries)
    → lookup_entry (same_manifest id) entries ≡ o
    → lookup (same_manifest q) (option_map_or (λ e. e ∷ remove_entry (same_manifest id) entries) o entries) ≡ lookup (same_manifest q) entries
front_found entries id q None apart is = refl
front_found entries id q (Some e) apart is =
    let there = Contains-lookup_entry (same_manifest id) entries e is in
    let without : lookup (same_manifest q) (remove_entry (same_manifest id) entries) ≡ cond (same_manifest id q) None (lookup (same_manifest q) entries) =
    lookup-remove_entry same_laws (same_manifest id) (λ x y passes. ap (λ (i : ManifestId). same_manifest i y) (same_manifest-true id x passes)) q entries apart in
    (elim (same_manifest q e.0) as (λ (b : Bool). same_manifest q e.0 ≡ b → cond b (Some e.1) (lookup (same_manifest q) (remove_entry (same_manifest id) entries)) ≡ lookup (same_manifest q) entries) [
      | true ↦ λ same. sym (lookup-from_Contains same_laws q e.1 entries apart (subst (λ (i : ManifestId). Contains entries (i, e.1)) (sym (same_manifest-true q e.0 same)) there.0))
      | false ↦ λ other.
          let apart_ids : same_manifest id q ≡ false = sym (same_laws.symm q id) ∙ ap (same_manifest q) (same_manifest-true id e.0 there.1) ∙ other in
          without ∙ ap (λ (b : Bool). cond b None (lookup (same_manifest q) entries)) apart_ids
    ]) refl

promoted_held : (entries : List (ManifestId × CachedView)) (id : ManifestId) (other : KeptView) → IsDistinct same_manifest (keys_of entries)
    → held (promoted (same_manifest id) entries) other ≡ held entries other
unfolding held
promoted_held entries id other apart =
    ap (λ (o : Option CachedView). option_and_then (λ (entry : CachedView). if same_values entry other then Some entry.manifest else None) o)
    (front_found entries id other.id (lookup_entry (same_manifest id) entries) apart refl)

either_held : (b : Bool) (entries : List (ManifestId × CachedView)) (id : ManifestId) (other : KeptView) → IsDistinct same_manifest (keys_of entries)
    → held (if b then promoted (same_manifest id) entries else entries) other ≡ held entries other
either_held true entries id other apart = promoted_held entries id other apart
either_held false entries id other apart = refl

-- what was held is held behind a copy that was handed out
pub held_still : (cache new : LruCache ManifestId CachedView) (kept other : KeptView) → IsDistinct same_manifest (keys_of cache.entries)
    → new ≡ lru_cache (if is_held cache.entries kept then promoted (same_manifest kept.id) cache.entries else cache.entries) cache.cap
    → held new.entries other ≡ held cache.entries other
held_still cache new kept other apart is =
    ap (λ (c : LruCache ManifestId CachedView). held c.entries other) is ∙ either_held (is_held cache.entries kept) cache.entries kept.id other apart
