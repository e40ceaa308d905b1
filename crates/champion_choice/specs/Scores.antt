-- The scores of manifests: at how many hooks each stands, and its stamp (this project's own).
use Rattle.std.specs.Prelude.{ℕ, ◌≡◌, ◌+◌, ◌-◌, ◌<◌, ◌==◌, Bool, true, ◌&&◌, ◌||◌, nat_lt, nat_le, cond, List, [], ◌∷◌, find, slice_get, Option, None, Some, ◌⊎◌}
use Rattle.std.specs.List.{IsDistinct}
use Rattle.std.specs.Option.{option_map}
use Rattle.std.specs.HashMap as hash
use Rattle.std.specs.declared.hash.BuildHasherDefault.{BuildHasherDefault}
use Rattle.fx_hash.specs.declared.hasher.FxHasher.{FxHasher}
use Rattle.ss_base.specs.declared.ids.ManifestId.{ManifestId}
use Rattle.ss_base.specs.declared.ids.Standing.{Standing}
use Rattle.ss_base.specs.Ids.{same_manifest}
use Rattle.ss_base.specs.Champions.{stands_in}
use Rattle.champion_choice.specs.declared.score.Score.{Score}

-- a score for each manifest that was counted
abbrev pub Kept : Type 0
Kept = List Score

abbrev pub score_at : Kept → ManifestId → Option Score
score_at m id = find (λ score. same_manifest id score.id) m

abbrev pub hooks_in : Option Score → ℕ
hooks_in None = 0
hooks_in (Some score) = score.hooks

-- at how many hooks the manifest stands
abbrev pub hooks_at : Kept → ManifestId → ℕ
hooks_at m id = hooks_in (score_at m id)

-- the manifest's stamp, where it has a score
abbrev pub stamp_at : Kept → ManifestId → Option ℕ
stamp_at m id = option_map (λ score. score.stamp) (score_at m id)

-- 1 where the test holds
abbrev pub one_if : Bool → ℕ
one_if test = cond test 1 0

-- the manifest whose score stands at the place
abbrev pub id_at : Kept → ℕ → Option ManifestId
id_at m place = option_map (λ score. score.id) (slice_get m place)

-- no manifest has two places
abbrev pub AreApart : (ℕ → Option ManifestId) → Type 0
AreApart ids = (p r : ℕ) (id : ManifestId) → ids p ≡ Some id → ids r ≡ Some id → p ≡ r

-- the places are those of what stands there, one by one
abbrev pub AreCells : (ℕ → Option ManifestId) → List ℕ → List Standing → Type 0
AreCells ids [] [] = Unit
AreCells ids [] (standing ∷ stood) = ⊥
AreCells ids (place ∷ places) [] = ⊥
AreCells ids (place ∷ places) (standing ∷ stood) = (ids place ≡ Some standing.id) × AreCells ids places stood

-- no score is the manifest's
abbrev pub HasNoPlace : Kept → ManifestId → Type 0
HasNoPlace m id = (p : ℕ) → id_at m p ≡ Some id → ⊥

-- the same of the scores before a place
abbrev pub HasNoPlaceBelow : Kept → ManifestId → ℕ → Type 0
HasNoPlaceBelow m id i = (p : ℕ) → p < i → id_at m p ≡ Some id → ⊥

-- the place of each score, by its manifest
abbrev pub PlaceMap : Type 0
PlaceMap = hash.HashMap ManifestId ℕ (BuildHasherDefault FxHasher)

pub record AreMapped (map : PlaceMap) (m : Kept) : Type 0 where
  pub there : (id : ManifestId) (p : ℕ) → id_at m p ≡ Some id → hash.get same_manifest map id ≡ Some p
  pub back : (id : ManifestId) (p : ℕ) → hash.get same_manifest map id ≡ Some p → id_at m p ≡ Some id

-- the places by a map, or that no manifest has two, where the scores are searched
abbrev pub ArePlaces : Option PlaceMap → Kept → Type 0
ArePlaces None m = AreApart (id_at m)
ArePlaces (Some map) m = AreMapped map m

-- what stands there has this place, and all else is as it was
pub record HasPlace (old new : Kept) (standing : Standing) (place : ℕ) : Type 0 where
  pub here : id_at new place ≡ Some standing.id
  pub kept : (id : ManifestId) (p : ℕ) → id_at old p ≡ Some id → id_at new p ≡ Some id
  pub hooks : (q : ManifestId) → hooks_at new q ≡ hooks_at old q
  pub stamps : (q : ManifestId) (t : ℕ) → stamp_at new q ≡ Some t → (stamp_at old q ≡ Some t) ⊎ (record { id = q; stamp = t } ≡ standing)

-- what stands there has this place, and stands at one hook more
pub record HasAdded (old new : Kept) (standing : Standing) (place : ℕ) : Type 0 where
  pub here : id_at new place ≡ Some standing.id
  pub kept : (id : ManifestId) (p : ℕ) → id_at old p ≡ Some id → id_at new p ≡ Some id
  pub hooks : (q : ManifestId) → hooks_at new q ≡ hooks_at old q + one_if (same_manifest q standing.id)
  pub stamps : (q : ManifestId) (t : ℕ) → stamp_at new q ≡ Some t → (stamp_at old q ≡ Some t) ⊎ (record { id = q; stamp = t } ≡ standing)

-- each manifest in the list stands at one hook less
pub record HasLowered (old new : Kept) (stood : List Standing) : Type 0 where
  pub ids : (p : ℕ) → id_at new p ≡ id_at old p
  pub hooks : (q : ManifestId) → hooks_at new q ≡ hooks_at old q - one_if (stands_in q stood)
  pub stamps : (q : ManifestId) → stamp_at new q ≡ stamp_at old q

-- a manifest stands at most once in the list
abbrev pub StandsOnce : List Standing → Type 0
StandsOnce stood = IsDistinct (λ (a b : Standing). same_manifest a.id b.id) stood

-- whether the first stands at more hooks than the second, or at as many and was not committed earlier
abbrev pub is_ahead : Score → Score → Bool
is_ahead a b = nat_lt b.hooks a.hooks || ((a.hooks == b.hooks) && nat_le b.stamp a.stamp)

-- the best of the scores, with its place, where one stands at a hook
abbrev pub IsBestOf : Kept → Option (ℕ × Score) → Type 0
IsBestOf m None = (p : ℕ) (s : Score) → slice_get m p ≡ Some s → s.hooks ≡ 0
IsBestOf m (Some b) = (slice_get m b.0 ≡ Some b.1) × (0 < b.1.hooks) × ((p : ℕ) (s : Score) → slice_get m p ≡ Some s → is_ahead b.1 s ≡ true)
