-- The index as a map from the names of hooks to what stands at each (this project's own).
use Rattle.std.specs.Prelude.{ℕ, ◌≡◌, Bool, true, false, List, [], refl, unwrap_or}
use Rattle.std.specs.declared.cmp.Ordering.{Ordering}
use Rattle.std.specs.Ordering.{nat_cmp}
use Rattle.std.specs.Cmp.Lexicographic.{slice_cmp}
use Rattle.std.specs.Coded.{Coded, code_by, coded×, coded_ℕ, coded_list}
use Rattle.std.specs.FinMap as map
use Rattle.ss_base.specs.declared.ids.Standing.{Standing}
use Rattle.ss_base.specs.declared.name.Name.{Name}
use Rattle.ss_base.specs.Ids.{same_name}

-- names are ordered by their bytes
abbrev pub name_cmp : Name → Name → Ordering
name_cmp a b = slice_cmp nat_cmp a.0 b.0

-- the lists of the ready hooks
abbrev pub Lists : Type 0
Lists = map.FinMap name_cmp (List Standing)

-- what stands at the hook, of which the most recently used is first
abbrev pub list_at : Lists → Name → List Standing
list_at lists hook = unwrap_or (map.get lists hook) []

-- whether a list, perhaps an empty one, is kept for the hook
abbrev pub is_ready : Lists → Name → Bool
is_ready lists hook = map.contains_key lists hook

-- a name is stored as its bytes
abbrev pub name_code : Coded Name
name_code = code_by (List ℕ) (coded_list coded_ℕ) (λ name. name.0) (λ bytes. record { 0 = bytes }) (λ _. refl)

abbrev pub standing_code : Coded Standing
standing_code =
    code_by ((ℕ × ℕ) × ℕ) (coded× (coded× coded_ℕ coded_ℕ) coded_ℕ) (λ s. ((s.id.session, s.id.seq), s.stamp))
    (λ p. record { id = record { session = p.0.0; seq = p.0.1 }; stamp = p.1 }) (λ _. refl)

abbrev pub lists_code : Coded Lists
lists_code = map.code name_code (coded_list standing_code)

-- a list is kept for the hook, and what stands anywhere is as it was
pub record HasRoom (old new : Lists) (hook : Name) : Type 0 where
  pub kept : is_ready new hook ≡ true
  pub ready : (q : Name) → is_ready old q ≡ true → is_ready new q ≡ true
  pub lists : (q : Name) → list_at new q ≡ list_at old q

-- the list of the hook, if one is kept, is changed by f, and all else is as it was
pub record Changes (old new : Lists) (hook : Name) (f : List Standing → List Standing) : Type 0 where
  pub ready : (q : Name) → is_ready new q ≡ is_ready old q
  pub here : (q : Name) → same_name q hook ≡ true → is_ready old q ≡ true → list_at new q ≡ f (list_at old q)
  pub elsewhere : (q : Name) → same_name q hook ≡ false → list_at new q ≡ list_at old q
