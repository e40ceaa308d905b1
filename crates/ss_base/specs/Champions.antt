-- The greedy choice of champions (FAST 2009; the rule on ties is this project's own). There is one list of
-- standings for each hook of a segment.
use Rattle.std.specs.Prelude.{ℕ, zero, suc, Bool, ◌==◌, ◌&&◌, ◌||◌, not, nat_lt, nat_le, List, [], ◌∷◌, filter, count_by, find, Option}
use Rattle.std.specs.List.{list_any, list_all, flat_map}
use Rattle.std.specs.Option.{option_map_or}
use Rattle.ss_base.specs.declared.ids.ManifestId.{ManifestId}
use Rattle.ss_base.specs.declared.ids.Standing.{Standing}
use Rattle.ss_base.specs.Ids.{same_manifest}

-- whether the manifest stands in the list
unfoldable pub stands_in : ManifestId → List Standing → Bool
stands_in id stood = list_any (λ standing. same_manifest id standing.id) stood

-- at how many hooks the manifest stands
unfoldable pub hooks_covered : List (List Standing) → ManifestId → ℕ
hooks_covered lists id = count_by (stands_in id) lists

-- whether the first stands at more hooks than the second, or at as many and was not committed earlier
unfoldable pub is_at_least : List (List Standing) → Standing → Standing → Bool
is_at_least lists a b =
    nat_lt (hooks_covered lists b.id) (hooks_covered lists a.id)
    || ((hooks_covered lists a.id == hooks_covered lists b.id) && nat_le b.stamp a.stamp)

-- all that stands at some hook
unfoldable pub candidates : List (List Standing) → List Standing
candidates lists = flat_map (λ stood. stood) lists

-- whether none of the others beats it
unfoldable pub is_unbeaten : List (List Standing) → List Standing → Standing → Bool
is_unbeaten lists others a = list_all (λ b. is_at_least lists a b) others

-- The manifest that stands at the most hooks, and of several such the one committed last. There is none where
-- nothing stands at any hook.
unfoldable pub best : List (List Standing) → Option Standing
best lists = find (λ a. is_unbeaten lists (candidates lists) a) (candidates lists)

-- the hooks that a manifest leaves uncovered: those at which it does not stand
unfoldable pub uncovered : ManifestId → List (List Standing) → List (List Standing)
uncovered id lists = filter (λ stood. not (stands_in id stood)) lists

-- At most so many rounds: each takes the best manifest for the hooks that no earlier round covered, and the choice
-- ends early where nothing stands at any of them.
unfoldable pub champions : ℕ → List (List Standing) → List ManifestId
champions zero lists = []
champions (suc rounds) lists =
    option_map_or (λ (champion : Standing). champion.id ∷ champions rounds (uncovered champion.id lists)) (best lists) []
