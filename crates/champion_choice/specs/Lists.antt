-- The lists of the hooks, of which some are covered (this project's own).
use Rattle.std.specs.Prelude.{ℕ, ◌≡◌, ◌+◌, ◌==◌, Bool, ◌||◌, List, [], ◌∷◌, ◌++◌, map, filter, Some, Vec, Contains, ◌⊎◌, if◌then◌else◌}
use Rattle.std.specs.Borrow.{Bor}
use Rattle.std.specs.declared.alloc.Global.{Global}
use Rattle.ss_base.specs.declared.ids.ManifestId.{ManifestId}
use Rattle.ss_base.specs.declared.ids.Standing.{Standing}
use Rattle.ss_base.specs.Ids.{same_manifest}
use Rattle.ss_base.specs.Champions.{stands_in, hooks_covered, candidates}
use Rattle.ss_base.proofs.MemberLaws.{In}
use Rattle.champion_choice.specs.Scores.{Kept, hooks_at, stamp_at, one_if, id_at, AreApart, AreCells}

-- the lists that these vectors hold
abbrev pub standings : List (Vec Standing Global) → List (List Standing)
standings lists = map (λ list. list.items) lists

-- the lists that these slices show
abbrev pub shown : List (Bor (List Standing)) → List (List Standing)
shown lists = map (λ list. list.now) lists

-- of all that stands at some hook, two ids are equal exactly where their stamps are
abbrev pub StampsTell : List (List Standing) → Type 0
StampsTell lists = (a b : Standing) → Contains (candidates lists) a → Contains (candidates lists) b → same_manifest a.id b.id ≡ (a.stamp == b.stamp)

-- the list of a hook, where it is not covered
abbrev pub left : Bool → List Standing → List (List Standing)
left covered stood = if covered then [] else (stood ∷ [])

-- the lists of the hooks that are not covered
abbrev pub remaining : List Bool → List (List Standing) → List (List Standing)
remaining [] lists = []
remaining (covered ∷ flags) [] = []
remaining (covered ∷ flags) (stood ∷ lists) = left covered stood ++ remaining flags lists

-- covered, and also where the manifest stands
abbrev pub marked : ManifestId → List (List Standing) → List Bool → List Bool
marked id [] flags = flags
marked id (stood ∷ lists) [] = []
marked id (stood ∷ lists) (covered ∷ flags) = (covered || stands_in id stood) ∷ marked id lists flags

-- the lists in which the manifest stands
abbrev pub covered_by : ManifestId → List (List Standing) → List (List Standing)
covered_by id lists = filter (stands_in id) lists

-- each manifest in the list stands at one hook more, and has its stamp there
pub record HasAddedList (old new : Kept) (stood : List Standing) : Type 0 where
  pub hooks : (q : ManifestId) → hooks_at new q ≡ hooks_at old q + one_if (stands_in q stood)
  pub stamps : (q : ManifestId) (t : ℕ) → stamp_at new q ≡ Some t → (stamp_at old q ≡ Some t) ⊎ In (record { id = q; stamp = t }) stood

-- the places so far, and behind them those of the list
abbrev pub HasCells : Kept → List ℕ → Kept → List ℕ → List Standing → Type 0
HasCells old were new cells stood = (before : List Standing) → AreCells (id_at old) were before → AreCells (id_at new) cells (before ++ stood)

-- the scores are those of the lists
pub record IsScored (scores : Kept) (lists : List (List Standing)) : Type 0 where
  pub hooks : (q : ManifestId) → hooks_at scores q ≡ hooks_covered lists q
  pub stamps : (q : ManifestId) (t : ℕ) → stamp_at scores q ≡ Some t → In (record { id = q; stamp = t }) (candidates lists)

-- each score has a place of its own, and each that stands at some hook has the place of its score
pub record ArePlaced (scores : Kept) (cells : List ℕ) (lists : List (List Standing)) : Type 0 where
  pub apart : AreApart (id_at scores)
  pub places : AreCells (id_at scores) cells (candidates lists)
