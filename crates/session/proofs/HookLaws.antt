-- Sampled hooks are those of a choice.
use Rattle.std.proofs.Common.{◌≡◌, ◌≢◌, ℕ, suc, ◌<◌, ◌≤◌, Bool, true, false, not, List, [], ◌∷◌, length, slice_index_or, refl, ap, arith, AllPairs}
use Rattle.std.specs.List.{list_any, list_all, AllPass}
use Rattle.std.proofs.lemmas.Bool.{and_from, or_from, le-leb}
use Rattle.std.proofs.lemmas.List.Sums.{list_all-from_AllPass}
use Rattle.ss_base.specs.declared.name.Name.{Name}
use Rattle.ss_base.specs.Hook.{is_hook}
use Rattle.ss_base.specs.Ids.{same_name, has_name, are_distinct}
use Rattle.ss_base.proofs.IdLaws.{same_name-true}
use Rattle.journal_entry.specs.Bounds.{most_hooks}
use Rattle.history.specs.Legal.{are_hooks}

differs : (a b : Name) → a ≢ b → (same : Bool) → same_name a b ≡ same → same ≡ false
differs a b apart true is = absurd (apart (same_name-true a b is))
differs a b apart false is = refl

not_among : (name : Name) (names : List Name) → ((j : ℕ) (d : Name) → j < length names → name ≢ slice_index_or names j d) → list_any (same_name name) names ≡ false
not_among name [] apart = refl
not_among name (other ∷ names) apart =
    or_from (same_name name other) (list_any (same_name name) names) (differs name other (apart 0 other (omega arith)) (same_name name other) refl)
    (not_among name names (λ j d within. apart (suc j) d (omega (arith, within))))

distinct_names : (names : List Name) → AllPairs (λ a b. a ≢ b) names → are_distinct names ≡ true
unfolding are_distinct has_name
distinct_names [] pairs = refl
distinct_names (name ∷ names) pairs =
    and_from (not (has_name name names)) (are_distinct names)
    (ap not (not_among name names (λ j d within. pairs 0 (suc j) d (omega arith) (omega (arith, within)))))
    (distinct_names names (λ i j d before within. pairs (suc i) (suc j) d (omega (arith, before)) (omega (arith, within))))

pub hooks_valid : (bits : ℕ) (names : List Name) → AllPass (is_hook bits) names → AllPairs (λ a b. a ≢ b) names → length names ≤ most_hooks → are_hooks bits names ≡ true
unfolding are_hooks
hooks_valid bits names sampled pairs few =
    and_from (are_distinct names) _ (distinct_names names pairs)
    (and_from _ (list_all (is_hook bits) names) (le-leb (length names) most_hooks few) (list_all-from_AllPass (is_hook bits) names sampled))
