-- Weights of entries.
use Rattle.std.proofs.Common.{◌≡◌, ℕ, ◌+◌, List, [], ◌∷◌, ◌++◌, refl, ap, ◌∙◌, zero-add}
use Rattle.std.proofs.lemmas.List.Sums.{sum_by-append}
use Rattle.journal_entry.specs.declared.entry.Entry.{Entry}
use Rattle.journal_entry.specs.Weight.{point_weight, weight}

pub weight-append : (xs ys : List Entry) → weight (xs ++ ys) ≡ weight xs + weight ys
unfolding weight
weight-append xs ys = sum_by-append (λ (entry : Entry). point_weight entry.point) xs ys

pub weight_push : (xs : List Entry) (entry : Entry) → weight (xs ++ entry ∷ []) ≡ weight xs + point_weight entry.point
unfolding weight
weight_push xs entry = weight-append xs (entry ∷ []) ∙ ap (λ n. weight xs + n) (zero-add (point_weight entry.point))

pub weight_none : weight [] ≡ 0
unfolding weight
weight_none = refl
