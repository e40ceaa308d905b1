-- What a shelf tells of its reads, with more behind it.
use Rattle.std.proofs.Common.{◌≡◌, List, [], ◌∷◌, ◌++◌, Option, Some, None, refl, sym, ap, ◌∙◌, append_assoc}
use Rattle.std.specs.Option.{option_map}
use Rattle.std.proofs.lemmas.List.{append-nil}
use Rattle.outside.specs.Shelf.{Given, one_more}
use Rattle.outside.specs.Views.{ShelfView}

-- a told list with some more
abbrev pub with_more : {X : Type 0} → Option (List X) → List X → Option (List X)
with_more told more = option_map (λ xs. xs ++ more) told

pub more_none : {X : Type 0} (told : Option (List X)) → told ≡ with_more told []
more_none None = refl
more_none (Some xs) = ap Some (sym (append-nil xs))

pub more_then : {X : Type 0} (told : Option (List X)) (xs ys : List X) → with_more (with_more told xs) ys ≡ with_more told (xs ++ ys)
more_then None xs ys = refl
more_then (Some told) xs ys = ap Some (append_assoc told xs ys)

-- from one to the other some reads were made
pub record GaveMore (before after : ShelfView) : Type 0 where
  pub reads : List Given
  pub gave : after.gave ≡ with_more before.gave reads

pub gave_none : (shelf : ShelfView) → shelf.gave ≡ with_more shelf.gave []
gave_none shelf = more_none shelf.gave

pub gave_same : (before after : ShelfView) → after.gave ≡ before.gave → GaveMore before after
gave_same before after same = record { reads = []; gave = same ∙ more_none before.gave }

pub gave_one : (before after : ShelfView) (read : Given) → after.gave ≡ one_more before.gave read → GaveMore before after
gave_one before after read same = record { reads = read ∷ []; gave = same }

pub gave_then : (one two three : ShelfView) → GaveMore one two → GaveMore two three → GaveMore one three
gave_then one two three first second = record {
  reads = first.reads ++ second.reads;
  gave = second.gave ∙ ap (λ (told : Option (List Given)). with_more told second.reads) first.gave ∙ more_then one.gave first.reads second.reads;
}
