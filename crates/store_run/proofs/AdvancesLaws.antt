-- How text on its way to a sink goes on.
use Rattle.std.proofs.Common.{◌≡◌, ℕ, List, [], ◌∷◌, ◌++◌, Option, refl, sym, ap, ◌∙◌, subst, append_assoc, inl, inr}
use Rattle.std.proofs.lemmas.List.{append-nil}
use Rattle.std.specs.Io.KnownBytes.{Appends}
use Rattle.outside.specs.Bytes.{AppendsFront}
use Rattle.outside.proofs.BytesLaws.{Appends-none, Appends-then, AppendsFront-then}
use Rattle.store_run.specs.Advances.{Advances, AdvancesByLines, Moves, Writes, all_waits, all_written}
use Rattle.store_run.specs.Lines.{IsLines}

-- nothing was written yet
pub advances-none : {A : Type 0} (old : Option (List ℕ)) (before after : A → List ℕ) → ((more : A) → before more ≡ after more) → Advances old old before after
advances-none old before after same = record { done = []; written = Appends-none old; rest = same }

-- one step behind another
pub advances-then : {A : Type 0} (old new now : Option (List ℕ)) (before mid after : A → List ℕ) → Advances old new before mid → Advances new now mid after → Advances old now before after
advances-then old new now before mid after first second = record {
  done = first.done ++ second.done;
  written = Appends-then old new now first.done second.done first.written second.written;
  rest = λ more. first.rest more ∙ ap (λ (l : List ℕ). first.done ++ l) (second.rest more) ∙ sym (append_assoc first.done second.done (after more));
}

-- the same, of what may come in other words
pub advances-of : {A B : Type 0} (old new : Option (List ℕ)) (before after : A → List ℕ) (of : B → A) (before' after' : B → List ℕ) → ((more : B) → before' more ≡ before (of more)) → ((more : B) → after' more ≡ after (of more)) → Advances old new before after → Advances old new before' after'
advances-of old new before after of before' after' at_first at_last way = record {
  done = way.done;
  written = way.written;
  rest = λ more. at_first more ∙ way.rest (of more) ∙ ap (λ (l : List ℕ). way.done ++ l) (sym (at_last more));
}

-- a front of what was left follows
pub advances-cut : {A : Type 0} (old new now : Option (List ℕ)) (before after : A → List ℕ) (more : A) → Advances old new before after → AppendsFront new now (after more) → AppendsFront old now (before more)
advances-cut old new now before after more way front =
    AppendsFront-then old new now (before more) way.done (after more) (way.rest more) way.written front

-- all that was left follows
pub advances-end : {A : Type 0} (old new now : Option (List ℕ)) (before after : A → List ℕ) (more : A) → Advances old new before after → Appends new now (after more) → Appends old now (before more)
advances-end old new now before after more way last =
    subst (Appends old now) (sym (way.rest more)) (Appends-then old new now way.done (after more) way.written last)

-- some text waits, and the rest of the lines is to come
pub moves-advances : {A : Type 0} (old new : Option (List ℕ)) (waiting waiting' text : List ℕ) (before after : A → List ℕ) → ((more : A) → before more ≡ text ++ after more) → Moves old new waiting waiting' text → Advances old new (λ more. waiting ++ before more) (λ more. waiting' ++ after more)
moves-advances old new waiting waiting' text before after lines move = record {
  done = move.done;
  written = move.written;
  rest = λ more.
      ap (λ (l : List ℕ). waiting ++ l) (lines more)
      ∙ sym (append_assoc waiting text (after more))
      ∙ ap (λ (l : List ℕ). l ++ after more) move.rest
      ∙ append_assoc move.done waiting' (after more);
}

-- whole lines behind whole lines
pub IsLines-append : (xs ys : List ℕ) → IsLines xs → IsLines ys → IsLines (xs ++ ys)
IsLines-append xs ys first (inl none) = subst IsLines (sym (ap (λ (l : List ℕ). xs ++ l) none ∙ append-nil xs)) first
IsLines-append xs ys first (inr (front, is)) = inr (xs ++ front, ap (λ (l : List ℕ). xs ++ l) is ∙ sym (append_assoc xs front (10 ∷ [])))

-- what all waits or was all written moves
pub writes-moves : (old new : Option (List ℕ)) (waiting waiting' text : List ℕ) → Writes old new waiting waiting' text → Moves old new waiting waiting' text
writes-moves old new waiting waiting' text (all_waits same is) = record {
  done = [];
  written = subst (λ (told : Option (List ℕ)). Appends old told []) (sym same) (Appends-none old);
  rest = sym is;
}
writes-moves old new waiting waiting' text (all_written wrote none) = record {
  done = waiting ++ text;
  written = wrote;
  rest = sym (ap (λ (l : List ℕ). waiting ++ text ++ l) none ∙ append-nil (waiting ++ text));
}

-- what waits then is whole lines, where both parts are
pub writes-whole : (old new : Option (List ℕ)) (waiting waiting' text : List ℕ) → IsLines waiting → IsLines text → Writes old new waiting waiting' text → IsLines waiting'
writes-whole old new waiting waiting' text first last (all_waits same is) = subst IsLines (sym is) (IsLines-append waiting text first last)
writes-whole old new waiting waiting' text first last (all_written wrote none) = inl none

-- some lines wait, and the rest of them is to come
pub writes-advances : {A : Type 0} (old new : Option (List ℕ)) (waiting waiting' text : List ℕ) (before after : A → List ℕ) → ((more : A) → before more ≡ text ++ after more) → IsLines waiting → IsLines text
    → Writes old new waiting waiting' text → AdvancesByLines old new (λ more. waiting ++ before more) (λ more. waiting' ++ after more)
unfolding writes-moves moves-advances
writes-advances old new waiting waiting' text before after lines first last (all_waits same is) =
    record { way = moves-advances old new waiting waiting' text before after lines (writes-moves old new waiting waiting' text (all_waits same is)); whole = inl refl }
writes-advances old new waiting waiting' text before after lines first last (all_written wrote none) =
    record { way = moves-advances old new waiting waiting' text before after lines (writes-moves old new waiting waiting' text (all_written wrote none)); whole = IsLines-append waiting text first last }

-- the steps above, by whole lines
pub by_lines-none : {A : Type 0} (old : Option (List ℕ)) (before after : A → List ℕ) → ((more : A) → before more ≡ after more) → AdvancesByLines old old before after
unfolding advances-none
by_lines-none old before after same = record { way = advances-none old before after same; whole = inl refl }

pub by_lines-then : {A : Type 0} (old new now : Option (List ℕ)) (before mid after : A → List ℕ) → AdvancesByLines old new before mid → AdvancesByLines new now mid after → AdvancesByLines old now before after
unfolding advances-then
by_lines-then old new now before mid after first second = record {
  way = advances-then old new now before mid after first.way second.way;
  whole = IsLines-append first.way.done second.way.done first.whole second.whole;
}

pub by_lines-of : {A B : Type 0} (old new : Option (List ℕ)) (before after : A → List ℕ) (of : B → A) (before' after' : B → List ℕ) → ((more : B) → before' more ≡ before (of more)) → ((more : B) → after' more ≡ after (of more)) → AdvancesByLines old new before after → AdvancesByLines old new before' after'
unfolding advances-of
by_lines-of old new before after of before' after' at_first at_last by =
    record { way = advances-of old new before after of before' after' at_first at_last by.way; whole = by.whole }

-- a front of some text is one of more text
pub front-more : (old new : Option (List ℕ)) (text more : List ℕ) → AppendsFront old new text → AppendsFront old new (text ++ more)
front-more old new text more (front, back, split, written) =
    (front, back ++ more, ap (λ (l : List ℕ). l ++ more) split ∙ append_assoc front back more, written)

-- nothing was written of a text yet
pub front-none : (told : Option (List ℕ)) (text : List ℕ) → AppendsFront told told text
front-none told text = ([], text, refl, Appends-none told)
