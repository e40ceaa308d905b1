-- Entries of one author among those of others.
use Rattle.std.proofs.Common.{◌≡◌, ◌≢◌, ℕ, suc, Bool, true, false, eqb, cond, List, [], ◌∷◌, ◌++◌, map, filter, All, refl, sym, ap, ◌∙◌, subst, arith}
use Rattle.std.proofs.lemmas.Bool.{ne_eqb, eq-eqb}
use Rattle.std.proofs.lemmas.List.{append_assoc}
use Rattle.std.proofs.lemmas.List.Elements.{filter-append}
use Rattle.journal_entry.specs.declared.entry.Entry.{Entry}
use Rattle.journal_entry.specs.declared.entry.Point.{Point}
use Rattle.store_core.specs.View.{made}
use Rattle.job_entries.specs.Interleaved.{IsInterleaved}
use Rattle.job_entries.specs.Interleaved.IsInterleaved.{none, theirs, own}

module _ (others : List Entry → Type 0) (author : ℕ) where
  -- more of both
  pub interleaved-append : (first second : List Entry) (points more : List Point) → IsInterleaved others author first points → IsInterleaved others author second more
      → IsInterleaved others author (first ++ second) (points ++ more)
  interleaved-append _ second _ more none is = is
  interleaved-append _ second _ more (theirs came entries points by not_own before) is =
      subst (λ (all : List Entry). IsInterleaved others author all (points ++ more)) (sym (append_assoc came entries second))
      (theirs came (entries ++ second) (points ++ more) by not_own (interleaved-append entries second points more before is))
  interleaved-append _ second _ more (own point entries points before) is =
      own point (entries ++ second) (points ++ more) (interleaved-append entries second points more before is)

  -- where others add nothing
  pub own_alone : ((came : List Entry) → others came → came ≡ []) → (entries : List Entry) (points : List Point) → IsInterleaved others author entries points → entries ≡ map (made author) points
  own_alone nothing _ _ none = refl
  own_alone nothing _ _ (theirs came entries points by not_own is) = ap (λ (xs : List Entry). xs ++ entries) (nothing came by) ∙ own_alone nothing entries points is
  own_alone nothing _ _ (own point entries points is) = ap (λ (xs : List Entry). made author point ∷ xs) (own_alone nothing entries points is)

module _ (others more : List Entry → Type 0) (author : ℕ) (weaker : (came : List Entry) → others came → more came) where
  -- where others may add more
  pub interleaved-more : (entries : List Entry) (points : List Point) → IsInterleaved others author entries points → IsInterleaved more author entries points
  interleaved-more _ _ none = none
  interleaved-more _ _ (theirs came entries points by not_own is) = theirs came entries points (weaker came by) not_own (interleaved-more entries points is)
  interleaved-more _ _ (own point entries points is) = own point entries points (interleaved-more entries points is)

-- an author's entries among some
abbrev pub by : ℕ → List Entry → List Entry
by author entries = filter (λ (entry : Entry). eqb entry.author author) entries

by_more : (author : ℕ) (entry : Entry) (entries : List Entry) (is_own : Bool) → eqb entry.author author ≡ is_own → by author (entry ∷ entries) ≡ cond is_own (entry ∷ by author entries) (by author entries)
by_more author entry entries is_own is = ap (λ (b : Bool). cond b (entry ∷ by author entries) (by author entries)) is

none_by : (author : ℕ) (came : List Entry) → All (λ (entry : Entry). entry.author ≢ author) came → by author came ≡ []
none_by author [] not_own = refl
none_by author (entry ∷ came) not_own =
    by_more author entry came false (ne_eqb entry.author author (not_own 0 entry (omega arith)))
    ∙ none_by author came (λ k d below. not_own (suc k) d (omega (arith, below)))

module _ (others : List Entry → Type 0) (author : ℕ) where
  -- the author's own are those of its points
  pub own_among : (entries : List Entry) (points : List Point) → IsInterleaved others author entries points → by author entries ≡ map (made author) points
  own_among _ _ none = refl
  own_among _ _ (theirs came entries points theirs_too not_own is) =
      filter-append (λ (entry : Entry). eqb entry.author author) came entries
      ∙ ap (λ (xs : List Entry). xs ++ by author entries) (none_by author came not_own)
      ∙ own_among entries points is
  own_among _ _ (own point entries points is) =
      by_more author (made author point) entries true (eq-eqb author author refl)
      ∙ ap (λ (xs : List Entry). made author point ∷ xs) (own_among entries points is)
