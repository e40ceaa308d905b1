-- Entries of one author among those of others (this project's own).
use Rattle.std.specs.Prelude.{ℕ, ◌≡◌, ◌≢◌, List, [], ◌∷◌, ◌++◌}
use Rattle.std.specs.List.{All}
use Rattle.journal_entry.specs.declared.entry.Entry.{Entry}
use Rattle.journal_entry.specs.declared.entry.Point.{Point}
use Rattle.store_core.specs.View.{StateView, made}

-- The entries that an author made of these points, in order, and before, between and behind them entries that others
-- added.
pub data IsInterleaved (others : List Entry → Type 0) (author : ℕ) : List Entry → List Point → Type 0 where
  none : IsInterleaved others author [] []
  theirs : (came entries : List Entry) (points : List Point) → others came → All (λ (entry : Entry). entry.author ≢ author) came
      → IsInterleaved others author entries points → IsInterleaved others author (came ++ entries) points
  own : (point : Point) (entries : List Entry) (points : List Point)
      → IsInterleaved others author entries points → IsInterleaved others author (made author point ∷ entries) (point ∷ points)

-- Behind what a caller had seen stand its entries of these points, beside those of others.
pub record AddsPoints (others : List Entry → Type 0) (author : ℕ) (before after : StateView) (points : List Point) : Type 0 where
  pub added : List Entry
  pub interleaved : IsInterleaved others author added points
  pub after_is : after ≡ record before { entries = before.entries ++ added }
