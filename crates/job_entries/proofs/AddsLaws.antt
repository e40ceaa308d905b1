-- What a caller adds to what it had seen, call by call.
use Rattle.std.proofs.Common.{◌≡◌, ℕ, List, [], ◌∷◌, ◌++◌, map, sym, ap, ◌∙◌, subst}
use Rattle.std.proofs.lemmas.List.{append_assoc, append-nil}
use Rattle.journal_entry.specs.declared.entry.Entry.{Entry}
use Rattle.journal_entry.specs.declared.entry.Point.{Point}
use Rattle.store_core.specs.View.{StateView, made, Adds}
use Rattle.history_calls.specs.Turn.{IsTurn}
use Rattle.job_entries.specs.Interleaved.{AddsPoints}
use Rattle.job_entries.specs.Interleaved.IsInterleaved.{none, theirs, own}
use Rattle.job_entries.proofs.InterleavedLaws.{interleaved-append, own_alone}

with_entries : (view : StateView) (one other : List Entry) → one ≡ other → let f : List Entry → StateView = λ entries. record view { entries = entries } in f one ≡ f other
with_entries view one other same = ap (λ (entries : List Entry). record view { entries = entries }) same

module _ (others : List Entry → Type 0) (author : ℕ) where
  pub adds-none : (seen : StateView) → AddsPoints others author seen seen []
  adds-none seen = record { added = []; interleaved = none; after_is = with_entries seen seen.entries (seen.entries ++ []) (sym (append-nil seen.entries)) }

  pub adds-then : (first second third : StateView) (points more : List Point) → AddsPoints others author first second points → AddsPoints others author second third more
      → AddsPoints others author first third (points ++ more)
  adds-then first second third points more one two = record {
    added = one.added ++ two.added;
    interleaved = interleaved-append others author one.added two.added points more one.interleaved two.interleaved;
    after_is =
        two.after_is
        ∙ ap (λ (view : StateView). record view { entries = view.entries ++ two.added }) one.after_is
        ∙ with_entries first ((first.entries ++ one.added) ++ two.added) (first.entries ++ (one.added ++ two.added)) (append_assoc first.entries one.added two.added);
  }

  pub adds-own : (seen after : StateView) (point : Point) → Adds seen after (made author point) → AddsPoints others author seen after (point ∷ [])
  adds-own seen after point adds = record { added = made author point ∷ []; interleaved = own point [] [] none; after_is = adds.added }

  -- it stays the store's profile
  pub same_profile : (before after : StateView) (points : List Point) → AddsPoints others author before after points → after.profile ≡ before.profile
  same_profile before after points adds = ap (λ (view : StateView). view.profile) adds.after_is

  -- where others add nothing
  pub behind_alone : ((came : List Entry) → others came → came ≡ []) → (before after : StateView) (points : List Point) → AddsPoints others author before after points
      → after ≡ record before { entries = before.entries ++ map (made author) points }
  behind_alone nothing before after points adds =
      adds.after_is
      ∙ with_entries before (before.entries ++ adds.added) (before.entries ++ map (made author) points)
      (ap (λ (entries : List Entry). before.entries ++ entries) (own_alone others author nothing adds.added points adds.interleaved))

  module _ (standings champions : ℕ) (seen : StateView) where
    -- what came before the turn
    pub adds-came : (turn : StateView) → IsTurn others standings champions author seen turn → AddsPoints others author seen turn []
    adds-came turn is = record {
      added = is.came ++ [];
      interleaved = theirs is.came [] [] is.by_others is.not_own none;
      after_is = is.turn_is ∙ with_entries seen (seen.entries ++ is.came) (seen.entries ++ (is.came ++ [])) (ap (λ (came : List Entry). seen.entries ++ came) (sym (append-nil is.came)));
    }

    -- and an entry at the turn, or none
    pub adds-at_turn : (turn after : StateView) (point : Point) → IsTurn others standings champions author seen turn → Adds turn after (made author point) → AddsPoints others author seen after (point ∷ [])
    adds-at_turn turn after point is adds = adds-then seen turn after [] (point ∷ []) (adds-came turn is) (adds-own turn after point adds)

    pub adds-no_more : (turn after : StateView) → IsTurn others standings champions author seen turn → after ≡ turn → AddsPoints others author seen after []
    adds-no_more turn after is same = subst (λ (view : StateView). AddsPoints others author seen view []) (sym same) (adds-came turn is)
