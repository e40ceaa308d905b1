-- What keeping entries leaves of what a depot tells.
use Rattle.std.proofs.Common.{◌≡◌, List, ap}
use Rattle.std.specs.Prelude.{Ok, Err}
use Rattle.outside.specs.Views.{ShelfView}
use Rattle.journal_entry.specs.declared.entry.Entry.{Entry}
use Rattle.store_run.specs.JobRun.{Kept, KeepAnswer}
use Rattle.run_streams.specs.Wrote.{with_kept}

module _ (before after : ShelfView) (entries : List Entry) where
  pub keep_gave : (kept : Kept) → KeepAnswer before after entries kept → after.gave ≡ before.gave
  keep_gave (Ok done) keeps = ap (λ (d : ShelfView). d.gave) keeps
  keep_gave (Err fault) keeps = ap (λ (d : ShelfView). d.gave) keeps.1

  pub keep_wrote : (kept : Kept) → KeepAnswer before after entries kept → after.wrote ≡ with_kept before.wrote entries kept
  keep_wrote (Ok done) keeps = ap (λ (d : ShelfView). d.wrote) keeps
  keep_wrote (Err fault) keeps = ap (λ (d : ShelfView). d.wrote) keeps.1

  pub keep_erased : (kept : Kept) → KeepAnswer before after entries kept → after.erased ≡ before.erased
  keep_erased (Ok done) keeps = ap (λ (d : ShelfView). d.erased) keeps
  keep_erased (Err fault) keeps = ap (λ (d : ShelfView). d.erased) keeps.1
