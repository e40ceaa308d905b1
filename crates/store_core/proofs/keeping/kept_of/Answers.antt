use Rattle.std.proofs.Common.{ℕ, List, reverse, slice_get, sym, ap, ◌∙◌}
use Rattle.journal_entry.specs.declared.entry.Entry.{Entry}
use Rattle.store_core.specs.View.{kept_at}
use Rattle.store_core.proofs.KeptLaws.{kept_is, kept_none, get_some, get_past}
use Rattle.store_core.proofs.keeping.kept_of.Goals as goal

pub returns-in_ok-kept-in-Some : goal.returns-in_ok-kept-in-Some
returns-in_ok-kept-in-Some c =
    let found = c.in-Some.ensures.lookup in
    let at = ap (λ (l : List ℕ). slice_get l c.args.id.now.seq) (sym c.commits.ensures) ∙ get_some _ _ c.in-Some.number.now found.3.0 found.1 in
    c.in_ok-kept-in-Some.ensures ∙ ap (λ (l : List Entry). kept_at (reverse l) c.in-Some.number.now) c.entries-entries.ensures.entries ∙ kept_is _ c.args.id.now _ _ c.entries-entries.ensures.legal at

pub returns-in-None : goal.returns-in-None
returns-in-None c =
    let found = c.in-None.ensures.lookup in
    let at = ap (λ (l : List ℕ). slice_get l c.args.id.now.seq) (sym c.commits.ensures) ∙ get_past _ _ found.3 in
    sym (kept_none _ c.args.id.now _ c.entries-entries.ensures.legal at)
