use Rattle.std.proofs.Common.{◌++◌, List, ℕ, sym, ap, ◌∙◌}
use Rattle.std.proofs.lemmas.Result.{on_err_weaker}
use Rattle.outside.proofs.BytesLaws.{AppendsFront-then}
use Rattle.store_run.specs.EntryLines.{entry_lines}
use Rattle.store_run.proofs.listing.print_all.Goals as goal

pub returns-clause-err : goal.returns-clause-err
returns-clause-err g c =
    let move = c.in_ok-print_entries.ensures.ok in
    on_err_weaker c.write_all.result
    (λ front.
    AppendsFront-then _ _ _ _ move.done c.deref.result.now
    (sym (ap (λ (l : List ℕ). l ++ entry_lines 0 c.args.entries.now) c.new-waiting.ensures.items) ∙ move.rest ∙ ap (λ (l : List ℕ). move.done ++ l) (sym c.deref.ensures.value))
    move.written front)
    c.write_all.ensures.err
