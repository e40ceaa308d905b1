use Rattle.std.proofs.Common.{◌++◌, List, ℕ, sym, ap, ◌∙◌, subst, append_assoc}
use Rattle.std.proofs.lemmas.Result.{on_ok_weaker, on_err_weaker}
use Rattle.outside.specs.Bytes.{AppendsFront}
use Rattle.store_run.specs.SoFar.{Stage, at_end}
use Rattle.store_run.specs.Lines.{IsLines}
use Rattle.store_run.proofs.AdvancesLaws.{front-more, writes-advances, writes-whole}
use Rattle.store_run.proofs.ResultLaws.{on_ok}
use Rattle.store_run.proofs.printing.print_chunk.Goals as goal

pub returns-clause-ok : goal.returns-clause-ok
returns-clause-ok g c =
    let maker = g.L.ChunkLines in
    let lines = λ (stage : Stage) (later : List (List ℕ)).
    c.in_ok-text.ensures.lines stage later ∙ ap (λ (l : List ℕ). l ++ maker.text stage c.add.new.self later) (sym c.as_bytes.ensures.value) in
    let whole = subst IsLines (sym c.as_bytes.ensures.value) c.in_ok-text.ensures.whole in
    on_ok_weaker c.print_text.result
    (λ writes stage. writes-advances _ _ _ _ _ _ (λ (later : List (List ℕ)). maker.text stage c.add.new.self later) (lines stage) c.requires.whole whole writes)
    c.print_text.ensures.ok

pub returns-clause-none_whole : goal.returns-clause-none_whole
returns-clause-none_whole g c = on_ok c.print_text.result c.in_ok-text.ensures.none_whole

pub returns-clause-whole : goal.returns-clause-whole
returns-clause-whole g c =
    let whole = subst IsLines (sym c.as_bytes.ensures.value) c.in_ok-text.ensures.whole in
    on_ok_weaker c.print_text.result (λ writes. writes-whole _ _ _ _ _ c.requires.whole whole writes) c.print_text.ensures.ok

pub returns-clause-err : goal.returns-clause-err
returns-clause-err g c =
    let maker = g.L.ChunkLines in
    let sink = g.O.Sink in
    let waiting = c.args.waiting.now.items in
    let text = c.as_bytes.result.now in
    let whole = λ (later : List (List ℕ)).
    append_assoc waiting text (maker.text at_end c.add.new.self later)
    ∙ ap (λ (l : List ℕ). waiting ++ l) (ap (λ (l : List ℕ). l ++ maker.text at_end c.add.new.self later) c.as_bytes.ensures.value ∙ sym (c.in_ok-text.ensures.lines at_end later)) in
    on_err_weaker c.print_text.result
    (λ front later. subst (AppendsFront (sink.written c.args.out.now) (sink.written c.print_text.new.out)) (whole later) (front-more _ _ _ _ front))
    c.print_text.ensures.err
