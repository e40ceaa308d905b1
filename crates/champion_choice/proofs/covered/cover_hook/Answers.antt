use Rattle.std.proofs.Common.{◌≡◌, ◌-◌, ◌||◌, false, true, sym, ap, ◌∙◌}
use Rattle.ss_base.specs.Champions.{stands_in, hooks_covered}
use Rattle.champion_choice.specs.Scores.{hooks_at, id_at}
use Rattle.champion_choice.proofs.PlaceLaws.{stands_by_place}
use Rattle.champion_choice.specs.Lists.{left, covered_by}
use Rattle.champion_choice.proofs.ListLaws.{lost_none, covered_here, covered_elsewhere, no_less}
use Rattle.champion_choice.proofs.covered.cover_hook.Goals as goal

pub returns-then-covered-clause-hooks : goal.returns-then-covered-clause-hooks
returns-then-covered-clause-hooks c q =
    lost_none c.args.champion.1.id q (hooks_at c.args.scores.now q)
    ∙ ap (λ b. hooks_at c.args.scores.now q - hooks_covered (covered_by c.args.champion.1.id (left b c.args.stood.now)) q) (sym c.if-covered.true)

pub returns-then-not-has_cell-clause-hooks : goal.returns-then-not-has_cell-clause-hooks
returns-then-not-has_cell-clause-hooks c q =
    let absent : stands_in c.args.champion.1.id c.args.stood.now ≡ false = sym (stands_by_place (id_at c.args.scores.now) c.args.cells.now c.args.stood.now c.args.champion.0 c.args.champion.1.id c.requires.apart c.requires.champion c.requires.cells) ∙ sym c.has_cell.ensures ∙ c.if-not-has_cell.true in
    no_less (hooks_at c.args.scores.now q)
    ∙ ap (λ n. hooks_at c.args.scores.now q - n) (sym (covered_elsewhere c.args.champion.1.id q c.args.stood.now absent))
    ∙ ap (λ b. hooks_at c.args.scores.now q - hooks_covered (covered_by c.args.champion.1.id (left b c.args.stood.now)) q) (sym c.if-covered.false)

pub returns-clause-hooks : goal.returns-clause-hooks
returns-clause-hooks c q =
    let stands : stands_in c.args.champion.1.id c.args.stood.now ≡ true = sym (stands_by_place (id_at c.args.scores.now) c.args.cells.now c.args.stood.now c.args.champion.0 c.args.champion.1.id c.requires.apart c.requires.champion c.requires.cells) ∙ sym c.has_cell.ensures ∙ c.if-not-has_cell.false in
    c.lower.ensures.hooks q
    ∙ ap (λ n. hooks_at c.args.scores.now q - n) (sym (covered_here c.args.champion.1.id q c.args.stood.now stands))
    ∙ ap (λ b. hooks_at c.args.scores.now q - hooks_covered (covered_by c.args.champion.1.id (left b c.args.stood.now)) q) (sym c.if-covered.false)

pub returns-then-not-has_cell-clause-covered : goal.returns-then-not-has_cell-clause-covered
returns-then-not-has_cell-clause-covered c =
    let absent : stands_in c.args.champion.1.id c.args.stood.now ≡ false = sym (stands_by_place (id_at c.args.scores.now) c.args.cells.now c.args.stood.now c.args.champion.0 c.args.champion.1.id c.requires.apart c.requires.champion c.requires.cells) ∙ sym c.has_cell.ensures ∙ c.if-not-has_cell.true in
    sym (λ j. c.if-covered.false j || absent j)

pub returns-clause-covered : goal.returns-clause-covered
returns-clause-covered c =
    let stands : stands_in c.args.champion.1.id c.args.stood.now ≡ true = sym (stands_by_place (id_at c.args.scores.now) c.args.cells.now c.args.stood.now c.args.champion.0 c.args.champion.1.id c.requires.apart c.requires.champion c.requires.cells) ∙ sym c.has_cell.ensures ∙ c.if-not-has_cell.false in
    sym (λ j. c.if-covered.false j || stands j)
