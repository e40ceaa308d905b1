use Rattle.std.proofs.Common.{reverse, sym, ◌∙◌, arith}
use Rattle.history_totals.proofs.OpenLaws.{more_open, fewer_open, same_open}
use Rattle.history_totals.proofs.tally.unfinished_after.Goals as goal

pub returns-then-starts : goal.returns-then-starts
returns-then-starts c =
    let law = more_open c.args.rules.now c.args.entry.now (reverse c.args.before.now) c.requires.legal c.requires.allowed (sym c.starts.ensures ∙ c.if-starts.true) in
    omega (arith, law, c.requires.agrees, c.from-unfinished.ensures)

pub overflow_sub-result : goal.overflow_sub-result
overflow_sub-result c =
    let law = fewer_open c.args.rules.now c.args.entry.now (reverse c.args.before.now) c.requires.legal c.requires.allowed (sym c.starts.ensures ∙ c.if-starts.false) (sym c.stops.ensures ∙ c.if-stops.true) in
    omega (arith, law, c.requires.agrees, c.from-unfinished.ensures)

pub returns-then-stops : goal.returns-then-stops
returns-then-stops c =
    let law = fewer_open c.args.rules.now c.args.entry.now (reverse c.args.before.now) c.requires.legal c.requires.allowed (sym c.starts.ensures ∙ c.if-starts.false) (sym c.stops.ensures ∙ c.if-stops.true) in
    omega (arith, law, c.requires.agrees, c.from-unfinished.ensures)

pub returns : goal.returns
returns c =
    let law = same_open c.args.rules.now c.args.entry.now (reverse c.args.before.now) c.requires.legal c.requires.allowed (sym c.starts.ensures ∙ c.if-starts.false) (sym c.stops.ensures ∙ c.if-stops.false) in
    omega (arith, law, c.requires.agrees, c.from-unfinished.ensures)
