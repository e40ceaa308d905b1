use Rattle.std.proofs.Common.{◌≡◌, sym, ◌∙◌, ap, ◌<◌, length, get_or, arith}
use Rattle.pins_counts.specs.Waiting.{awaits}
use Rattle.pins_counts.proofs.AscendingLaws.{awaits_between, awaits_past, get_or_any}
use Rattle.pins_counts.proofs.waiting.Waiting.first_from.Goals as goal

pub returns-then-at-len : goal.returns-then-at-len
returns-then-at-len c =
    let xs = c.self.inside.sessions.items in
    let e = c.place_of-at.ensures in
    let within : c.place_of-at.result < length xs = omega arith in
    let there : c.index.result.now ≡ get_or xs c.place_of-at.result 0 = c.index.ensures ∙ get_or_any xs c.place_of-at.result c.index.result.now 0 within in
    let least = e.behind c.place_of-at.result 0 (omega arith) (omega (arith, within)) in
    (omega (arith, there, least), λ q from less. ap (λ v. awaits v.sessions q) (sym c.self.view_is) ∙ awaits_between 0 c.self.inside.below xs c.place_of-at.result c.args.from q c.index.result.now c.self.invariant.0 e.before (sym there) from less)

pub returns-else-at-len : goal.returns-else-at-len
returns-else-at-len c q from =
    let xs = c.self.inside.sessions.items in
    let e = c.place_of-at.ensures in
    ap (λ v. awaits v.sessions q) (sym c.self.view_is) ∙ awaits_past xs c.place_of-at.result c.args.from q e.before (omega arith) from
