use Rattle.std.proofs.Common.{sym, ◌∙◌, ap, not, ◌&&◌, ◌==◌, is_some}
use Rattle.pins_counts.specs.Counts.{is_idle}
use Rattle.pins_counts.proofs.FactLaws.{number_here, gone_here}
use Rattle.pins_counts.proofs.tally.Tally.is_idle.Goals as goal

pub returns-in-Some : goal.returns-in-Some
returns-in-Some c =
    let m = c.self.inside.facts in
    let k = c.args.object in
    let f = c.fact_of-fact.result in
    let whole = (λ i. not (gone_here m k f c.fact_of-fact.ensures i) && (number_here m k f c.fact_of-fact.ensures i == 0)) ∙ ap (λ v. is_idle v k) c.self.view_is in
    ap (λ o. not (is_some o) && (f.number == 0)) (sym c.in-Some.is) ∙ whole

pub returns-in-None : goal.returns-in-None
returns-in-None c =
    let m = c.self.inside.facts in
    let k = c.args.object in
    let f = c.fact_of-fact.result in
    let whole = (λ i. not (gone_here m k f c.fact_of-fact.ensures i) && (number_here m k f c.fact_of-fact.ensures i == 0)) ∙ ap (λ v. is_idle v k) c.self.view_is in
    ap (λ o. not (is_some o) && (f.number == 0)) (sym c.in-None.is) ∙ whole
