use Rattle.std.proofs.Common.{◌∙◌, ap}
use Rattle.pins_counts.specs.Counts.{number}
use Rattle.pins_counts.proofs.FactLaws.{number_here}
use Rattle.pins_counts.proofs.tally.Tally.number_of.Goals as goal

pub returns : goal.returns
returns c = number_here c.self.inside.facts c.args.object c.fact_of.result c.fact_of.ensures ∙ ap (λ v. number v c.args.object) c.self.view_is
