use Rattle.std.proofs.Common.{sym, subst}
use Rattle.pins_counts.specs.Counts.{Counted}
use Rattle.pins_counts.specs.declared.kind.Kind.{Kind}
use Rattle.pins_counts.specs.declared.kind.Kind.TheVariants.{Containers, Manifests}
use Rattle.pins_counts.proofs.AwaitingLaws.{next_quiet, NextIs}
use Rattle.pins_counts.proofs.counts.Counts.next_waiting.Goals as goal

pub returns-in-Containers : goal.returns-in-Containers
returns-in-Containers c =
    let quiet = next_quiet Containers c.self.inside.tally c.self.inside.containers c.args.from c.first_from.result c.self.invariant.0 c.first_from.ensures in
    let there = subst (λ (v : Counted). NextIs Containers v c.args.from c.first_from.result) c.self.view_is quiet in
    subst (λ (k : Kind). NextIs k c.args.self.now c.args.from c.first_from.result) (sym c.in-Containers.is) there

pub returns-in-Manifests : goal.returns-in-Manifests
returns-in-Manifests c =
    let quiet = next_quiet Manifests c.self.inside.tally c.self.inside.manifests c.args.from c.first_from-in-Manifests.result c.self.invariant.1 c.first_from-in-Manifests.ensures in
    let there = subst (λ (v : Counted). NextIs Manifests v c.args.from c.first_from-in-Manifests.result) c.self.view_is quiet in
    subst (λ (k : Kind). NextIs k c.args.self.now c.args.from c.first_from-in-Manifests.result) (sym c.in-Manifests.is) there
