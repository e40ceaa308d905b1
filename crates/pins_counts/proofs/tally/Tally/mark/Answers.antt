use Rattle.std.proofs.Common.{◌∙◌, ap, ◌||◌}
use Rattle.ss_base.specs.Ids.{same_object}
use Rattle.pins_counts.specs.Counts.{is_ready, is_gone}
use Rattle.pins_counts.specs.Facts.{gone_of}
use Rattle.pins_counts.proofs.FactLaws.{room_for, numbers_marked, gone_marked}
use Rattle.pins_counts.proofs.tally.Tally.mark.Goals as goal

pub set_gone-requires-clause-room : goal.set_gone-requires-clause-room
set_gone-requires-clause-room c = room_for c.self.inside.facts c.args.object (ap (λ v. is_ready v c.args.object) c.self.view_is ∙ c.requires)

pub returns-clause-gone : goal.returns-clause-gone
returns-clause-gone c q =
    let m = c.self.inside.facts in
    let there = room_for m c.args.object (ap (λ v. is_ready v c.args.object) c.self.view_is ∙ c.requires) in
    gone_marked m c.set_gone.new.facts c.args.object c.set_gone.ensures.others c.set_gone.ensures.here there q ∙ ap (λ v. is_gone v q || same_object q c.args.object) c.self.view_is

pub returns-clause-rest : goal.returns-clause-rest
returns-clause-rest c =
    let numbers = numbers_marked c.self.inside.facts c.set_gone.new.facts c.args.object c.set_gone.ensures.others c.set_gone.ensures.here ∙ ap (λ v. v.numbers) c.self.view_is in
    λ i. record { numbers = numbers i; sessions = (c.self.view_is i).sessions; gone = gone_of c.set_gone.new.facts.entries; room = (c.self.view_is i).room }
