use Rattle.std.proofs.Common.{◌+◌, ap, arith}
use Rattle.champion_choice.specs.declared.score.Score.{Score}
use Rattle.champion_choice.proofs.PlaceLaws.{hooks_here}
use Rattle.champion_choice.proofs.ScoreLaws.{counted_at}
use Rattle.champion_choice.proofs.score.add_one.Goals as goal

pub overflow_add-index_mut : goal.overflow_add-index_mut
overflow_add-index_mut c =
    let s : Score = c.index_mut.result.now in
    let here = hooks_here c.place_of.new.places c.place_of.new.scores.items c.in_ok-place.place s c.args.standing.id c.in_ok-place.ensures.places c.in_ok-place.ensures.place.here in
    let was = c.in_ok-place.ensures.place.hooks c.args.standing.id in
    let is = ap (λ (t : Score). t.hooks) c.index_mut.ensures.value in
    let room = c.requires.room in
    omega (arith, here, was, is, room)

pub returns-clause-places : goal.returns-clause-places
returns-clause-places c =
    let s : Score = c.index_mut.result.now in
    (counted_at c.args.scores.now.items c.place_of.new.scores.items c.place_of.new.places c.in_ok-place.place s _ c.args.standing
    c.in_ok-place.ensures.places c.in_ok-place.ensures.place
    (ap (λ (t : Score). t.id) c.index_mut.ensures.value) (ap (λ (t : Score). t.stamp) c.index_mut.ensures.value) (ap (λ (t : Score). t.hooks + 1) c.index_mut.ensures.value)).1

pub returns-clause-added : goal.returns-clause-added
returns-clause-added c =
    let s : Score = c.index_mut.result.now in
    (counted_at c.args.scores.now.items c.place_of.new.scores.items c.place_of.new.places c.in_ok-place.place s _ c.args.standing
    c.in_ok-place.ensures.places c.in_ok-place.ensures.place
    (ap (λ (t : Score). t.id) c.index_mut.ensures.value) (ap (λ (t : Score). t.stamp) c.index_mut.ensures.value) (ap (λ (t : Score). t.hooks + 1) c.index_mut.ensures.value)).0
