use Rattle.std.proofs.Common.{◌≡◌, Some, None, sym, subst}
use Rattle.std.specs.HashMap.{get}
use Rattle.ss_base.specs.Ids.{same_piece}
use Rattle.lack_plan.specs.Plan.{IsKnown}
use Rattle.lack_plan.proofs.MapLaws.{places-found, places-push, lacks-none, first-found}
use Rattle.lack_plan.proofs.planning.origin_of.Goals as goal

pub returns-in-Some-clause-origin : goal.returns-in-Some-clause-origin
returns-in-Some-clause-origin c = λ before lists has known.
    let is : get same_piece c.args.earlier.now c.args.piece ≡ Some c.in-Some.place = cc in
    first-found before c.args.earlier.now c.args.piece c.in-Some.place is has

pub returns-in-Some-clause-places : goal.returns-in-Some-clause-places
returns-in-Some-clause-places c = λ before at has.
    let is : get same_piece c.args.earlier.now c.args.piece ≡ Some c.in-Some.place = cc in
    places-found before c.args.earlier.now c.args.piece c.in-Some.place is has

pub returns-in-Some-copied-clause-origin : goal.returns-in-Some-copied-clause-origin
returns-in-Some-copied-clause-origin c = λ before lists has known.
    let none : get same_piece c.args.earlier.now c.args.piece ≡ None = cc in
    let is : get same_piece c.args.known.now c.args.piece ≡ Some (c.in-Some-copied.which, c.in-Some-copied.at) = cc in
    (lacks-none before c.args.earlier.now c.args.piece none has, subst (IsKnown c.args.piece lists) is (known c.args.piece))

pub returns-in-Some-copied-clause-places : goal.returns-in-Some-copied-clause-places
returns-in-Some-copied-clause-places c = λ before at has.
    let none : get same_piece c.args.earlier.now c.args.piece ≡ None = cc in
    places-push before c.args.earlier.now c.insert.new.self c.args.piece c.args.at (sym at) (lacks-none before c.args.earlier.now c.args.piece none has) c.in_ok-insert.ensures.updates has

pub returns-in-None-clause-origin : goal.returns-in-None-clause-origin
returns-in-None-clause-origin c = λ before lists has known.
    let none : get same_piece c.args.earlier.now c.args.piece ≡ None = cc in
    let is : get same_piece c.args.known.now c.args.piece ≡ None = cc in
    (lacks-none before c.args.earlier.now c.args.piece none has, subst (IsKnown c.args.piece lists) is (known c.args.piece))

pub returns-in-None-clause-places : goal.returns-in-None-clause-places
returns-in-None-clause-places c = λ before at has.
    let none : get same_piece c.args.earlier.now c.args.piece ≡ None = cc in
    places-push before c.args.earlier.now c.insert.new.self c.args.piece c.args.at (sym at) (lacks-none before c.args.earlier.now c.args.piece none has) c.in_ok-insert.ensures.updates has
