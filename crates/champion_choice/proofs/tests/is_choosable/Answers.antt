use Rattle.std.proofs.Common.{◌≡◌, ◌<◌, true, List, length, sym, subst, arith}
use Rattle.std.proofs.lemmas.List.{length-map, take_all}
use Rattle.std.specs.List.{list_all}
use Rattle.ss_base.specs.declared.ids.Standing.{Standing}
use Rattle.champion_choice.specs.Scores.{StandsOnce}
use Rattle.champion_choice.specs.Lists.{standings}
use Rattle.champion_choice.proofs.ListLaws.{item_at}
use Rattle.champion_choice.proofs.TestLaws.{AreChoosable, has_own_stamp, choosable_none, choosable_more, stamps_tell}
use Rattle.champion_choice.proofs.tests.is_choosable.Goals as goal

pub loop-stood-init : goal.loop-stood-init
loop-stood-init c = choosable_none

pub loop-stood-preserved : goal.loop-stood-preserved
loop-stood-preserved c =
    let i = c.loop-stood.stood-index in
    let d = c.stood-item.result.items in
    let long = length-map c.args.lists.now (λ v. v.items) in
    let below : i < length (standings c.args.lists.now) = omega (arith, long) in
    let once = item_at c.args.lists.now i c.stood-item.result c.as_slice.result.now c.as_slice.ensures.value c.stood-item.is in
    let own = item_at c.args.lists.now i c.stood-item.result c.as_slice-in-loop-stood.result.now c.as_slice-in-loop-stood.ensures.value c.stood-item.is in
    choosable_more (standings c.args.lists.now) i d below c.loop-stood.invariant
    (subst StandsOnce once c.if-not-stands_once.ensures)
    (subst (λ (xs : List Standing). list_all has_own_stamp xs ≡ true) own (sym c.if-not-have_own_stamps.ensures))

pub returns : goal.returns
returns c =
    let all = standings c.args.lists.now in
    let long = length-map c.args.lists.now (λ v. v.items) in
    let so = subst AreChoosable (take_all c.loop-stood.stood-index all (omega (arith, long))) c.loop-stood.invariant in
    record { once = so.once; stamps = stamps_tell all so }
