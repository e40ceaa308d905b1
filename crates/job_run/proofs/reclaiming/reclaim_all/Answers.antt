use Rattle.std.proofs.Common.{◌<◌, length, Option, refl, sym, ◌∙◌, subst, arith}
use Rattle.history.specs.Need.{erasable}
use Rattle.outside.specs.declared.trouble.Trouble.{Trouble}
use Rattle.depot.specs.Seen.{seen}
use Rattle.store_core.specs.View.{past_of}
use Rattle.store_core.specs.Answers.{reclaim_entry}
use Rattle.job_run.specs.Erasing.{AreErased, none, more}
use Rattle.job_run.specs.Erasing.LastReclaim.{few, unmade}
use Rattle.job_run.proofs.ReclaimLaws.{less_room, all_sixteen, met_trouble, met_none}
use Rattle.job_run.proofs.reclaiming.reclaim_all.Goals as goal

pub loop-removals-init : goal.loop-removals-init
loop-removals-init g c = record { same_reference = refl; earlier = none }

pub returns-in-Err-clause-done : goal.returns-in-Err-clause-done
returns-in-Err-clause-done g c = record {
  between = c.loop-removals.state;
  shelf = seen g.K.Shelf c.loop-removals.depot;
  earlier = c.loop-removals.invariant.earlier;
  last = unmade c.in-Err.fault c.of_point.ensures c.in-Err.ensures refl;
}

pub returns-then-is_some-clause-done : goal.returns-then-is_some-clause-done
returns-then-is_some-clause-done g c = record {
  between = c.loop-removals.state;
  shelf = seen g.K.Shelf c.loop-removals.depot;
  earlier = c.loop-removals.invariant.earlier;
  last = met_trouble c.args.author c.loop-removals.state c.reclaim.new.self (seen g.K.Shelf c.loop-removals.depot) (seen g.K.Shelf c.erase_all-met.new.depot) c.in-Ok.removals c.erase_all-met.result c.of_erases.result
      (sym c.is_some.ensures ∙ c.if-is_some.true) c.of_erases.ensures c.in-Ok.ensures c.erase_all-met.ensures.erased;
}

pub returns-then-count-lt-MOST_OBJECTS-clause-done : goal.returns-then-count-lt-MOST_OBJECTS-clause-done
returns-then-count-lt-MOST_OBJECTS-clause-done g c =
    let nothing = met_none c.erase_all-met.result (sym c.is_some.ensures ∙ c.if-is_some.false) in
    let count : length c.in-Ok.removals.items < 16 = omega (arith, c.if-count-lt-MOST_OBJECTS.true, c.len-count.ensures, c.in-Ok.removals.ok.0) in
    record {
      between = c.loop-removals.state;
      shelf = seen g.K.Shelf c.loop-removals.depot;
      earlier = c.loop-removals.invariant.earlier;
      last = few c.in-Ok.removals refl c.in-Ok.ensures count
          (subst (λ (met : Option Trouble). AreErased (seen g.K.Shelf c.loop-removals.depot) (seen g.K.Shelf c.erase_all-met.new.depot) c.in-Ok.removals.items met) nothing c.erase_all-met.ensures.erased);
    }

pub loop-removals-smaller : goal.loop-removals-smaller
loop-removals-smaller g c = less_room c.loop-removals.state c.reclaim.new.self (reclaim_entry c.loop-removals.state c.args.author) c.in-Ok.ensures.1

pub loop-removals-preserved : goal.loop-removals-preserved
loop-removals-preserved g c =
    let old = c.loop-removals in
    let nothing = met_none c.erase_all-met.result (sym c.is_some.ensures ∙ c.if-is_some.false) in
    record {
      same_reference = c.erase_all-met.ensures.same_reference ∙ old.invariant.same_reference;
      earlier = more old.state c.reclaim.new.self (seen g.K.Shelf old.depot) (seen g.K.Shelf c.erase_all-met.new.depot) c.in-Ok.removals old.invariant.earlier c.in-Ok.ensures
          (all_sixteen (erasable (past_of old.state)) c.in-Ok.removals.items c.in-Ok.ensures.0 (λ fewer. omega (arith, fewer, c.if-count-lt-MOST_OBJECTS.false, c.len-count.ensures, c.in-Ok.removals.ok.0)))
          (subst (λ (met : Option Trouble). AreErased (seen g.K.Shelf old.depot) (seen g.K.Shelf c.erase_all-met.new.depot) c.in-Ok.removals.items met) nothing c.erase_all-met.ensures.erased);
    }
