use Rattle.std.proofs.Common.{◌∙◌, [], ◌∷◌, ◌++◌, Some, None, subst, sym}
use Rattle.std.specs.Prelude.{Option}
use Rattle.outside.specs.declared.trouble.Trouble.{Trouble}
use Rattle.depot.specs.Seen.{seen}
use Rattle.job_run.specs.Erasing.{AreErased}
use Rattle.job_run.proofs.EraseLaws.{erased-more, worse-none}
use Rattle.job_run.proofs.erasing.erase_all.Goals as goal

pub loop-removal-preserved-in-Err : goal.loop-removal-preserved-in-Err
loop-removal-preserved-in-Err g c =
    let old = c.loop-removal in
    record {
      same_reference = c.in-Err.ensures.same_reference ∙ old.invariant.same_reference;
      erased =
          subst (λ (met : Option Trouble). AreErased (seen g.K.Shelf c.args.depot.now) (seen g.K.Shelf c.remove.new.self) (old.yielded ++ c.in-Some.removal ∷ []) met) (sym c.worse-met.ensures)
          (erased-more old.yielded c.in-Some.removal (seen g.K.Shelf c.args.depot.now) (seen g.K.Shelf old.depot) (seen g.K.Shelf c.remove.new.self) old.met (Some c.in-Err.trouble) old.invariant.erased c.in-Err.ensures.answer.1);
    }

pub loop-removal-preserved : goal.loop-removal-preserved
loop-removal-preserved g c =
    let old = c.loop-removal in
    record {
      same_reference = c.in_default.ensures.same_reference ∙ old.invariant.same_reference;
      erased =
          subst (λ (met : Option Trouble). AreErased (seen g.K.Shelf c.args.depot.now) (seen g.K.Shelf c.remove.new.self) (old.yielded ++ c.in-Some.removal ∷ []) met) (sym (worse-none old.met))
          (erased-more old.yielded c.in-Some.removal (seen g.K.Shelf c.args.depot.now) (seen g.K.Shelf old.depot) (seen g.K.Shelf c.remove.new.self) old.met None old.invariant.erased c.in_default.ensures.answer);
    }
