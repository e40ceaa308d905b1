use Rattle.std.proofs.Common.{subst, sym, ◌∙◌}
use Rattle.manifest_codec.specs.Containers.{AreContainers}
use Rattle.depot.proofs.UsesLaws.{same_list, other_list}
use Rattle.depot.proofs.loading.has_uses.Goals as goal

pub returns-clause-yes : goal.returns-clause-yes
returns-clause-yes c = λ has.
    let same = same_list c.as_slice.result.now c.args.uses.now (sym c.eq.ensures ∙ has) in
    subst (AreContainers c.args.manifest.now.places.items) (sym c.as_slice.ensures.value ∙ same) c.in_ok-found.ensures

pub returns-clause-no : goal.returns-clause-no
returns-clause-no c = λ hasnt like.
    other_list c.args.manifest.now.places.items c.as_slice.result.now c.args.uses.now
    (subst (AreContainers c.args.manifest.now.places.items) (sym c.as_slice.ensures.value) c.in_ok-found.ensures)
    (sym c.eq.ensures ∙ hasnt) like
