use Rattle.std.proofs.Common.{◌≡◌, List, map, subst, sym, ap, ◌∙◌}
use Rattle.std.specs.List.{dedup}
use Rattle.std.proofs.lemmas.List.Filters.{dedup_is}
use Rattle.ss_base.specs.declared.ids.ContainerId.{ContainerId}
use Rattle.ss_base.specs.declared.ids.Place.{Place}
use Rattle.manifest_codec.specs.Containers.{AreContainers}
use Rattle.ss_base.specs.Ids.{same_container}
use Rattle.manifest_codec.proofs.ContainersLaws.{AreContainers-dedup}
use Rattle.manifest_codec.proofs.containers_of.containers.Goals as goal

pub returns : goal.returns
returns c =
    let places = c.args.manifest.now.places.items in
    let ids = c.in_ok-ids.ids.items in
    let sorted = c.sort_unstable.new.self.items in
    let kept : c.dedup.new.self.items ≡ dedup same_container sorted = dedup_is _ sorted c.dedup.new.self.items c.dedup.ensures.filtered in
    let same : ids ≡ map (λ (p : Place). p.container) places = c.in_ok-ids.ensures ∙ ap (map (λ (p : Place). p.container)) c.deref.ensures.value in
    subst (λ (left : List ContainerId). AreContainers places left) (sym kept)
    (AreContainers-dedup places ids sorted same c.sort_unstable.ensures.permutation c.sort_unstable.ensures.sorted)
