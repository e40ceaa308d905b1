use Rattle.std.proofs.Common.{sym, ◌∙◌, ap, rules, Some, None, ◌++◌, [], unwrap_or}
use Rattle.std.specs.FinMap as map
use Rattle.std.proofs.lemmas.Result.{err_from_is_err_and, IfOk-equal}
use Rattle.outside.specs.ObjectMap.{objects_of}
use Rattle.outside.proofs.ObjectLaws.{insert_same}
use Rattle.outside.proofs.ObjectMapLaws.{objects_of-set, found_in}
use Rattle.outside.proofs.object_map.ObjectMap.add.Goals as goal

pub returns-in_err-extend_from_slice-in-Some-clause-err : goal.returns-in_err-extend_from_slice-in-Some-clause-err
returns-in_err-extend_from_slice-in-Some-clause-err c =
    let p = err_from_is_err_and c.from_residual.result c.from_residual.ensures.1 in
    let w = c.extend_from_slice.new.self in
    let there = found_in c.args.self.now c.self.inside.objects c.args.name.now (Some c.in-Some.object.now) c.self.view_is c.in-Some.ensures.value in
    let set = objects_of-set c.args.name.now c.self.inside.objects (c.get_mut.follows.lender w) w ((c.get_mut.follows.holds w).3 (search rules)) in
    rw (p.1) (set ∙ (λ i. map.insert (c.self.view_is i) c.args.name.now (c.in_err-extend_from_slice-in-Some.ensures.items i)) ∙ insert_same c.args.self.now c.args.name.now c.in-Some.object.now.items (sym there))

pub returns-in_ok-extend_from_slice-in-Some-clause-ok : goal.returns-in_ok-extend_from_slice-in-Some-clause-ok
returns-in_ok-extend_from_slice-in-Some-clause-ok c =
    let w = c.extend_from_slice.new.self in
    let there = found_in c.args.self.now c.self.inside.objects c.args.name.now (Some c.in-Some.object.now) c.self.view_is c.in-Some.ensures.value in
    let set = objects_of-set c.args.name.now c.self.inside.objects (c.get_mut.follows.lender w) w ((c.get_mut.follows.holds w).3 (search rules)) in
    let items = c.in_ok-extend_from_slice-in-Some.ensures.items ∙ ap (λ o. unwrap_or o [] ++ c.args.bytes.now) there in
    set ∙ (λ i. map.insert (c.self.view_is i) c.args.name.now (items i))

pub returns-in-None-clause-ok : goal.returns-in-None-clause-ok
returns-in-None-clause-ok c =
    let absent = found_in c.args.self.now c.self.inside.objects c.args.name.now None c.self.view_is c.in-None.ensures.value in
    let same = ap objects_of c.get_mut.follows.holds-at-none ∙ c.self.view_is in
    let added = ap (λ o. unwrap_or o [] ++ c.args.bytes.now) absent in
    IfOk-equal c.put.result _ _ _ c.put.ensures.ok (λ i. map.insert (same i) c.args.name.now (added i))
