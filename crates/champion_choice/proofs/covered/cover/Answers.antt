use Rattle.std.proofs.Common.{◌≡◌, ◌-◌, ◌∙◌, ◌<◌, ◌+◌, ◌||◌, length, take, drop, set, false, List, [], Bool, refl, sym, ap, subst, arith, get_or}
use Rattle.std.proofs.lemmas.List.{length-map}
use Rattle.ss_base.specs.declared.ids.Standing.{Standing}
use Rattle.ss_base.specs.Champions.{stands_in, hooks_covered, candidates}
use Rattle.champion_choice.specs.Scores.{id_at, AreCells, StandsOnce, hooks_at}
use Rattle.champion_choice.specs.Lists.{shown, left, marked, covered_by}
use Rattle.champion_choice.proofs.PlaceLaws.{apart_same, cells_split, cells_own, cells_behind}
use Rattle.champion_choice.proofs.ListLaws.{lost_none, lost_step, marked_more, marked_next, candidates_drop, no_slice, slice_at}
use Rattle.champion_choice.proofs.covered.cover.Goals as goal

pub loop-i-init : goal.loop-i-init
loop-i-init c = record {
  covered = refl;
  cells = c.requires.placed.places;
  ids = λ p. refl;
  hooks = λ q. lost_none c.args.champion.1.id q (hooks_at c.args.scores.now q);
  stamps = λ q. refl;
}

pub split_at-requires : goal.split_at-requires
split_at-requires c =
    let all = shown c.args.lists.now in
    let i = c.loop-i.i in
    let d : List Standing = [] in
    let same = slice_at c.args.lists.now i in
    let below : i < length all = omega (arith, length-map c.args.lists.now (λ v. v.now)) in
    let cells = subst (λ (l : List Standing). AreCells (id_at c.args.scores.now) c.loop-i.rest.now l) (candidates_drop all i d below) c.loop-i.invariant.cells in
    let within = (cells_split (id_at c.args.scores.now) c.loop-i.rest.now (get_or all i d) (candidates (drop (i + 1) all)) cells).within in
    let long : (length (get_or c.args.lists.now i no_slice).now) ≡ length (get_or all i d) = ap length same in
    omega (arith, long, within)

pub cover_hook-now-requires-clause-apart : goal.cover_hook-now-requires-clause-apart
cover_hook-now-requires-clause-apart c = apart_same (id_at c.args.scores.now) (id_at c.loop-i.scores) c.loop-i.invariant.ids c.requires.placed.apart

pub cover_hook-now-requires-clause-cells : goal.cover_hook-now-requires-clause-cells
cover_hook-now-requires-clause-cells c =
    let all = shown c.args.lists.now in
    let i = c.loop-i.i in
    let d : List Standing = [] in
    let same = slice_at c.args.lists.now i in
    let below : i < length all = omega (arith, length-map c.args.lists.now (λ v. v.now)) in
    let cells = subst (λ (l : List Standing). AreCells (id_at c.args.scores.now) c.loop-i.rest.now l) (candidates_drop all i d below) c.loop-i.invariant.cells in
    let split = cells_split (id_at c.args.scores.now) c.loop-i.rest.now (get_or all i d) (candidates (drop (i + 1) all)) cells in
    cells_own (id_at c.args.scores.now) (id_at c.loop-i.scores) c.loop-i.rest.now c.split_at.result.0.now (length (get_or c.args.lists.now i no_slice).now) (get_or all i d) (get_or c.args.lists.now i no_slice).now
    c.loop-i.invariant.ids c.split_at.ensures.front (ap length same) same split.own

pub cover_hook-now-requires-clause-once : goal.cover_hook-now-requires-clause-once
cover_hook-now-requires-clause-once c =
    let same = slice_at c.args.lists.now c.loop-i.i in
    let below : c.loop-i.i < length (shown c.args.lists.now) = omega (arith, length-map c.args.lists.now (λ v. v.now)) in
    subst StandsOnce (sym same) (c.requires.once c.loop-i.i [] below)

pub loop-i-preserved : goal.loop-i-preserved
loop-i-preserved c =
    let all = shown c.args.lists.now in
    let i = c.loop-i.i in
    let d : List Standing = [] in
    let long = length-map c.args.lists.now (λ v. v.now) in
    let same = slice_at c.args.lists.now i in
    let below : i < length all = omega (arith, long) in
    let fits : length c.args.covered.now ≡ length all = c.requires.fits ∙ sym long in
    let flags = marked c.args.champion.1.id (take i all) c.args.covered.now in
    let flag : get_or c.loop-i.covered i false ≡ get_or c.args.covered.now i false = ap (λ (l : List Bool). get_or l i false) c.loop-i.invariant.covered ∙ marked_next c.args.champion.1.id c.args.covered.now all i false in
    let cells = subst (λ (l : List Standing). AreCells (id_at c.args.scores.now) c.loop-i.rest.now l) (candidates_drop all i d below) c.loop-i.invariant.cells in
    let split = cells_split (id_at c.args.scores.now) c.loop-i.rest.now (get_or all i d) (candidates (drop (i + 1) all)) cells in
    record {
      covered =
          ap (λ (l : List Bool). set l i c.cover_hook-now.result) c.loop-i.invariant.covered
          ∙ ap (λ b. set flags i b) (c.cover_hook-now.ensures.covered ∙ (λ k. get_or (c.loop-i.invariant.covered k) i false || stands_in c.args.champion.1.id (same k)))
          ∙ sym (marked_more c.args.champion.1.id c.args.covered.now all i false d below fits);
      cells =
          cells_behind (id_at c.args.scores.now) c.loop-i.rest.now c.split_at.result.1.now (length (get_or c.args.lists.now i no_slice).now) (get_or all i d) (candidates (drop (i + 1) all))
          c.split_at.ensures.back (ap length same) split.behind;
      ids = λ p. c.cover_hook-now.ensures.ids p ∙ c.loop-i.invariant.ids p;
      hooks = λ q.
          lost_step c.args.champion.1.id q c.args.covered.now all i false d _ _ _ below fits (c.loop-i.invariant.hooks q)
          (c.cover_hook-now.ensures.hooks q
          ∙ ap (λ (l : List Standing). hooks_at c.loop-i.scores q - hooks_covered (covered_by c.args.champion.1.id (left (get_or c.loop-i.covered i false) l)) q) same
          ∙ ap (λ b. hooks_at c.loop-i.scores q - hooks_covered (covered_by c.args.champion.1.id (left b (get_or all i d))) q) flag);
      stamps = λ q. c.cover_hook-now.ensures.stamps q ∙ c.loop-i.invariant.stamps q;
    }

pub cover_hook-now-requires-clause-champion : goal.cover_hook-now-requires-clause-champion
cover_hook-now-requires-clause-champion c = c.loop-i.invariant.ids c.args.champion.0 ∙ c.requires.champion
