use Rattle.std.proofs.Common.{◌≡◌, ◌+◌, ◌<◌, [], ◌∷◌, ◌++◌, length, All, get_or, take, drop, refl, sym, subst, ap, ◌∙◌, append-nil, append_assoc, length-append, arith}
use Rattle.std.specs.List.{sum_by}
use Rattle.std.proofs.lemmas.List.Elements.{All-push}
use Rattle.ss_base.specs.declared.name.Piece.{Piece}
use Rattle.container_file.specs.declared.container_end.ContainerEnd.{ContainerEnd}
use Rattle.container_file.specs.Chunk.{IsChunk, the_chunk, fresh_chunks}
use Rattle.container_file.specs.Layout.{puts, places, end_after}
use Rattle.container_file.specs.Plan.{IsLaidOut}
use Rattle.container_file.proofs.LayoutLaws.{end_bounds}
use Rattle.container_file.proofs.PlanLaws.{takes-fresh, skips-stored, left-after, none-left, nothing-laid}
use Rattle.container_file.proofs.planning.plan.Goals as goal
use Rattle.container_file.proofs.planning.plan.Goals.{then-fresh-i+in_ok-add, else-fresh-i}

pub loop-i-init : goal.loop-i-init
loop-i-init c = record {
  done = [];
  all = refl;
  chunks = λ k d lt. absurd (omega arith);
  laid = nothing-laid c.args.end c.args.room _ c.new.ensures.items c.new-2.ensures.items refl;
  count = omega arith;
  left = c.requires.bytes;
}

pub add-requires-clause-containers : goal.add-requires-clause-containers
add-requires-clause-containers c =
    let before = c.loop-i.invariant in
    let bounds = end_bounds c.args.end c.args.room before.done in
    let same = ap (λ (e : ContainerEnd). e.containers) before.laid.end_is in
    let enough = c.requires.containers in
    let lt = c.loop-i-test.true in
    omega (arith, bounds.1, same, before.count, enough, lt)

pub loop-i-preserved : goal.loop-i-preserved
loop-i-preserved c =
    let before = c.loop-i.invariant in
    let i = c.loop-i.i in
    let pieces = c.args.pieces.now in
    let fresh = c.args.fresh.now in
    let rest = c.loop-i.rest.now in
    let none : Piece = record { name = record { 0 = [] }; len = 0 } in
    let p = get_or pieces i none in
    let lt : i < length pieces = c.loop-i-test.true in
    let lf : i < length fresh = omega (arith, c.requires.marks) in
    let left : sum_by (λ (q : Piece). q.len) (drop (i + 1) pieces) ≡ length c.split_at.result.1.now = left-after pieces rest i none lt before.left ∙ ap length (sym c.split_at.ensures.back) in
    elim c.if-fresh-i.branch [
      | then-fresh-i+in_ok-add w ↦ (
          let chunk = the_chunk (get_or pieces i none) c.split_at.result.0.now in
          let others = fresh_chunks (drop (i + 1) pieces) c.split_at.result.1.now (drop (i + 1) fresh) in
          let size = length-append before.done (chunk ∷ []) in
          record {
            done = before.done ++ chunk ∷ [];
            all = append_assoc before.done (chunk ∷ []) others
                ∙ ap (λ t. before.done ++ the_chunk p t ∷ others) c.split_at.ensures.front
                ∙ ap (λ r. before.done ++ the_chunk p (take p.len rest) ∷ fresh_chunks (drop (i + 1) pieces) r (drop (i + 1) fresh)) c.split_at.ensures.back
                ∙ ap (λ cs. before.done ++ cs) (sym (takes-fresh pieces rest fresh i none _ lt lf w.if-fresh-i.true))
                ∙ before.all;
            chunks = All-push IsChunk before.done chunk before.chunks w.in_ok-add.ensures.chunk;
            laid = subst (IsLaidOut c.args.end c.args.room (before.done ++ chunk ∷ [])) (sym w.laid-is) (w.in_ok-add.ensures.laid c.args.end before.done before.laid);
            count = omega (arith, size, before.count);
            left = left;
          })
      | else-fresh-i w ↦ record {
        done = before.done;
        all = ap (λ r. before.done ++ fresh_chunks (drop (i + 1) pieces) r (drop (i + 1) fresh)) c.split_at.ensures.back
            ∙ ap (λ cs. before.done ++ cs) (sym (skips-stored pieces rest fresh i none _ lt lf w.if-fresh-i.false))
            ∙ before.all;
        chunks = before.chunks;
        laid = subst (IsLaidOut c.args.end c.args.room before.done) (sym w.laid-is) before.laid;
        count = omega (arith, before.count);
        left = left;
      }
    ]

pub returns-clause-puts : goal.returns-clause-puts
returns-clause-puts c =
    let before = c.loop-i.invariant in
    before.laid.puts_are ∙ ap (puts c.args.end c.args.room) (sym (append-nil before.done) ∙ ap (λ cs. before.done ++ cs) (sym (none-left c.args.pieces.now c.loop-i.rest.now c.args.fresh.now c.loop-i.i c.loop-i-test.false)) ∙ before.all)

pub returns-clause-places : goal.returns-clause-places
returns-clause-places c =
    let before = c.loop-i.invariant in
    before.laid.places_are ∙ ap (places c.args.end c.args.room) (sym (append-nil before.done) ∙ ap (λ cs. before.done ++ cs) (sym (none-left c.args.pieces.now c.loop-i.rest.now c.args.fresh.now c.loop-i.i c.loop-i-test.false)) ∙ before.all)

pub returns-clause-end : goal.returns-clause-end
returns-clause-end c =
    let before = c.loop-i.invariant in
    before.laid.end_is ∙ ap (end_after c.args.end c.args.room) (sym (append-nil before.done) ∙ ap (λ cs. before.done ++ cs) (sym (none-left c.args.pieces.now c.loop-i.rest.now c.args.fresh.now c.loop-i.i c.loop-i-test.false)) ∙ before.all)

pub returns-clause-chunks : goal.returns-clause-chunks
returns-clause-chunks c =
    let before = c.loop-i.invariant in
    subst (All IsChunk) (sym (append-nil before.done) ∙ ap (λ cs. before.done ++ cs) (sym (none-left c.args.pieces.now c.loop-i.rest.now c.args.fresh.now c.loop-i.i c.loop-i-test.false)) ∙ before.all) before.chunks
