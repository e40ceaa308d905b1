use Rattle.tttd_chunker.proofs.KeptLaws.{leaves-pending}
use Rattle.tttd_chunker.proofs.chunker.Chunker.next.Goals as goal

pub returns-in_ok-chunk-in-Cut-clause-taken : goal.returns-in_ok-chunk-in-Cut-clause-taken
returns-in_ok-chunk-in-Cut-clause-taken c =
    let left =
    leaves-pending c.self.inside.profile c.self.inside.buffer.items c.deref.result.now c.deref-in-Cut.result.now c.in_ok-chunk-in-Cut.chunk.items c.self.inside.start c.in-Cut.len
    c.args.self.now c.self.view_is c.deref.ensures.value c.deref-in-Cut.ensures.value c.in-Cut.ensures.progress (c.in_ok-chunk-in-Cut.ensures.items_if_clones_equal (λ x y e. e)) in
    left.taken

pub returns-in_ok-chunk-in-Cut-clause-cut : goal.returns-in_ok-chunk-in-Cut-clause-cut
returns-in_ok-chunk-in-Cut-clause-cut c =
    let left =
    leaves-pending c.self.inside.profile c.self.inside.buffer.items c.deref.result.now c.deref-in-Cut.result.now c.in_ok-chunk-in-Cut.chunk.items c.self.inside.start c.in-Cut.len
    c.args.self.now c.self.view_is c.deref.ensures.value c.deref-in-Cut.ensures.value c.in-Cut.ensures.progress (c.in_ok-chunk-in-Cut.ensures.items_if_clones_equal (λ x y e. e)) in
    left.cut

pub returns-in_ok-chunk-in-Cut-clause-sized : goal.returns-in_ok-chunk-in-Cut-clause-sized
returns-in_ok-chunk-in-Cut-clause-sized c =
    let left =
    leaves-pending c.self.inside.profile c.self.inside.buffer.items c.deref.result.now c.deref-in-Cut.result.now c.in_ok-chunk-in-Cut.chunk.items c.self.inside.start c.in-Cut.len
    c.args.self.now c.self.view_is c.deref.ensures.value c.deref-in-Cut.ensures.value c.in-Cut.ensures.progress (c.in_ok-chunk-in-Cut.ensures.items_if_clones_equal (λ x y e. e)) in
    (left.some, left.most)
