use Rattle.std.proofs.Common.{◌≡◌, ◌+◌, ◌/◌, length, fold}
use Rattle.std.specs.Slice.Iter.{chunks_rest, chunks_size}
use Rattle.fx_hash.specs.Fx.{one_more, words}
use Rattle.fx_hash.proofs.hasher.FxHasherHasher.write.Given as goal

abbrev pub invariant-loop-part : goal.invariant-loop-part
invariant-loop-part l =
    let rest = chunks_rest l.part-iterator in
    goal.iterator-loop-part.can_next l.part-iterator
    × goal.iterator-loop-part.is_finite l.part-iterator
    × (chunks_size l.part-iterator ≡ 8)
    × (fold one_more l.initial.self.state (words ((length l.bytes + 7) / 8) l.bytes) ≡ fold one_more l.self.state (words ((length rest + 7) / 8) rest))
