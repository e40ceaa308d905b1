use Rattle.std.proofs.Common.{refl}
use Rattle.segmenter.proofs.JoinedLaws.{parts_of-push, ArePieces-push}
use Rattle.segmenter.proofs.joined.Joined.push.Goals as goal

pub invariant_of-self-2 : goal.invariant_of-self-2
invariant_of-self-2 c =
    rw (c.in_ok-push.ensures.items, c.in_ok-reserve.ensures.items, c.in_ok-extend_from_slice.ensures.items, c.piece_of-piece.ensures)
    (ArePieces-push _ _ _ c.self.invariant)

pub returns-clause-added : goal.returns-clause-added
returns-clause-added c =
    rw (c.in_ok-push.ensures.items, c.in_ok-reserve.ensures.items, c.in_ok-extend_from_slice.ensures.items, c.piece_of-piece.ensures, ← c.self.view_is)
    (parts_of-push _ _ _ _ c.self.invariant.sum refl)
