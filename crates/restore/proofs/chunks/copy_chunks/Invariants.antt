use Rattle.std.proofs.Common.{◌≡◌, take}
use Rattle.depot.specs.Seen.{shelf_of}
use Rattle.restore.specs.Reads.{listed_by}
use Rattle.restore.specs.Copies.{shelves, AreChunksCopied}
use Rattle.restore.proofs.chunks.copy_chunks.Given as goal

abbrev pub invariant-loop-i : goal.invariant-loop-i
invariant-loop-i g l =
    ((shelf_of l.depot).ghost_name ≡ (shelf_of l.initial.depot).ghost_name)
    × AreChunksCopied l.output (shelves g.F.Shelf g.K.Shelf l.initial.files l.initial.depot) (shelves g.F.Shelf g.K.Shelf l.files l.depot)
    (take l.i (listed_by l.manifest)) l.start l.count
