use Rattle.std.proofs.Common.{◌≡◌, take}
use Rattle.depot.specs.Seen.{shelf_of}
use Rattle.restore.specs.Copies.{shelves, AreManifestsCopied}
use Rattle.restore.proofs.manifests.copy_manifests.Given as goal

abbrev pub invariant-loop-kept : goal.invariant-loop-kept
invariant-loop-kept g l =
    ((shelf_of l.depot).ghost_name ≡ (shelf_of l.initial.depot).ghost_name)
    × AreManifestsCopied l.output (shelves g.F.Shelf g.K.Shelf l.initial.files l.initial.depot) (shelves g.F.Shelf g.K.Shelf l.files l.depot)
    (take l.kept-index l.kepts) l.count
