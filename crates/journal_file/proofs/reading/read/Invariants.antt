use Rattle.std.proofs.Common.{◌≡◌, ◌-◌, ◌^◌}
use Rattle.journal_file.specs.Front.{IsFront, scan_text}
use Rattle.journal_file.proofs.ReadLaws.{IsSoFar}
use Rattle.journal_file.proofs.reading.read.Given as goal

-- a front of the journal was read, and nothing else was done
abbrev pub invariant-loop-scan : goal.invariant-loop-scan
invariant-loop-scan g l =
    IsFront l.scan
    × IsSoFar (g.S.Shelf.held l.fn.shelf) (g.S.Shelf.gave l.fn.shelf) (g.S.Shelf.gave l.shelf) (g.S.Shelf.reads l.fn.shelf) (g.S.Shelf.reads l.shelf) (scan_text l.scan) l.place
    × (g.S.Shelf.held l.shelf ≡ g.S.Shelf.held l.fn.shelf)
    × (g.S.Shelf.wrote l.shelf ≡ g.S.Shelf.wrote l.fn.shelf)
    × (g.S.Shelf.erased l.shelf ≡ g.S.Shelf.erased l.fn.shelf)
    × (g.S.Shelf.faults l.shelf ≡ g.S.Shelf.faults l.fn.shelf)

abbrev pub decreases-loop-scan : goal.decreases-loop-scan
decreases-loop-scan g l = 2 ^ 40 - l.place
