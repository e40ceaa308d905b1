use Rattle.std.proofs.Common.{◌≡◌, length, take}
use Rattle.depot.specs.Seen.{shelf_of, seen}
use Rattle.segment_store.specs.Loads.{HasLoaded}
use Rattle.segment_store.proofs.loading.load_others.Given as goal

abbrev pub invariant-loop-copy : goal.invariant-loop-copy
invariant-loop-copy g l =
    ((goal.iterator-loop-copy g).can_next l.copy-iterator)
    × ((goal.iterator-loop-copy g).is_finite l.copy-iterator)
    × (length l.manifests.items ≡ length l.yielded)
    × ((shelf_of l.depot).ghost_name ≡ (shelf_of l.initial.depot).ghost_name)
    × HasLoaded l.initial.cache.entries l.cache.entries (seen g.K.Shelf l.initial.depot) (seen g.K.Shelf l.depot) (take (length l.yielded) l.fn.champions) l.manifests.items
