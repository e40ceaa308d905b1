use Rattle.std.proofs.Common.{take}
use Rattle.manifest_cache.specs.Cached.{held}
use Rattle.segment_store.specs.Copies.{AreCopies, IsSame}
use Rattle.segment_store.proofs.loading.copies_held.Given as goal

abbrev pub invariant-loop-kept : goal.invariant-loop-kept
invariant-loop-kept l =
    AreCopies (held l.initial.cache.entries) (take l.kept-index l.champions) l.copies.items × IsSame l.initial.cache.entries l.cache.entries
