use Rattle.std.proofs.Common.{◌≡◌, take, true}
use Rattle.std.specs.List.{list_all}
use Rattle.sparse_index.specs.Lists.{is_ready}
use Rattle.sparse_index.proofs.index.Index.has_room.Given as goal

abbrev pub invariant-loop-hook : goal.invariant-loop-hook
invariant-loop-hook g l = list_all (is_ready l.self) (take l.hook-index l.hooks) ≡ true
