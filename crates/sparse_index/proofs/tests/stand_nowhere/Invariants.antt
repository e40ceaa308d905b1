use Rattle.std.proofs.Common.{◌≡◌, All, take, false}
use Rattle.ss_base.specs.Champions.{stands_in}
use Rattle.sparse_index.specs.Lists.{list_at}
use Rattle.sparse_index.proofs.tests.stand_nowhere.Given as goal

abbrev pub invariant-loop-hook : goal.invariant-loop-hook
invariant-loop-hook g l = All (λ hook. stands_in l.id (list_at l.index hook) ≡ false) (take l.hook-index l.hooks)
