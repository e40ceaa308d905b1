use Rattle.std.proofs.Common.{◌≡◌, take, filter_map}
use Rattle.legal_history.specs.Recorded.{past_of}
use Rattle.store_core.specs.View.{kept}
use Rattle.store_core.proofs.keeping.all_kept.Given as goal

abbrev pub invariant-loop-id : goal.invariant-loop-id
invariant-loop-id l = l.found.items ≡ filter_map (λ id. kept id (past_of l.history)) (take l.id-index l.ids)
