use Rattle.std.proofs.Common.{◌≡◌, take}
use Rattle.history.specs.OwnEnd.{end_of, greatest_by}
use Rattle.legal_history.proofs.uses.end_among.Given as goal

abbrev pub invariant-loop-id : goal.invariant-loop-id
invariant-loop-id l = l.end ≡ greatest_by (end_of l.session) (take l.id-index l.uses)
